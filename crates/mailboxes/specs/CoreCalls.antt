-- What the calls of a core's seat that change its core alone answer, and what the seat holds then.
use Rattle.std.specs.Prelude.{◌≡◌, ◌⊎◌, Bool, true, false, List, Option, Some, None, Result, Ok, Err}
use Rattle.physiological_order.specs.declared.operation.Op.{Op}
use Rattle.core_pts.specs.declared.attempt.IssueError.{IssueError}
use Rattle.core_pts.specs.declared.attempt.IssueError.TheVariants as issue_error
use Rattle.core_pts.specs.CoreTable.{CoreState}
use Rattle.machine_table.specs.declared.event.Refusal.{Refusal}
use Rattle.machine_table.specs.declared.event.Refusal.TheVariants.{Busy, TooMany, NoMemory, Exhausted, Stopped}
use Rattle.seat_rule.specs.declared.views.Hold.{Hold}
use Rattle.mailboxes.specs.declared.core_seat.CoreSeat.{CoreSeat}
use Rattle.mailboxes.specs.BoxMoves.{hold}
use Rattle.closed_machine.specs.Sending.{OutboxState}

-- the core is now this one, and was issued these operations; all else is held as before
abbrev pub core_hold : Hold → CoreState → List Op → Hold
core_hold a core issued = record a { core = core; issued = issued }

-- the core and the outbox are now these; all else is held as before
abbrev pub sending_hold : Hold → CoreState → OutboxState → Hold
sending_hold a core out = record a { core = core; outbox = out.messages; counts = out.counts }

-- what the seat holds, and what it sends by, are as before
abbrev pub SameHold : CoreSeat → CoreSeat → Type 0
SameHold p q = (hold q.mail ≡ hold p.mail) × (q.part.outbox ≡ p.part.outbox)

-- the seat keeps its number, and where its next look begins
abbrev pub SamePlace : CoreSeat → CoreSeat → Type 0
SamePlace p q = (q.mail.number ≡ p.mail.number) × (q.mail.cursor ≡ p.mail.cursor)

-- an advance by the core's table; a stopped seat refuses
abbrev pub advance_answer : Bool → Option (Unit {0}) → Result (Unit {0}) Refusal
advance_answer true advanced = Err Stopped
advance_answer false None = Err Exhausted
advance_answer false (Some done) = Ok done

-- an issue by the core's table; a stopped seat refuses
abbrev pub issue_answer : Bool → Result (Unit {0}) IssueError → Result (Unit {0}) Refusal
issue_answer true issued = Err Stopped
issue_answer false (Err issue_error.Busy) = Err Busy
issue_answer false (Err issue_error.TooMany) = Err TooMany
issue_answer false (Ok done) = Ok done

-- the answer to an issue: that, or NoMemory if allocation failed for one that would be done
abbrev pub IssueAnswers : Bool → Result (Unit {0}) IssueError → Result (Unit {0}) Refusal → Type 0
IssueAnswers stopped issued result =
    (result ≡ issue_answer stopped issued)
    ⊎ ((result ≡ Err NoMemory) × (issue_answer stopped issued ≡ Ok tt))

-- A message in the hand for which times don't fit stops the seat.
use Rattle.std.proofs.Common.{◌≡◌, ℕ, ◌+◌, ◌-◌, ◌⊎◌, ◌&&◌, Bool, true, false, cond, max, Option}
use Rattle.std.proofs.Common.{Some, None, Result, refl, true≢false, arith}
use Rattle.std.proofs.lemmas.Bool.Decides.{nat_tests}
use Rattle.std.proofs.lemmas.Grind.{common_steps}
use Rattle.network.specs.declared.message.Body.TheVariants.{ShReq, WbReq}
use Rattle.network.specs.declared.message.Message.{Message}
use Rattle.network.specs.declared.message.TimedLine.{TimedLine}
use Rattle.private_cache.specs.declared.line_copy.LineCopy.{LineCopy}
use Rattle.timestamp_manager.specs.Lease.{fits, is_version, shared_lease}
use Rattle.core_pts.specs.CoreTable.{core_table}
use Rattle.llc_bank.specs.BankTable.{bank_table, entry_of}
use Rattle.llc_bank.specs.declared.entry.Entry.TheVariants.{Shared, Exclusive}
use Rattle.machine_table.specs.declared.event.Refusal.{Refusal as SeatRefusal}
use Rattle.inbox.specs.declared.answer.Answer.TheVariants.{Refused}
use Rattle.inbox.specs.declared.answer.Refusal.TheVariants.{Exhausted}
use Rattle.inbox.specs.declared.answer.Served.{Served}
use Rattle.inbox.specs.Inboxes.{inbox}
use Rattle.mailboxes.specs.declared.machine.Machine.{Machine}
use Rattle.mailboxes.specs.declared.bank_seat.BankSeat.{BankSeat}
use Rattle.mailboxes.specs.declared.sending.SendingBank.{SendingBank}
use Rattle.mailboxes.specs.declared.sending.SendingCore.{SendingCore}
use Rattle.seat_edges.specs.BankPlaceLaws.{asked}
use Rattle.mailboxes.specs.BankServing.{sending_bank_table}
use Rattle.mailboxes.specs.BankTurns.{BankServes}
use Rattle.seat_edges.specs.PlaceLaws.{Owns}
use Rattle.seat_edges.specs.StopLaws.{IsLate, LateReadersStop, LateRecallsStop, LateReturnsStop, StopsSeat}

-- Leases that are too late

module _ (wts rts pts lease : ℕ) (version : Option ℕ) where
  abbrev lease_if : Bool → Option (ℕ × Bool)
  lease_if fit = cond fit (Some (max (max rts (wts + lease)) (pts + lease), is_version wts version)) None

  never : (a : Bool) → lease_if (a && false) ≡ None
  never true = refl
  never false = refl

  no_lease : IsLate (wts + lease) ⊎ IsLate (pts + lease) → shared_lease wts rts pts version lease ≡ None
  no_lease is = let q0 = never (fits (wts + lease)) in grind (arith, nat_tests, q0)

-- Banks

module _ (p : SendingBank) (core n line pts : ℕ) (version : Option ℕ) where
  abbrev m : Message
  m = asked core n line (ShReq pts version)

  late_bank : bank_table p.bank m ≡ None → (places : ℕ) → sending_bank_table p m places ≡ (Refused Exhausted, p)
  late_bank e places = grind (arith, nat_tests)

  late_reader : (dirty : Bool) (timed : TimedLine) → entry_of p.bank line ≡ Some (Shared dirty timed) →
      IsLate (timed.wts + p.bank.lease) ⊎ IsLate (pts + p.bank.lease) → bank_table p.bank m ≡ None
  late_reader dirty timed e h = grind (arith, nat_tests, common_steps, no_lease)

  late_recall : (owner : ℕ) → entry_of p.bank line ≡ Some (Exclusive owner) → IsLate (pts + p.bank.lease) →
      bank_table p.bank m ≡ None
  late_recall owner e h = grind (arith, nat_tests)

bank-stops : (x : Machine) (p q : BankSeat) (result : Result Served SeatRefusal) (core n line pts : ℕ)
    (version : Option ℕ) → p.is_stopped ≡ false →
    p.mail.inbox.hand ≡ Some (asked core n line (ShReq pts version)) →
    bank_table p.part.bank (asked core n line (ShReq pts version)) ≡ None → BankServes x result p q →
    StopsSeat result q.is_stopped p.mail.inbox q.mail.inbox p.part q.part
bank-stops x p q result core n line pts version goes_on hand none s =
    let q0 = late_bank p.part core n line pts version none in grind (arith, nat_tests, q0)

pub readers : LateReadersStop
readers x p q result core n line pts version dirty timed goes_on hand entry is s =
    bank-stops x p q result core n line pts version goes_on hand
    (late_reader p.part core n line pts version dirty timed entry is) s

pub recalls : LateRecallsStop
recalls x p q result core n line pts owner version goes_on hand entry is s =
    bank-stops x p q result core n line pts version goes_on hand
    (late_recall p.part core n line pts version owner entry is) s

-- Cores

late_core : (p : SendingCore) (x : Message) (until : ℕ) (copy : LineCopy) → x.body ≡ WbReq until →
    Owns p.core x.line copy → IsLate (copy.wts + p.core.lease) → core_table p.core x ≡ None
late_core p x until copy is owns h = grind (arith, nat_tests)

pub returns_late : LateReturnsStop
returns_late m p q result x until copy goes_on hand is owns h s =
    let q0 = late_core p.part x until copy is owns h in grind (arith, nat_tests, q0)

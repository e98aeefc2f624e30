-- What a seat answers to a message to one of its parts: a core, a bank, or the DRAM behind a bank.
use Rattle.std.specs.Prelude.{◌≡◌, ◌⊎◌, ℕ, Bool, true, false, ◌&&◌, cond, nat_le, IsTrue, Option, Some, None}
use Rattle.network.specs.declared.message.Node.{Node}
use Rattle.network.specs.declared.message.Node.TheVariants as node
use Rattle.network.specs.declared.message.Message.{Message}
use Rattle.network.specs.declared.part.Reaction.{Reaction}
use Rattle.network.specs.Sends.{sent_by}
use Rattle.machine_table.specs.Step.{Step, Exhausts, Keeps, Drops, Makes, reacted}
use Rattle.inbox.specs.declared.answer.Answer.{Answer}
use Rattle.inbox.specs.declared.answer.Answer.TheVariants.{Delivered, Dropped, Started, Held, Refused}
use Rattle.inbox.specs.declared.answer.Refusal.TheVariants.{Full, NoMemory, Exhausted}
use Rattle.inbox.specs.Serving.{is_quiet}
use Rattle.closed_machine.specs.Sending.{OutboxState, can_still_send, can_send_out, noted, sent_out}

-- whether a message that the seat's part sends leaves the seat: at a core's seat each does, and at a bank's one to a
-- core
abbrev pub leaves : Bool → Node → Bool
leaves true to = true
leaves false (node.Core c) = true
leaves false (node.Bank b) = false
leaves false (node.Dram d) = false

-- how many places of the held list are needed: for the delivered message, if that stays, and for one that is sent
abbrev pub places_for : Bool → Bool → ℕ
places_for true true = 1
places_for true false = 2
places_for false true = 0
places_for false false = 1

module _ (is_core : Bool) where
  -- whether what would be sent, if anything, and the delivered message find their places, if the held list has this
  -- many: there is a number for the message that is sent, and a place in the outbox for one that leaves
  abbrev pub finds_places : OutboxState → ℕ → Option (Node × Bool) → Bool
  finds_places out places None = true
  finds_places out places (Some (to, stays)) =
      cond (leaves is_core to) (can_send_out out) (can_still_send out)
      && nat_le (places_for stays (leaves is_core to)) places

  -- a message is sent: one that leaves goes to the outbox, and the answer has any other, for the held list
  abbrev pub posted : OutboxState → Message → OutboxState
  posted out m = cond (leaves is_core m.to) (sent_out out m) (noted out m)

  abbrev pub told : Message → Option Message
  told m = cond (leaves is_core m.to) None (Some m)

  -- so with a message that is sent, if there is one
  abbrev pub posted_if : OutboxState → Option Message → OutboxState
  posted_if out None = out
  posted_if out (Some m) = posted out m

  abbrev pub told_if : Option Message → Option Message
  told_if None = None
  told_if (Some m) = told m

  -- the answer to a delivered message, by the step of the part, and the outbox afterwards
  abbrev pub step_answer : {S : Type 0} → OutboxState → Step S → Answer Message × OutboxState
  step_answer out Exhausts = (Refused Exhausted, out)
  step_answer out (Keeps why) = (Held, out)
  step_answer out Drops = (Dropped, out)
  step_answer out (Makes why true sends part) = (Delivered (told_if sends), posted_if out sends)
  step_answer out (Makes why false sends part) = (Started (told_if sends), posted_if out sends)

  -- so by what the part did with it
  abbrev pub reaction_answer : OutboxState → Reaction → Answer Message × OutboxState
  reaction_answer out reaction = step_answer out (reacted (Some (reaction, tt {0})))

  module _ {P : Type 0} where
    -- the answer of a part that does this, with the part and the outbox afterwards
    abbrev pub replied : OutboxState → P → Option (Reaction × P) → Answer Message × P × OutboxState
    replied out p None = (Refused Exhausted, p, out)
    replied out p (Some r) = let answer = reaction_answer out r.0 in (answer.0, r.1, answer.1)

    -- that, if what it would send finds its places; else Full, and nothing changed
    abbrev pub reacts : OutboxState → ℕ → P → Option (Reaction × P) → Answer Message × P × OutboxState
    reacts out places p r = cond (finds_places out places (sent_by r)) (replied out p r) (Refused Full, p, out)

    -- it was done so; or the part takes memory for the message, which would be consumed or start something, but
    -- allocation failed and nothing changed
    abbrev pub Reacts :
        Bool → OutboxState → ℕ → P → Option (Reaction × P) → Answer Message → P → OutboxState → Type 0
    Reacts takes_memory out places p r answer q o =
        ((answer, q, o) ≡ reacts out places p r)
        ⊎ ((answer ≡ Refused NoMemory) × (q ≡ p) × (o ≡ out) × IsTrue takes_memory
        × (is_quiet (reacts out places p r).0 ≡ false))

-- What a machine leaves when all its seats are given up.
use Rattle.std.specs.Prelude.{◌≡◌, ℕ, ◌<◌, List, [], ◌∷◌, ◌++◌, length, Option, Some, slice_get}
use Rattle.physiological_order.specs.declared.operation.Record.{Record}
use Rattle.network.specs.declared.message.Message.{Message}
use Rattle.seat_views.specs.declared.views.View.{View}
use Rattle.seat_rule.specs.declared.views.SetUp.{SetUp}
use Rattle.seat_rule.specs.declared.views.Hold.{Hold}
use Rattle.seat_rule.specs.Rule.{Phase, slot_count}
use Rattle.seat_rule.specs.Ended.{FourAtMostLie, IsNotOut, NoneTakenTwice, Whole, lies}
use Rattle.mailboxes.specs.declared.mailbox.Mailbox.{Mailbox}
use Rattle.mailboxes.specs.declared.core_seat.CoreSeat.{CoreSeat}
use Rattle.mailboxes.specs.declared.bank_seat.BankSeat.{BankSeat}
use Rattle.closed_machine.specs.declared.parts.CorePart.{CorePart}
use Rattle.closed_machine.specs.declared.parts.BankPart.{BankPart}
use Rattle.mailboxes.specs.BoxMoves.{hold}

-- the values of a list, from the last to the first
abbrev pub backwards : {A B : Type 0} → (A → B) → List A → List B
backwards f [] = []
backwards f (x ∷ xs) = backwards f xs ++ f x ∷ []

-- what a core's seat stored, and whether it was stopped; and what a bank's did
abbrev pub core_part : CoreSeat → CorePart
core_part p =
    record {
      number = p.mail.number;
      core = p.part.core;
      issued = p.issued;
      records = p.records;
      outbox = p.part.outbox;
      inbox = p.mail.inbox;
      is_stopped = p.is_stopped;
    }

abbrev pub bank_part : BankSeat → BankPart
bank_part p =
    record {
      number = p.mail.number;
      bank = p.part.bank;
      dram = p.part.dram;
      outbox = p.part.outbox;
      inbox = p.mail.inbox;
      is_stopped = p.is_stopped;
    }

-- what is learned from a seat that is joined: its number and what it holds
abbrev pub entry : Mailbox → ℕ × Hold
entry p = (p.seat.me.0.number, p.seat.me.0.mine)

abbrev pub core_entry : CoreSeat → ℕ × Hold
core_entry p = entry p.mail

abbrev pub bank_entry : BankSeat → ℕ × Hold
bank_entry p = entry p.mail

-- a view that knows these seats too
abbrev pub knows_all : View Hold → List (ℕ × Hold) → View Hold
knows_all v known = record v { known = v.known ++ known }

-- There is one reached and consistent state, with these records. Each given seat holds its own part of it, and its
-- messages in flight are those of the seats and those in these slots. No link lost or doubled a message.
pub record OneState (z : SetUp) (cores : List CoreSeat) (banks : List BankSeat) (log : List Record)
    (slots : List (Option Message)) : Type 0 where
  pub seats : ℕ → Hold
  pub phases : ℕ → Phase
  pub whole : Whole z seats phases log
  pub of_cores : (i : ℕ) (p : CoreSeat) → slice_get cores i ≡ Some p → seats p.mail.number ≡ hold p.mail
  pub of_banks : (i : ℕ) (p : BankSeat) → slice_get banks i ≡ Some p → seats p.mail.number ≡ hold p.mail
  pub slots_there : length slots ≡ slot_count z
  pub lying : (k : ℕ) → k < slot_count z → slice_get slots k ≡ Some (lies (phases k))
  pub home : (k : ℕ) → k < slot_count z → IsNotOut (phases k)
  pub taken : NoneTakenTwice z seats
  pub few_lie : FourAtMostLie z seats

-- What a contract sees of the messages that came in at a seat.
use Rattle.std.specs.Prelude.{List, Option, refl}
use Rattle.std.specs.Coded.{Coded, code_by, coded×, coded_list, coded_option}

-- the message in the hand, if there is one, and the held messages, the oldest first
pub record InboxState (T : Type 0) : Type 0 where
  pub hand : Option T
  pub held : List T

module _ {T : Type 0} where
  abbrev pub inbox : Option T → List T → InboxState T
  inbox hand held = record { hand = hand; held = held }

  abbrev pub inbox_code : Coded T → Coded (InboxState T)
  inbox_code c =
      code_by (Option T × List T) (coded× (coded_option c) (coded_list c)) (λ b. (b.hand, b.held))
      (λ p. inbox p.0 p.1) (λ _. refl)

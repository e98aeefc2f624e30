-- What the private functions of serving do.
use Rattle.std.specs.Prelude.{◌≡◌, ℕ, ◌+◌, ◌||◌, ◌⊎◌, Bool, false, List, ◌∷◌, drop, map, Option, Some, None, Result}
use Rattle.std.specs.Prelude.{Err, IsTrue}
use Rattle.inbox.specs.declared.answer.Answer.{Answer}
use Rattle.inbox.specs.declared.answer.Answer.TheVariants.{Refused}
use Rattle.inbox.specs.declared.answer.Refusal.{Refusal}
use Rattle.inbox.specs.declared.answer.Refusal.TheVariants.{NoMemory}
use Rattle.inbox.specs.declared.answer.Served.{Served}
use Rattle.inbox.specs.Inboxes.{InboxState}
use Rattle.inbox.specs.Serving.{WantsMemory, answer_to, asked, held_at, held_from, is_quiet, is_refused, serve_by}
use Rattle.inbox.specs.Serving.{served_of}

module _ {T P : Type 0} (table : P → T → ℕ → Answer T × P) (takes_memory : P → T → Bool) where
  -- the held messages were served so, after the one in the hand found no place, or there was none
  abbrev pub ServesHeld : Bool → InboxState T → P → Result Served Refusal → InboxState T → P → Type 0
  ServesHeld refused b p result c q =
      let xs = held_from 0 b.held in
      ((result, c, q) ≡ serve_by table (refused || is_refused table b.held p xs) (served_of table b.held p xs) b p)
      ⊎ ((result ≡ Err NoMemory) × (c ≡ b) × (q ≡ p) × WantsMemory table takes_memory b.held p xs)

  -- the result of a walk of the held messages: the cell and the answer of the one that is served
  abbrev pub Walks : List (ℕ × T) → P → Bool → Option (ℕ × Answer T) → P → Type 0
  Walks cells p refused None q =
      let held = map (λ c. c.1) cells in
      (served_of table held p (held_from 0 held) ≡ None)
      × (refused ≡ is_refused table held p (held_from 0 held)) × (q ≡ p)
  Walks cells p refused (Some f) q =
      let held = map (λ c. c.1) cells in
      (k : ℕ) × (m : T) × (drop k cells ≡ (f.0, m) ∷ drop (k + 1) cells)
      × (served_of table held p (held_from 0 held) ≡ Some (held_at k, m))
      × (((f.1, q) ≡ answer_to table held p (held_at k, m))
      ⊎ ((f.1 ≡ Refused NoMemory) × (q ≡ p) × IsTrue (takes_memory p m)))

  -- the answer is the table's; or the part takes memory for the message, and allocation failed
  abbrev pub Asks : P → T → ℕ → Answer T → P → Type 0
  Asks p m n answer q =
      ((answer, q) ≡ asked table p m n)
      ⊎ ((answer ≡ Refused NoMemory) × (q ≡ p) × IsTrue (takes_memory p m) × (is_quiet (table p m n).0 ≡ false))

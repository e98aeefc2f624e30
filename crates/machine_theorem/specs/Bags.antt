-- Messages in flight as a bag: without their numbers, in no order.
use Rattle.std.specs.Prelude.{◌≡◌, ℕ, ◌+◌, List, [], ◌∷◌, map}
use Rattle.network.specs.declared.message.Message.{Message}

-- the messages without their numbers
abbrev pub bag_of : List (ℕ × Message) → List Message
bag_of messages = map (λ message. message.1) messages

-- what the messages weigh, by the weight of each
abbrev pub weigh : (Message → ℕ) → List Message → ℕ
weigh h [] = 0
weigh h (m ∷ ms) = h m + weigh h ms

-- the same messages in any order, each as often: for any weight they weigh the same
abbrev pub SameBag : List Message → List Message → Type 0
SameBag xs ys = (h : Message → ℕ) → weigh h xs ≡ weigh h ys

-- Bags of messages: numbered, with one sent, and with one taken.
use Rattle.std.proofs.Common.{◌≡◌, ℕ, ◌+◌, List, [], ◌∷◌, ◌++◌, length, Option, Some, None, refl, sym, ap, ◌∙◌, arith}
use Rattle.std.proofs.lemmas.Bool.Decides.{nat_tests}
use Rattle.network.specs.declared.message.Message.{Message}
use Rattle.network.specs.NumberedMessages.{IsRising, at_number, without_number}
use Rattle.machine_theorem.specs.Bags.{weigh, SameBag, bag_of}
use Rattle.machine_theorem.specs.States.{numbered_from}

-- numbers don't change a bag
pub bag-numbered : (n : ℕ) (xs : List Message) → bag_of (numbered_from n xs) ≡ xs
bag-numbered n [] = refl
bag-numbered n (x ∷ xs) = ap (λ ys. x ∷ ys) (bag-numbered (n + 1) xs)

pub kept_bag : (n : ℕ) (xs : List Message) → SameBag (bag_of (numbered_from n xs)) xs
kept_bag n xs h = ap (weigh h) (bag-numbered n xs)

-- they rise
pub rising : (n high : ℕ) (xs : List Message) → n + length xs ≡ high → IsRising n (numbered_from n xs) high
rising n high [] is = omega arith
rising n high (x ∷ xs) is = (omega arith, rising (n + 1) high xs (omega arith))

-- bags that are the same have as many messages
each_one : (xs : List Message) → weigh (λ x. 1) xs ≡ length xs
each_one [] = refl
each_one (x ∷ xs) = let e = each_one xs in omega arith

pub as_many : (xs ys : List Message) → SameBag xs ys → length xs ≡ length ys
as_many xs ys same = sym (each_one xs) ∙ same (λ x. 1) ∙ each_one ys

-- a message that is sent
pub bag-sent : (ms : List (ℕ × Message)) (n : ℕ) (q : Message) → SameBag (bag_of (ms ++ (n, q) ∷ [])) (q ∷ bag_of ms)
bag-sent [] n q h = refl
bag-sent (m ∷ ms) n q h = let e = bag-sent ms n q h in omega arith

-- a message that is found, and those without it
pub bag-taken : (n : ℕ) (ms : List (ℕ × Message)) (m : Message) → at_number n ms ≡ Some m →
    SameBag (bag_of ms) (m ∷ bag_of (without_number n ms))
bag-taken n [] m found h = absurd (let e : ◌≡◌ {A = Option Message} None (Some m) = found in cc)
bag-taken n (x ∷ xs) m found h =
    let rest = λ (e : at_number n xs ≡ Some m). bag-taken n xs m e h in grind (arith, nat_tests, rest)

-- What lists of messages weigh.
use Rattle.std.proofs.Common.{◌≡◌, ℕ, zero, suc, ◌+◌, List, [], ◌∷◌, ◌++◌, Some, remove, refl, ap, arith}
use Rattle.std.proofs.lemmas.Bool.Decides.{nat_tests}
use Rattle.std.proofs.lemmas.Grind.{common_steps}
use Rattle.std.specs.Prelude.{slice_get}
use Rattle.network.specs.declared.message.Message.{Message}
use Rattle.machine_theorem.specs.Bags.{weigh, SameBag}
use Rattle.seat_views.specs.Seated.{over}
use Rattle.seat_views.proofs.Lemmas.{some_is}
use Rattle.seat_rule.specs.Rule.{gather, weigh_links}

pub weigh-append : (f : Message → ℕ) (xs ys : List Message) → weigh f (xs ++ ys) ≡ weigh f xs + weigh f ys
weigh-append f [] ys = omega arith
weigh-append f (x ∷ xs) ys = let a = weigh-append f xs ys in omega arith

pub weigh-remove : (f : Message → ℕ) (xs : List Message) (i : ℕ) (m : Message) → slice_get xs i ≡ Some m →
    weigh f (remove xs i) + f m ≡ weigh f xs
weigh-remove f [] i m e = cc
weigh-remove f (x ∷ xs) zero m e = let a : f x ≡ f m = ap f (some_is e) in omega arith
weigh-remove f (x ∷ xs) (suc i) m e = let a = weigh-remove f xs i m e in omega arith

pub weigh_links-append : (f : ℕ → Message → ℕ) (xs ys : List (ℕ × Message)) →
    weigh_links f (xs ++ ys) ≡ weigh_links f xs + weigh_links f ys
weigh_links-append f [] ys = omega arith
weigh_links-append f (x ∷ xs) ys = let a = weigh_links-append f xs ys in omega arith

weigh-gather : (f : Message → ℕ) (n : ℕ) (g : ℕ → List Message) →
    weigh f (gather n g) ≡ over n (λ j. weigh f (g j))
weigh-gather f zero g = refl
weigh-gather f (suc n) g = let q0 = weigh-gather f n g in grind (arith, nat_tests, common_steps, q0, weigh-append)

pub weigh_together : (f : Message → ℕ) (n slots : ℕ) (g k : ℕ → List Message) →
    weigh f (gather n g ++ gather slots k) ≡ over n (λ j. weigh f (g j)) + over slots (λ j. weigh f (k j))
weigh_together f n slots g k = grind (arith, nat_tests, common_steps, weigh-append, weigh-gather)

-- other messages beside two bags that are the same
pub beside : (us bs cs xs : List Message) → SameBag us (bs ++ cs) → SameBag (us ++ xs) (bs ++ (cs ++ xs))
beside us bs cs xs e f =
    let a = weigh-append f us xs in
    let b = weigh-append f bs (cs ++ xs) in
    let c = weigh-append f cs xs in
    let d = weigh-append f bs cs in
    let g = e f in
    omega arith

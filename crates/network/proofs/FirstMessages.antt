-- The first messages that pass tests: of a list that is walked, of those that go over some links, and of two tests.
use Rattle.std.proofs.Common.{◌≡◌, ℕ, ◌+◌, ◌<◌, ◌≤◌, Bool, true, false, ◌&&◌, cond}
use Rattle.std.proofs.Common.{List, [], ◌∷◌, map, filter, Option, Some, None, refl, sym, ap, ◌∙◌, arith, IsTrue}
use Rattle.std.proofs.lemmas.Bool.Decides.{nat_tests}
use Rattle.network.specs.declared.message.Message.{Message}
use Rattle.network.specs.LinkNumbers.{link_of, has_link, has_link_below, is_on, is_below}
use Rattle.network.specs.NumberedMessages.{IsRising}
use Rattle.network.specs.Routes.{has_endpoints, AllHaveEndpoints}
use Rattle.network.specs.Search.{earlier, first_message, is_store_of}
use Rattle.network.proofs.LinkLaws.{store-below}

-- a walk of a list comes to a message that passes, or not
pub first-passes : (test : Message → Bool) (hs rest : List (ℕ × (ℕ × Message))) (c : ℕ) (v p : ℕ × Message) →
    hs ≡ (c, v) ∷ rest → Some p ≡ Some v → test p.1 ≡ true → first_message test (map (λ a. a.1) hs) ≡ Some p
first-passes test hs rest c v p is same passes = let value : p ≡ v = cc in rw is (grind arith)

pub first-fails : (test : Message → Bool) (hs rest : List (ℕ × (ℕ × Message))) (c : ℕ) (v p : ℕ × Message) →
    hs ≡ (c, v) ∷ rest → Some p ≡ Some v → test p.1 ≡ false →
    first_message test (map (λ a. a.1) hs) ≡ first_message test (map (λ a. a.1) rest)
first-fails test hs rest c v p is same fails = let value : p ≡ v = cc in rw is (grind arith)

-- among those that pass one test, the first that passes another
pub first-filter : (test on : Message → Bool) (hs : List (ℕ × (ℕ × Message))) →
    first_message test (map (λ a. a.1) (filter (λ a. on a.1.1) hs))
    ≡ first_message (λ m. on m && test m) (map (λ a. a.1) hs)
first-filter test on [] = refl
first-filter test on (a ∷ hs) = let rest = first-filter test on hs in grind arith

-- no message passes a test that none does
pub first-none : (test : Message → Bool) (xs : List (ℕ × Message)) → ((m : Message) → test m ≡ false) →
    first_message test xs ≡ None
first-none test [] h = refl
first-none test (x ∷ xs) h = let rest = first-none test xs h in let none = h x.1 in grind arith

-- tests that agree on messages between nodes of their kinds find the same
first-same : (cores banks : ℕ) (p q : Message → Bool) (xs : List (ℕ × Message)) → AllHaveEndpoints cores banks xs →
    ((m : Message) → IsTrue (has_endpoints cores banks m) → p m ≡ q m) → first_message p xs ≡ first_message q xs
first-same cores banks p q [] all h = refl
first-same cores banks p q (x ∷ xs) all h =
    let rest = first-same cores banks p q xs all.1 h in let same = h x.1 all.0 in grind arith

-- what is found has a number from the lowest on
first-from : (test : Message → Bool) (low high : ℕ) (y : ℕ × Message) (xs : List (ℕ × Message)) →
    IsRising low xs high → first_message test xs ≡ Some y → low ≤ y.0
first-from test low high y [] rising e = cc
first-from test low high y (x ∷ xs) rising e =
    let rest = first-from test (x.0 + 1) high y xs rising.1 in let least = rising.0 in grind arith

either-same : (x : ℕ × Message) → earlier (Some x) (Some x) ≡ Some x
either-same x = grind arith

-- a message before all others is the earlier one
before-all : (x : ℕ × Message) (o : Option (ℕ × Message)) → ((y : ℕ × Message) → o ≡ Some y → x.0 < y.0) →
    (earlier (Some x) o ≡ Some x) × (earlier o (Some x) ≡ Some x)
before-all x None h = (refl, refl)
before-all x (Some y) h = let less = h y refl in (grind arith, grind arith)

either-first : (p q r : Message → Bool) (x : ℕ × Message) (xs : List (ℕ × Message)) →
    r x.1 ≡ cond (p x.1) true (q x.1) → earlier (first_message p xs) (first_message q xs) ≡ first_message r xs →
    earlier (first_message p xs) (Some x) ≡ Some x → earlier (Some x) (first_message q xs) ≡ Some x →
    earlier (first_message p (x ∷ xs)) (first_message q (x ∷ xs)) ≡ first_message r (x ∷ xs)
either-first p q r x xs is rest first second = let same = either-same x in grind arith

-- the earlier of the first ones by two tests is the first by either
pub first-either : (p q r : Message → Bool) (low high : ℕ) (xs : List (ℕ × Message)) → IsRising low xs high →
    ((m : Message) → r m ≡ cond (p m) true (q m)) →
    earlier (first_message p xs) (first_message q xs) ≡ first_message r xs
first-either p q r low high [] rising h = refl
first-either p q r low high (x ∷ xs) rising h =
    let rest = first-either p q r (x.0 + 1) high xs rising.1 h in
    let after : (test : Message → Bool) (y : ℕ × Message) → first_message test xs ≡ Some y → x.0 < y.0 =
    λ test y e. (let low = first-from test (x.0 + 1) high y xs rising.1 e in omega (arith, low)) in
    let first = before-all x (first_message p xs) (after p) in
    let second = before-all x (first_message q xs) (after q) in
    either-first p q r x xs (h x.1) rest first.1 second.0

-- messages over the first links, and over one more
below-none : (n : ℕ) (s : Bool) (o : Option ℕ) → n ≡ 0 → s && has_link_below n o ≡ false
below-none n true (Some k) e = grind (arith, nat_tests, e)
below-none n _ _ e = refl

pub none-below : (cores banks n : ℕ) (test : Message → Bool) (m : Message) → n ≡ 0 →
    test m && is_below cores banks n m ≡ false
none-below cores banks n test m e = below-none n (test m) (link_of cores banks m.from m.to) e

below-more : (n : ℕ) (s : Bool) (o : Option ℕ) → s && has_link_below (n + 1) o
    ≡ cond (s && has_link_below n o) true (has_link n o && s)
below-more n s o = grind (arith, nat_tests)

pub more-below : (cores banks n : ℕ) (test : Message → Bool) (m : Message) → test m && is_below cores banks (n + 1) m
    ≡ cond (test m && is_below cores banks n m) true (is_on cores banks n m && test m)
more-below cores banks n test m = below-more n (test m) (link_of cores banks m.from m.to)

and-same : (s b : Bool) → (s ≡ true → b ≡ true) → s && b ≡ s
and-same s b h = grind arith

stores-below : (cores banks line : ℕ) (m : Message) → IsTrue (has_endpoints cores banks m) →
    is_store_of line m && is_below cores banks banks m ≡ is_store_of line m
stores-below cores banks line m here = and-same (is_store_of line m) (is_below cores banks banks m)
    (λ store. store-below cores banks line m here store)

-- the first store is the first one over the links to DRAM
pub stores-first : (cores banks n line : ℕ) (xs : List (ℕ × Message)) → AllHaveEndpoints cores banks xs → n ≡ banks →
    first_message (is_store_of line) xs ≡ first_message (λ m. is_store_of line m && is_below cores banks n m) xs
stores-first cores banks n line xs all is =
    sym (first-same cores banks (λ m. is_store_of line m && is_below cores banks banks m) (is_store_of line) xs all
    (λ m h. stores-below cores banks line m h))
    ∙ ap (λ k. first_message (λ m. is_store_of line m && is_below cores banks k m) xs) (sym is)

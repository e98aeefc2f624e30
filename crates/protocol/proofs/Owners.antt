use Rattle.std.proofs.Common.{◌≡◌, ◌≢◌, ℕ, zero, suc, ◌+◌, ◌<◌, ◌≤◌, List, [], ◌∷◌, Option, Some, None, refl, sym, ap}
use Rattle.std.proofs.Common.{ap₂, ◌∙◌, arith, rules}
use Rattle.std.proofs.lemmas.Bool.{cond_both}
use Rattle.physiological_order.specs.declared.operation.Record.{Record}
use Rattle.physiological_order.specs.Order.{Memory}
use Rattle.protocol.specs.Machine.{Config, Timed, Copy, Message, Line, Machine, Reachable, owns, owned_below}
use Rattle.protocol.specs.Machine.{carries_ownership, owners_in, owners, tally}
use Rattle.protocol.proofs.Lines.{one_at_most, Holder, Bank, At, Flying, right, LineOk}
use Rattle.protocol.proofs.Headline.{reachable_ok}

owner_count-tally : (ms : List Message) → owners_in ms ≡ tally right ms
owner_count-tally [] = refl
owner_count-tally (m ∷ ms) = ap (λ n. carries_ownership m + n) (owner_count-tally ms)

owns_at_most : (y : Option Copy) → owns y ≤ 1
owns_at_most None = omega arith
owns_at_most (Some copy) = one_at_most copy.exclusive

none_below : (copies : ℕ → Option Copy) (n : ℕ) → ((d : ℕ) → d < n → owns (copies d) ≡ 0) → owned_below copies n ≡ 0
none_below copies zero h = refl
none_below copies (suc n) h = ap₂ (λ a b. a + b) (h n (omega arith)) (none_below copies n (λ d lt. h d (omega arith)))

one_below : (copies : ℕ → Option Copy) (c n : ℕ) → ((d : ℕ) → d ≢ c → owns (copies d) ≡ 0) → owned_below copies n ≤ 1
one_below copies c zero h = omega arith
one_below copies c (suc n) h = search (rules, none_below, owns_at_most, one_below copies c n h)

module _ (f : Config) (h : ℕ → Memory) (l : ℕ) (records : List Record) (busy : ℕ → ℕ) (t : ℕ)
    (x : Line) (s : Timed) where
  owns_none : (b : Holder) → LineOk f h l records busy t x s b → (d : ℕ) → b ≢ At d → owns (x.copies d) ≡ 0
  owns_none b k d ne = go (x.copies d) refl
    where
      go : (y : Option Copy) → x.copies d ≡ y → owns y ≡ 0
      go None e = refl
      go (Some copy) e = cond_both copy.exclusive _ _ (λ n. ◌≡◌ {A = ℕ} n 0)
          (λ ex. absurd (ne ((k.copies d copy e).0 ex).0)) (λ sh. refl)

  one_owner : (b : Holder) (cores : ℕ) → LineOk f h l records busy t x s b → owners cores x ≤ 1
  one_owner Bank cores k = let r = owner_count-tally x.messages ∙ k.owner_count in let z =
      none_below x.copies cores (λ d lt. owns_none Bank k d (λ e. cc)) in omega arith
  one_owner (At c) cores k = let r = owner_count-tally x.messages ∙ k.owner_count in
      let z = one_below x.copies c cores (λ d ne. owns_none (At c) k d (λ e. let q : c ≡ d = cc in ne (sym q))) in
      omega arith
  one_owner Flying cores k = let r = owner_count-tally x.messages ∙ k.owner_count in let z =
      none_below x.copies cores (λ d lt. owns_none Flying k d (λ e. cc)) in omega arith

pub at_most_one : (f : Config) → 0 < f.line_words → (m : Machine) → Reachable f m → (cores l : ℕ) →
    owners cores (m.lines l) ≤ 1
at_most_one f good m r cores l =
    let k = (reachable_ok f good m r).lines l in
    one_owner f _ l m.records _ _ (m.lines l) k.0 k.1 cores k.2

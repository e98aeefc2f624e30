-- A message in the hand that finds no place stays there, whatever becomes of the held ones.
use Rattle.std.proofs.Common.{◌≡◌, ℕ, ◌+◌, ◌-◌, Bool, true, false, cond, List, [], ◌∷◌, length, Option, Some, None}
use Rattle.std.proofs.Common.{Result, refl, sym, ◌∙◌, subst, arith}
use Rattle.std.proofs.lemmas.Bool.Decides.{nat_tests}
use Rattle.std.proofs.lemmas.Grind.{common_steps}
use Rattle.std.specs.List.{find}
use Rattle.inbox.specs.declared.answer.Answer.{Answer}
use Rattle.inbox.specs.declared.answer.Refusal.{Refusal}
use Rattle.inbox.specs.declared.answer.Served.{Served}
use Rattle.inbox.specs.Inboxes.{InboxState, inbox}
use Rattle.inbox.specs.Serving.{Place, in_hand, held_at, held_from, finds_no_place, asked, serve_by, Serves}

module _ {T : Type 0} where
  -- it isn't the message in the hand
  abbrev is_held : Option (Place × T) → Bool
  is_held None = true
  is_held (Some (in_hand, m)) = false
  is_held (Some (held_at i, m)) = true

  one-more : (n : ℕ) (m : T) (rest : Option (Place × T)) (b : Bool) → is_held rest ≡ true →
      is_held (cond b (Some (held_at n, m)) rest) ≡ true
  one-more n m rest true h = refl
  one-more n m rest false h = h

  found-held : (s : Place × T → Bool) (n : ℕ) (ms : List T) → is_held (find s (held_from n ms)) ≡ true
  found-held s n [] = refl
  found-held s n (m ∷ ms) = let q0 = found-held s (n + 1) ms in grind (arith, nat_tests, common_steps, q0, one-more)

  module _ {P : Type 0} (table : P → T → ℕ → Answer T × P) (takes_memory : P → T → Bool) where
    hand-after : (refused : Bool) (x : Option (Place × T)) (b : InboxState T) (p : P) → is_held x ≡ true →
        (serve_by table refused x b p).1.hand ≡ b.hand
    hand-after refused (Some (in_hand, m)) b p h = cc
    hand-after refused _ b p h = refl

    stays-full : (held : List T) (p : P) (m : T) → finds_no_place (asked table p m (256 - length held)).0 ≡ true →
        (result : Result Served Refusal) (c : InboxState T) (q : P) →
        Serves table takes_memory (inbox (Some m) held) p result c q → c.hand ≡ Some m
    stays-full held p m lacks result c q s = grind (arith, nat_tests, common_steps, found-held, hand-after)

    pub stays : (b : InboxState T) (p : P) (m : T) → b.hand ≡ Some m →
        finds_no_place (asked table p m (256 - length b.held)).0 ≡ true →
        (result : Result Served Refusal) (c : InboxState T) (q : P) →
        Serves table takes_memory b p result c q → c.hand ≡ b.hand
    stays b p m hand lacks result c q s =
        stays-full b.held p m lacks result c q
        (subst (λ (h : Option T). Serves table takes_memory (inbox h b.held) p result c q) hand s) ∙ sym hand

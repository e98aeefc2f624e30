-- What a serving does where all held messages wait, and the hand is empty or its message finds no place.
use Rattle.std.proofs.Common.{◌≡◌, ℕ, suc, ◌+◌, ◌-◌, ◌||◌, Bool, true, false, cond, List, [], ◌∷◌, length, Some, None}
use Rattle.std.proofs.Common.{Result, Err, refl, sym, ap, ◌∙◌, subst, true≢false, arith}
use Rattle.std.proofs.lemmas.Bool.Decides.{nat_tests}
use Rattle.std.proofs.lemmas.Grind.{common_steps}
use Rattle.std.specs.Prelude.{slice_get}
use Rattle.std.specs.List.{find, list_any}
use Rattle.inbox.specs.declared.answer.Answer.{Answer}
use Rattle.inbox.specs.declared.answer.Answer.TheVariants.{Refused}
use Rattle.inbox.specs.declared.answer.Refusal.{Refusal}
use Rattle.inbox.specs.declared.answer.Refusal.TheVariants.{Full}
use Rattle.inbox.specs.declared.answer.Served.{Served}
use Rattle.inbox.specs.Inboxes.{InboxState, inbox}
use Rattle.inbox.specs.Serving.{Place, in_hand, held_at, held_from, finds_no_place, stays_held, asked, none_served}
use Rattle.inbox.specs.Serving.{served_of, is_refused, serve, Serves}
use Rattle.mailboxes.specs.SeatServing.{seat_result}
use Rattle.mailboxes.specs.Turns.{is_idle}

module _ {T : Type 0} where
  has_place : (a : Answer T) → stays_held a ≡ true → finds_no_place a ≡ false
  has_place (Refused r) h = absurd (true≢false (sym h))
  has_place _ h = refl

  none-found : (s : Place × T → Bool) (n : ℕ) (ms : List T) →
      ((k i : ℕ) (x : T) → slice_get ms i ≡ Some x → s (held_at k, x) ≡ false) → find s (held_from n ms) ≡ None
  none-found s n [] h = refl
  none-found s n (m ∷ ms) h =
      ap (λ b. cond b (Some (held_at n, m)) (find s (held_from (n + 1) ms))) (h n 0 m refl)
      ∙ none-found s (n + 1) ms (λ k i x e. h k (suc i) x e)

  none-any : (s : Place × T → Bool) (n : ℕ) (ms : List T) →
      ((k i : ℕ) (x : T) → slice_get ms i ≡ Some x → s (held_at k, x) ≡ false) → list_any s (held_from n ms) ≡ false
  none-any s n [] h = refl
  none-any s n (m ∷ ms) h =
      ap (λ b. b || list_any s (held_from (n + 1) ms)) (h n 0 m refl)
      ∙ none-any s (n + 1) ms (λ k i x e. h k (suc i) x e)

  idle : (held : List T) → is_idle (seat_result (none_served false held)) ≡ true
  idle [] = refl
  idle (m ∷ ms) = refl

  module _ {P : Type 0} (table : P → T → ℕ → Answer T × P) (takes_memory : P → T → Bool) where
    -- each held message waits
    abbrev pub AllWait : List T → P → Type 0
    AllWait held p =
        (i : ℕ) (x : T) → slice_get held i ≡ Some x → stays_held (asked table p x (257 - length held)).0 ≡ true

    waited : (held : List T) (p : P) → AllWait held p →
        (served_of table held p (held_from 0 held) ≡ None)
        × (is_refused table held p (held_from 0 held) ≡ false)
    waited held p wait = grind (arith, nat_tests, common_steps, has_place, none-any, none-found)

    unserved : (held : List T) (p : P) → AllWait held p →
        serve table (inbox None held) p ≡ (none_served false held, inbox None held, p)
    unserved held p wait = let q0 = waited held p wait in grind (arith, nat_tests, q0)

    waits-held : (held : List T) (p : P) → AllWait held p → (served : Result Served Refusal) (c : InboxState T)
        (q : P) → Serves table takes_memory (inbox None held) p served c q →
        (c ≡ inbox None held) × (is_idle (seat_result served) ≡ true)
    waits-held held p wait served c q s = grind (arith, nat_tests, common_steps, idle, unserved, waited)

    -- nothing comes of the held messages, and they stay
    pub waits : (b : InboxState T) (p : P) → b.hand ≡ None → AllWait b.held p → (served : Result Served Refusal)
        (c : InboxState T) (q : P) → Serves table takes_memory b p served c q →
        (c ≡ b) × (is_idle (seat_result served) ≡ true)
    waits b p hand wait served c q s =
        let same : b ≡ inbox None b.held = ap (λ h. inbox h b.held) hand in
        let w = waits-held b.held p wait served c q
        (subst (λ (y : InboxState T). Serves table takes_memory y p served c q) same s) in
        (w.0 ∙ sym same, w.1)

    module _ (held : List T) (p : P) (m : T)
        (full : finds_no_place (asked table p m (256 - length held)).0 ≡ true) (wait : AllWait held p) where
      none-served : served_of table held p ((in_hand, m) ∷ held_from 0 held) ≡ None
      none-served = let q0 = waited held p wait in grind (arith, nat_tests, q0)

      full-unserved : serve table (inbox (Some m) held) p ≡ (Err Full, inbox (Some m) held, p)
      full-unserved = grind (arith, nat_tests, common_steps, none-served)

      -- nothing comes of the message in the hand either
      pub waits-full : (served : Result Served Refusal) (c : InboxState T) (q : P) →
          Serves table takes_memory (inbox (Some m) held) p served c q →
          (served ≡ Err Full) × (c ≡ inbox (Some m) held) × (q ≡ p)
      waits-full served c q s = grind (arith, nat_tests, common_steps, full-unserved, none-served)

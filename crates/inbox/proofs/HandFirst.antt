-- The first message that isn't passed, in the hand or among the held ones.
use Rattle.std.proofs.Common.{◌≡◌, ℕ, ◌-◌, ◌||◌, inl, inr, Bool, true, false, not, cond, List}
use Rattle.std.proofs.Common.{◌∷◌, length, Option, Some, None, Result, sym, ap, ◌∙◌, subst, true≢false}
use Rattle.std.specs.List.{find}
use Rattle.inbox.specs.declared.answer.Answer.{Answer}
use Rattle.inbox.specs.declared.answer.Refusal.{Refusal}
use Rattle.inbox.specs.declared.answer.Served.{Served}
use Rattle.inbox.specs.Inboxes.{InboxState, inbox}
use Rattle.inbox.specs.Serving.{Place, in_hand, held_from, order_of, finds_no_place, asked, after_hand, result_of}
use Rattle.inbox.specs.Serving.{is_served, served_of, is_refused, serve_by, Serves}
use Rattle.inbox.specs.Walks.{Asks, ServesHeld}
use Rattle.inbox.proofs.Walks.{hand-first}

module _ {T P : Type 0} (table : P → T → ℕ → Answer T × P) (takes_memory : P → T → Bool) where
  -- with an empty hand
  pub without-hand : (b : InboxState T) (p : P) (result : Result Served Refusal) (c : InboxState T) (q : P) →
      b.hand ≡ None → ServesHeld table takes_memory false b p result c q → Serves table takes_memory b p result c q
  without-hand b p result c q none served =
      subst (λ (h : Option T). ServesHeld table takes_memory false (inbox h b.held) p result c q →
      Serves table takes_memory (inbox h b.held) p result c q) (sym none) (λ s. s) served

  -- the message in the hand is passed
  passed-hand : (held : List T) (p : P) (m : T) (answer : Answer T) (q : P) (xs : List (Place × T)) →
      (answer, q) ≡ asked table p m (256 - length held) → finds_no_place answer ≡ true →
      (served_of table held p ((in_hand, m) ∷ xs) ≡ served_of table held p xs)
      × (is_refused table held p ((in_hand, m) ∷ xs) ≡ (true || is_refused table held p xs))
  passed-hand held p m answer q xs is h =
      let x : Place × T = (in_hand, m) in
      let no : finds_no_place (asked table p m (256 - length held)).0 ≡ true =
      sym (ap (λ (a : Answer T × P). finds_no_place a.0) is) ∙ h in (
        ap (λ b. cond (not b) (Some x) (find (is_served table held p) xs)) no,
        ap (λ b. b || is_refused table held p xs) no,
      )

  after-hand : (held : List T) (p : P) (m : T) (answer : Answer T) (r : P) (result : Result Served Refusal)
      (c : InboxState T) (q : P) → r ≡ p → Asks table takes_memory p m (256 - length held) answer r →
      finds_no_place answer ≡ true → ServesHeld table takes_memory true (inbox (Some m) held) p result c q →
      Serves table takes_memory (inbox (Some m) held) p result c q
  after-hand held p m answer r result c q same asks h served =
      let xs = held_from 0 held in
      elim asks [
        | inr f ↦ absurd (true≢false (sym h ∙ ap finds_no_place f.0))
        | inl f ↦ (let passed = passed-hand held p m answer r xs f h in
            elim served [
              | inl s ↦ inl (s ∙ ap (λ (y : Bool × Option (Place × T)). serve_by table y.0 y.1 (inbox (Some m) held) p)
                  (sym (ap (λ y. (is_refused table held p ((in_hand, m) ∷ xs), y)) passed.0
                  ∙ ap (λ y. (y, served_of table held p xs)) passed.1)))
              | inr s ↦ inr (s.0, s.1, s.2, (s.3.0, passed.0 ∙ s.3.1, s.3.2))
            ])
      ]

  -- the message in the hand found no place
  pub behind-hand : (b : InboxState T) (p : P) (m : T) (room : ℕ) (answer : Answer T) (r : P)
      (result : Result Served Refusal) (c : InboxState T) (q : P) → b.hand ≡ Some m → room ≡ 256 - length b.held →
      r ≡ p → Asks table takes_memory p m room answer r → finds_no_place answer ≡ true →
      ServesHeld table takes_memory true b r result c q → Serves table takes_memory b p result c q
  behind-hand b p m room answer r result c q hand places same asks h served =
      subst (λ (x : Option T). ServesHeld table takes_memory true (inbox x b.held) p result c q →
      Serves table takes_memory (inbox x b.held) p result c q) (sym hand)
      (after-hand b.held p m answer r result c q same
      (subst (λ n. Asks table takes_memory p m n answer r) places asks) h)
      (subst (λ x. ServesHeld table takes_memory true b x result c q) same served)

  by-hand : (held : List T) (p : P) (m : T) (answer : Answer T) (q : P) →
      Asks table takes_memory p m (256 - length held) answer q → finds_no_place answer ≡ false →
      Serves table takes_memory (inbox (Some m) held) p (result_of answer) (after_hand answer m held) q
  by-hand held p m answer q asks h =
      let xs = held_from 0 held in
      let x : Place × T = (in_hand, m) in
      elim asks [
        | inr f ↦ inr (
          ap result_of f.0,
          ap (λ a. after_hand a m held) f.0,
          f.1,
          (x, hand-first table takes_memory held p m f.3, f.2),
        )
        | inl f ↦ (let no : finds_no_place (asked table p m (256 - length held)).0 ≡ false =
            sym (ap (λ (a : Answer T × P). finds_no_place a.0) f) ∙ h in
            inl (ap (λ (a : Answer T × P). (result_of a.0, after_hand a.0 m held, a.1)) f
            ∙ sym (ap (λ b. serve_by table (is_refused table held p (order_of (Some m) held))
            (cond (not b) (Some x) (find (is_served table held p) xs)) (inbox (Some m) held) p) no)))
      ]

  -- the message in the hand is served
  pub with-hand : (b : InboxState T) (p : P) (m : T) (room : ℕ) (answer : Answer T) (q : P)
      (result : Result Served Refusal) (c : InboxState T) → b.hand ≡ Some m → room ≡ 256 - length b.held →
      Asks table takes_memory p m room answer q → finds_no_place answer ≡ false → result ≡ result_of answer →
      c ≡ after_hand answer m b.held → Serves table takes_memory b p result c q
  with-hand b p m room answer q result c hand places asks h is after =
      subst (λ (x : Option T). Serves table takes_memory (inbox x b.held) p result c q) (sym hand)
      (subst (λ x. Serves table takes_memory (inbox (Some m) b.held) p x c q) (sym is)
      (subst (λ x. Serves table takes_memory (inbox (Some m) b.held) p (result_of answer) x q) (sym after)
      (by-hand b.held p m answer q (subst (λ n. Asks table takes_memory p m n answer q) places asks) h)))

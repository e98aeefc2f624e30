-- A walk of the held messages, one message after the other.
use Rattle.std.proofs.Common.{◌≡◌, ℕ, zero, suc, ◌+◌, ◌-◌, ◌≤◌, ◌||◌, ◌⊎◌, inl, inr, Bool, true, false, not, cond}
use Rattle.std.proofs.Common.{List}
use Rattle.std.proofs.Common.{[], ◌∷◌, map, drop, length, slice_get, Option, Some, None, Result, refl, sym, ap, ◌∙◌}
use Rattle.std.proofs.Common.{subst, arith, true≢false, IsTrue}
use Rattle.std.specs.List.{find}
use Rattle.line_arena.specs.CellLists.{first_cell}
use Rattle.inbox.specs.declared.answer.Answer.{Answer}
use Rattle.inbox.specs.declared.answer.Answer.TheVariants.{Held, Refused}
use Rattle.inbox.specs.declared.answer.Refusal.{Refusal}
use Rattle.inbox.specs.declared.answer.Refusal.TheVariants.{NoMemory}
use Rattle.inbox.specs.declared.answer.Served.{Served}
use Rattle.inbox.specs.Inboxes.{InboxState, inbox}
use Rattle.inbox.specs.Serving.{Place, in_hand, held_at, held_from, order_of, stays_held, finds_no_place, fitted}
use Rattle.inbox.specs.Serving.{is_quiet, asked, answer_to, is_served, served_of, is_refused}
use Rattle.inbox.specs.Serving.{after_held, result_of, serve_by}
use Rattle.inbox.specs.Walks.{Asks, ServesHeld, Walks}

or-assoc : (a b d : Bool) → ((a || b) || d) ≡ (a || (b || d))
or-assoc a b d = grind arith

module _ {T : Type 0} where
  -- the message of the cell that the walk comes to, and its place in the list
  pub next-tried : (cells rest : List (ℕ × T)) (n c : ℕ) (m : T) → cells ≡ (c, m) ∷ rest →
      held_from n (map (λ a. a.1) cells) ≡ (held_at n, m) ∷ held_from (n + 1) (map (λ a. a.1) rest)
  next-tried cells rest n c m e = ap (λ xs. held_from n (map (λ (a : ℕ × T). a.1) xs)) e

  pub listed-at : (cells rest : List (ℕ × T)) (n c : ℕ) (m : T) → drop n cells ≡ (c, m) ∷ rest →
      slice_get (map (λ a. a.1) cells) n ≡ Some m
  listed-at [] rest zero c m e = cc
  listed-at [] rest (suc n) c m e = cc
  listed-at (a ∷ cells) rest zero c m e = let same : a ≡ (c, m) = cc in ap (λ (b : ℕ × T). Some b.1) same
  listed-at (a ∷ cells) rest (suc n) c m e = listed-at cells rest n c m e

  -- a walk that has ended
  pub past-end : (cells : List (ℕ × T)) (n i : ℕ) → first_cell (drop n cells) ≡ None → n ≤ i →
      slice_get (map (λ a. a.1) cells) i ≡ None
  past-end [] n i e h = refl
  past-end (a ∷ cells) zero i e h = cc
  past-end (a ∷ cells) (suc n) zero e h = absurd (omega (arith, h))
  past-end (a ∷ cells) (suc n) (suc i) e h = past-end cells n i e (omega (arith, h))

  -- a message that is passed leaves the part
  pub quiet : (a : Answer T) → (stays_held a || finds_no_place a) ≡ true → is_quiet a ≡ true
  quiet Held h = refl
  quiet (Refused r) h = refl
  quiet _ h = h

  pub quiet-hand : (a : Answer T) → finds_no_place a ≡ true → is_quiet a ≡ true
  quiet-hand Held h = refl
  quiet-hand (Refused r) h = refl
  quiet-hand _ h = h

  -- a message that would be consumed or start something isn't passed
  pub loud : (a : Answer T) (n : ℕ) → is_quiet a ≡ false →
      (stays_held (fitted n a) || finds_no_place (fitted n a)) ≡ false
  loud Held n h = absurd (true≢false h)
  loud (Refused r) n h = absurd (true≢false h)
  loud _ n h = refl

  pub loud-hand : (a : Answer T) (n : ℕ) → is_quiet a ≡ false → finds_no_place (fitted n a) ≡ false
  loud-hand Held n h = absurd (true≢false h)
  loud-hand (Refused r) n h = absurd (true≢false h)
  loud-hand _ n h = refl

  module _ {P : Type 0} (table : P → T → ℕ → Answer T × P) (takes_memory : P → T → Bool) where
    -- the message in the hand is served
    pub hand-first : (held : List T) (p : P) (m : T) → is_quiet (table p m (256 - length held)).0 ≡ false →
        served_of table held p (order_of (Some m) held) ≡ Some (in_hand, m)
    hand-first held p m h =
        let x : Place × T = (in_hand, m) in
        ap (λ b. cond (not b) (Some x) (find (is_served table held p) (held_from 0 held)))
        (loud-hand (table p m (256 - length held)).0 (256 - length held) h)

    -- the part was asked with these places
    asked-here : (held : List T) (p r : P) (m : T) (room : ℕ) (answer : Answer T) (q : P) → r ≡ p →
        room ≡ 257 - length held → Asks table takes_memory r m room answer q →
        Asks table takes_memory p m (257 - length held) answer q
    asked-here held p r m room answer q e f h =
        subst (λ y. Asks table takes_memory p m y answer q) f
        (subst (λ x. Asks table takes_memory x m room answer q) e h)

    -- a message that is passed
    pub goes-on : (held : List T) (p r : P) (n : ℕ) (m : T) (room : ℕ) (xs rest : List (Place × T)) (answer : Answer T)
        (q : P) (refused all : Bool) → r ≡ p → room ≡ 257 - length held → xs ≡ (held_at n, m) ∷ rest →
        Asks table takes_memory r m room answer q → (stays_held answer || finds_no_place answer) ≡ true →
        (refused || is_refused table held p xs) ≡ all → (served_of table held p xs ≡ served_of table held p rest)
        × (((refused || finds_no_place answer) || is_refused table held p rest) ≡ all)
    goes-on held p r n m room xs rest answer q refused all same places e asks h before =
        elim (asked-here held p r m room answer q same places asks) [
          | inr f ↦ absurd (true≢false (sym h ∙ ap (λ a. stays_held a || finds_no_place a) f.0))
          | inl f ↦ (let is : answer ≡ (asked table p m (257 - length held)).0 = ap (λ (a : Answer T × P). a.0) f in
              let x : Place × T = (held_at n, m) in (
                ap (find (is_served table held p)) e
                    ∙ ap (λ b. cond (not b) (Some x) (find (is_served table held p) rest))
                    (sym (ap (λ a. stays_held a || finds_no_place a) is) ∙ h),
                or-assoc refused (finds_no_place answer) (is_refused table held p rest)
                    ∙ ap (λ a. refused || (finds_no_place a || is_refused table held p rest)) is
                    ∙ sym (ap (λ ys. refused || is_refused table held p ys) e) ∙ before,
              ))
        ]

    -- a message that isn't passed is served
    served-here : (held : List T) (p : P) (n : ℕ) (m : T) (xs rest : List (Place × T)) → xs ≡ (held_at n, m) ∷ rest →
        (stays_held (asked table p m (257 - length held)).0 || finds_no_place (asked table p m (257 - length held)).0)
        ≡ false → served_of table held p xs ≡ Some (held_at n, m)
    served-here held p n m xs rest e h =
        let x : Place × T = (held_at n, m) in
        ap (find (is_served table held p)) e
        ∙ ap (λ b. cond (not b) (Some x) (find (is_served table held p) rest)) h

    -- the walk has come to a message that isn't passed
    pub comes-to : (held : List T) (p r : P) (n : ℕ) (m : T) (room : ℕ) (xs rest : List (Place × T))
        (answer : Answer T) (q : P) (first : Option (Place × T)) → r ≡ p → room ≡ 257 - length held →
        xs ≡ (held_at n, m) ∷ rest → Asks table takes_memory r m room answer q →
        (stays_held answer || finds_no_place answer) ≡ false → first ≡ served_of table held p xs →
        (first ≡ Some (held_at n, m))
        × (((answer, q) ≡ answer_to table held p (held_at n, m))
        ⊎ ((answer ≡ Refused NoMemory) × (q ≡ p) × IsTrue (takes_memory p m)))
    comes-to held p r n m room xs rest answer q first same places e asks h before =
        elim (asked-here held p r m room answer q same places asks) [
          | inr f ↦ (
            before
                ∙ served-here held p n m xs rest e (loud (table p m (257 - length held)).0 (257 - length held) f.3),
            inr (f.0, f.1, f.2),
          )
          | inl f ↦ (let is : answer ≡ (asked table p m (257 - length held)).0 = ap (λ (a : Answer T × P). a.0) f in (
            before
                ∙ served-here held p n m xs rest e (sym (ap (λ a. stays_held a || finds_no_place a) is) ∙ h),
            inl f,
          ))
        ]

    -- the held messages, when the walk has come to one that is served
    found-served : (b : InboxState T) (p : P) (refused : Bool) (k : ℕ) (m : T) (answer : Answer T)
        (result : Result Served Refusal) (c : InboxState T) (q : P) →
        served_of table b.held p (held_from 0 b.held) ≡ Some (held_at k, m) →
        ((answer, q) ≡ answer_to table b.held p (held_at k, m))
        ⊎ ((answer ≡ Refused NoMemory) × (q ≡ p) × IsTrue (takes_memory p m)) →
        result ≡ result_of answer → c ≡ inbox b.hand (after_held answer k b.held) →
        ServesHeld table takes_memory refused b p result c q
    found-served b p refused k m answer result c q first asks is after =
        elim asks [
          | inr f ↦ inr (
            is ∙ ap result_of f.0,
            after ∙ ap (λ a. inbox b.hand (after_held a k b.held)) f.0,
            f.1,
            ((held_at k, m), first, f.2),
          )
          | inl f ↦ inl (ap (λ r. (r, c, q)) is ∙ ap (λ d. (result_of answer, d, q)) after
              ∙ ap (λ (a : Answer T × P). (result_of a.0, inbox b.hand (after_held a.0 k b.held), a.1)) f
              ∙ sym (ap (λ y. serve_by table (refused || is_refused table b.held p (held_from 0 b.held)) y b p) first))
        ]

    pub walk-served : (cells : List (ℕ × T)) (b : InboxState T) (p : P) (refused passed : Bool)
        (found : Option (ℕ × Answer T)) (cell : ℕ) (answer : Answer T) (result : Result Served Refusal)
        (hand : Option T) (held : List T) (q : P) → hand ≡ b.hand → b.held ≡ map (λ a. a.1) cells →
        found ≡ Some (cell, answer) →
        Walks table takes_memory cells p passed found q → result ≡ result_of answer →
        ((k : ℕ) (m : T) → drop k cells ≡ (cell, m) ∷ drop (k + 1) cells →
        held ≡ after_held answer k (map (λ a. a.1) cells)) →
        ServesHeld table takes_memory refused b p result (inbox hand held) q
    walk-served cells b p refused passed found cell answer result hand held q stays same is walks gives after =
        let w = subst (λ f. Walks table takes_memory cells p passed f q) is walks in
        subst (λ (xs : List T). ServesHeld table takes_memory refused (inbox b.hand xs) p result (inbox hand held) q)
        (sym same)
        (found-served (inbox b.hand (map (λ a. a.1) cells)) p refused w.0 w.1 answer result (inbox hand held) q w.3
        w.4 gives (ap (λ h. inbox h held) stays ∙ ap (inbox b.hand) (after w.0 w.1 w.2)))

-- A serving does one of a few things: which message is served, and what the messages weigh before and afterwards.
use Rattle.std.proofs.Common.{◌≡◌, ℕ, zero, suc, ◌+◌, ◌-◌, inl, inr, Bool, true, false, not, cond, nat_eq, List, []}
use Rattle.std.proofs.Common.{◌∷◌, ◌++◌, length, slice_get, remove, Option, Some, None, Result, Ok, Err, refl, sym, ap}
use Rattle.std.proofs.Common.{◌∙◌, subst, true≢false, arith}
use Rattle.std.specs.Prelude.{option_to_list}
use Rattle.std.specs.List.{find}
use Rattle.inbox.specs.declared.answer.Answer.{Answer}
use Rattle.inbox.specs.declared.answer.Answer.TheVariants.{Delivered, Dropped, Started, Held, Refused}
use Rattle.inbox.specs.declared.answer.Refusal.{Refusal}
use Rattle.inbox.specs.declared.answer.Refusal.TheVariants.{NoMemory, Full}
use Rattle.inbox.specs.declared.answer.Served.{Served}
use Rattle.inbox.specs.Inboxes.{InboxState, inbox}
use Rattle.inbox.specs.Serving.{Place, in_hand, held_at, held_from, order_of, places, sent_list, fitted, is_passed}
use Rattle.inbox.specs.Serving.{is_quiet, result_of, after, none_served, is_served, is_refused, served_of}
use Rattle.inbox.specs.Serving.{serve_by}
use Rattle.inbox.specs.Effects.{is_stay, IsWeight, SameMessages, messages_of, LiesAt, others, LeavesPart, IsAsked}
use Rattle.inbox.specs.Effects.{Effect, delivered, dropped, started, moved, unchanged, EffectLaw, MemoryLaw}
use Rattle.inbox.specs.Effects.{NeverNoMemory}

module _ {T : Type 0} where
  -- Weights

  weigh-append : (f : T → ℕ) (w : List T → ℕ) → IsWeight f w → (xs ys : List T) → w (xs ++ ys) ≡ w xs + w ys
  weigh-append f w is [] ys = let e = is.none in omega arith
  weigh-append f w is (x ∷ xs) ys =
      let rest = weigh-append f w is xs ys in
      let more = is.one_more x xs in
      let all = is.one_more x (xs ++ ys) in
      omega arith

  weigh-remove : (f : T → ℕ) (w : List T → ℕ) → IsWeight f w → (xs : List T) (i : ℕ) (m : T) →
      slice_get xs i ≡ Some m → w xs ≡ f m + w (remove xs i)
  weigh-remove f w is [] zero m e = cc
  weigh-remove f w is [] (suc i) m e = cc
  weigh-remove f w is (x ∷ xs) zero m e = let same : x ≡ m = cc in is.one_more x xs ∙ ap (λ y. f y + w xs) same
  weigh-remove f w is (x ∷ xs) (suc i) m e =
      let rest = weigh-remove f w is xs i m e in
      let all = is.one_more x xs in
      let less = is.one_more x (remove xs i) in
      omega arith

  -- the messages of a seat are the one that lies somewhere, and the others
  pub split : (b : InboxState T) (at : Place) (m : T) → LiesAt b at m → SameMessages (messages_of b) (m ∷ others b at)
  split b in_hand m lies = λ f w is. ap (λ h. w (option_to_list h ++ b.held)) lies
  split b (held_at i) m lies = λ f w is.
      let hand = option_to_list b.hand in
      let all = weigh-append f w is hand b.held in
      let less = weigh-append f w is hand (remove b.held i) in
      let out = weigh-remove f w is b.held i m lies in
      let one = is.one_more m (hand ++ remove b.held i) in
      omega arith

  -- Which message is served

  record In (s : Place × T → Bool) (n : ℕ) (ms : List T) (x : Place × T) : Type 0 where
    at : ℕ
    place : x.0 ≡ held_at (n + at)
    here : slice_get ms at ≡ Some x.1
    is : s x ≡ true

  in-rest : (s : Place × T → Bool) (n : ℕ) (m : T) (ms : List T) (x : Place × T) (b : Bool) → s (held_at n, m) ≡ b →
      (find s (held_from (n + 1) ms) ≡ Some x → In s (n + 1) ms x) → find s (held_from n (m ∷ ms)) ≡ Some x →
      In s n (m ∷ ms) x
  in-rest s n m ms x true e later f =
      let first : (held_at n, m) ≡ x = grind arith in
      record {
        at = 0;
        place = sym (ap (λ y. y.0) first) ∙ ap held_at (omega arith);
        here = ap (λ y. Some y.1) first;
        is = ap s (sym first) ∙ e;
      }
  in-rest s n m ms x false e later f =
      let rest = later (grind arith) in let k = rest.at in
      record { at = suc k; place = rest.place ∙ ap held_at (omega arith); here = rest.here; is = rest.is }

  found-in : (s : Place × T → Bool) (n : ℕ) (ms : List T) (x : Place × T) → find s (held_from n ms) ≡ Some x →
      In s n ms x
  found-in s n [] x e = absurd (let no : None ≡ Some x = e in cc)
  found-in s n (m ∷ ms) x e = in-rest s n m ms x (s (held_at n, m)) refl (found-in s (n + 1) ms x) e

  lies-in : (b : InboxState T) (s : Place × T → Bool) (x : Place × T) → In s 0 b.held x → LiesAt b x.0 x.1
  lies-in b s x found =
      subst (λ at. LiesAt b at x.1) (sym (found.place ∙ ap held_at (omega arith)))
      found.here

  in-order : (held : List T) (m : T) (s : Place × T → Bool) (x : Place × T) (b : Bool) → s (in_hand, m) ≡ b →
      find s (order_of (Some m) held) ≡ Some x → LiesAt (inbox (Some m) held) x.0 x.1 × (s x ≡ true)
  in-order held m s x true e f =
      let first : (in_hand, m) ≡ x = grind arith in
      (subst (λ (y : Place × T). LiesAt (inbox (Some m) held) y.0 y.1) first refl, ap s (sym first) ∙ e)
  in-order held m s x false e f =
      let found = found-in s 0 held x (grind arith) in (lies-in (inbox (Some m) held) s x found, found.is)

  -- what is found in the order of serving lies where it says
  lies : (hand : Option T) (held : List T) (s : Place × T → Bool) (x : Place × T) →
      find s (order_of hand held) ≡ Some x → LiesAt (inbox hand held) x.0 x.1 × (s x ≡ true)
  lies None held s x e =
      let found = found-in s 0 held x e in (lies-in (inbox None held) s x found, found.is)
  lies (Some m) held s x e = in-order held m s x (s (in_hand, m)) refl e

  -- What was done

  stay-none : (refused : Bool) (held : List T) → is_stay (none_served refused held) ≡ true
  stay-none refused held = grind arith

  -- after a message was consumed, or stays, and another was sent
  sent-after : (xs : List T) (sent : Option T) → SameMessages (xs ++ sent_list sent) (sent_list sent ++ xs)
  sent-after xs sent = λ f w is.
      let a = weigh-append f w is xs (sent_list sent) in
      let b = weigh-append f w is (sent_list sent) xs in
      omega arith

  behind : (hand : List T) (xs : List T) (sent : Option T) →
      SameMessages (hand ++ (xs ++ sent_list sent)) (sent_list sent ++ (hand ++ xs))
  behind hand xs sent = λ f w is.
      let a = weigh-append f w is hand (xs ++ sent_list sent) in
      let b = weigh-append f w is xs (sent_list sent) in
      let c = weigh-append f w is (sent_list sent) (hand ++ xs) in
      let d = weigh-append f w is hand xs in
      omega arith

  moved-back : (held : List T) (m : T) → SameMessages (held ++ m ∷ []) (m ∷ held)
  moved-back held m = λ f w is.
      let a = weigh-append f w is held (m ∷ []) in
      let b = is.one_more m [] in
      let c = is.one_more m held in
      let d = is.none in
      omega arith

  moved-and : (held : List T) (m : T) (sent : Option T) →
      SameMessages ((held ++ m ∷ []) ++ sent_list sent) (sent_list sent ++ (m ∷ held))
  moved-and held m sent = λ f w is.
      let a = weigh-append f w is (held ++ m ∷ []) (sent_list sent) in
      let b = weigh-append f w is (sent_list sent) (m ∷ held) in
      let c = moved-back held m f w is in
      omega arith

  module _ {P : Type 0} (table : P → T → ℕ → Answer T × P) where
    -- a quiet answer left the part
    left : (p : P) (m : T) (n : ℕ) (a : Answer T) (q : P) → LeavesPart table → table p m n ≡ (a, q) →
        is_quiet a ≡ true → q ≡ p
    left p m n a q quiet asks h =
        sym (ap (λ (y : Answer T × P). y.1) asks)
        ∙ quiet p m n (ap (λ (y : Answer T × P). is_quiet y.0) asks ∙ h)

    -- a held message from the hand has a place, or else it is passed
    -- the answer to a message that has to wait, for which there may be no place
    abbrev waits : Bool → Answer T
    waits none = cond none (Refused Full) Held

    held-hand : (b : InboxState T) (p : P) (m : T) (q : P) (none : Bool) → LeavesPart table →
        IsAsked table b p in_hand m Held q → not (is_passed in_hand (waits none)) ≡ true →
        Effect table b p (result_of (waits none)) (after (waits none) (in_hand, m) b) q
    held-hand b p m q true quiet asks served = absurd (true≢false (sym served))
    held-hand b p m q false quiet asks served =
        moved m asks refl refl
        (λ f w is. moved-back b.held m f w is ∙ ap (λ h. w (option_to_list h ++ b.held)) (sym asks.0))
        (left p m (256 - length b.held) Held q quiet asks.1 refl)

    held-list : (b : InboxState T) (p : P) (i : ℕ) (m : T) (q : P) (none : Bool) →
        not (is_passed (held_at i) (waits none)) ≡ true →
        Effect table b p (result_of (waits none)) (after (waits none) (held_at i, m) b) q
    held-list b p i m q true served = absurd (true≢false (sym served))
    held-list b p i m q false served = absurd (true≢false (sym served))

    by-answer : (b : InboxState T) (p : P) (at : Place) (m : T) (a : Answer T) (q : P) → LeavesPart table →
        table p m (places b.held at) ≡ (a, q) → LiesAt b at m →
        not (is_passed at (fitted (places b.held at) a)) ≡ true →
        Effect table b p (result_of (fitted (places b.held at) a)) (after (fitted (places b.held at) a) (at, m) b) q
    by-answer b p in_hand m (Delivered sent) q quiet asks here served =
        delivered in_hand m sent (here, asks) refl (split b in_hand m here) (sent-after b.held sent)
    by-answer b p (held_at i) m (Delivered sent) q quiet asks here served =
        delivered (held_at i) m sent (here, asks) refl (split b (held_at i) m here)
        (behind (option_to_list b.hand) (remove b.held i) sent)
    by-answer b p in_hand m Dropped q quiet asks here served =
        dropped in_hand m (here, asks) refl (split b in_hand m here) (λ f w is. refl)
    by-answer b p (held_at i) m Dropped q quiet asks here served =
        dropped (held_at i) m (here, asks) refl (split b (held_at i) m here) (λ f w is. refl)
    by-answer b p in_hand m (Started sent) q quiet asks here served =
        started in_hand m sent (here, asks) refl (split b in_hand m here)
        (λ f w is. moved-and b.held m sent f w is
        ∙ ap (λ h. w (sent_list sent ++ (option_to_list h ++ b.held))) (sym here))
    by-answer b p (held_at i) m (Started sent) q quiet asks here served =
        started (held_at i) m sent (here, asks) refl (split b (held_at i) m here)
        (behind (option_to_list b.hand) b.held sent)
    by-answer b p in_hand m Held q quiet asks here served =
        held-hand b p m q (nat_eq (256 - length b.held) 0) quiet (here, asks) served
    by-answer b p (held_at i) m Held q quiet asks here served =
        held-list b p i m q (nat_eq (257 - length b.held) 0) served
    by-answer b p in_hand m (Refused r) q quiet asks here served =
        unchanged refl (ap (λ h. inbox h b.held) (sym here))
        (left p m (256 - length b.held) (Refused r) q quiet asks refl)
    by-answer b p (held_at i) m (Refused r) q quiet asks here served =
        unchanged refl refl (left p m (257 - length b.held) (Refused r) q quiet asks refl)

    by-found : (b : InboxState T) (p : P) (refused : Bool) (found : Option (Place × T)) → LeavesPart table →
        served_of table b.held p (order_of b.hand b.held) ≡ found →
        Effect table b p (serve_by table refused found b p).0 (serve_by table refused found b p).1
        (serve_by table refused found b p).2
    by-found b p refused None quiet e = unchanged (stay-none refused b.held) refl refl
    by-found b p refused (Some x) quiet e =
        let at = lies b.hand b.held (is_served table b.held p) x e in
        let n = places b.held x.0 in
        by-answer b p x.0 x.1 (table p x.1 n).0 (table p x.1 n).1 quiet refl at.0 at.1

    -- NoMemory

    abbrev is-no-memory : Result Served Refusal → Bool
    is-no-memory (Ok s) = false
    is-no-memory (Err NoMemory) = true
    is-no-memory (Err r) = false

    never-none : (refused : Bool) (held : List T) → is-no-memory (none_served refused held) ≡ false
    never-none refused held = grind arith

    never-held : (none : Bool) → is-no-memory (result_of (waits none)) ≡ false
    never-held none = grind arith

    never-answer : (n : ℕ) (a : Answer T) → (a ≡ Refused NoMemory → ⊥) → is-no-memory (result_of (fitted n a)) ≡ false
    never-answer n Held other = never-held (nat_eq n 0)
    never-answer n (Refused NoMemory) other = absurd (other refl)
    never-answer n _ other = refl

    never-found : (b : InboxState T) (p : P) (refused : Bool) (found : Option (Place × T)) → NeverNoMemory table →
        is-no-memory (serve_by table refused found b p).0 ≡ false
    never-found b p refused None never = never-none refused b.held
    never-found b p refused (Some x) never =
        never-answer (places b.held x.0) (table p x.1 (places b.held x.0)).0 (never p x.1 (places b.held x.0))

module _ (T P : Type 0) where
  pub effect : EffectLaw T P
  effect table takes_memory b p result c q quiet did =
      elim did [
        | inr s ↦ unchanged (ap is_stay s.0) s.1 s.2
        | inl s ↦ (let xs = order_of b.hand b.held in
            subst (λ (y : Result Served Refusal × InboxState T × P). Effect table b p y.0 y.1 y.2) (sym s)
            (by-found table b p (is_refused table b.held p xs) (served_of table b.held p xs) quiet refl))
      ]

  pub memory : MemoryLaw T P
  memory table takes_memory b p result c q never did is =
      elim did [
        | inr s ↦ s.3
        | inl s ↦ (let xs = order_of b.hand b.held in
            absurd (true≢false (sym (ap (is-no-memory table) is)
            ∙ ap (λ (y : Result Served Refusal × InboxState T × P). is-no-memory table y.0) s
            ∙ never-found table b p (is_refused table b.held p xs) (served_of table b.held p xs) never)))
      ]

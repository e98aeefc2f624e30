-- What comes of a turn, by what the calls keep of which it is made.
use Rattle.std.proofs.Common.{◌≡◌, ℕ, zero, suc, Bool, true, false, List, [], ◌++◌, append-nil, Result, Ok, Err, sym}
use Rattle.std.proofs.Common.{ap, ◌∙◌, subst, arith}
use Rattle.std.proofs.lemmas.Bool.Decides.{nat_tests}
use Rattle.std.proofs.lemmas.Grind.{common_steps}
use Rattle.machine_table.specs.declared.event.Refusal.{Refusal}
use Rattle.inbox.specs.declared.answer.Served.{Served}
use Rattle.mailboxes.specs.declared.taken.Take.{Take}
use Rattle.mailboxes.specs.declared.taken.Take.TheVariants.{Taken, Nothing, HandFull}
use Rattle.mailboxes.specs.declared.turning.Turn.{Turn}
use Rattle.mailboxes.specs.Turns.{is_idle, PutSo, PutAll, Ends, Follows, Goes, Rests, TurnsBy, Turns}

module _ {S : Type 0} (serves : Result Served Refusal → S → S → Type 0) (takes : Take → S → S → Type 0)
    (full : S → Bool) (puts : Bool → S → S → Type 0) where
  -- how many were put, and what was answered
  pub turned : (p q : S) (result : Result Turn Refusal) → Turns serves takes full puts p result q →
      (n : ℕ) × (told : Result Served Refusal) × TurnsBy serves takes full puts n p told q
  turned p q (Ok turn) t = (turn.put, Ok turn.served, t)
  turned p q (Err refusal) t = (t.0, Err refusal, t.1)

  -- what so many puts come to
  pub put-count : (Q : ℕ → S → Type 0) → ((n : ℕ) (p q : S) → puts true p q → Q n p → Q (suc n) q) → (n : ℕ) (p q : S) →
      PutSo puts n p q → Q 0 p → Q n q
  put-count Q more zero p q e h = subst (Q 0) (sym e) h
  put-count Q more (suc n) p q e h = more n e.0 q e.2 (put-count Q more n p e.0 e.1 h)

  -- what every put keeps
  module _ (Q : S → Type 0) (keeps : (done : Bool) (p q : S) → puts done p q → Q p → Q q) where
    put-so : (n : ℕ) (p q : S) → PutSo puts n p q → Q p → Q q
    put-so zero p q e h = subst Q (sym e) h
    put-so (suc n) p q e h = keeps true e.0 q e.2 (put-so n p e.0 e.1 h)

    pub put-all : (n : ℕ) (p q : S) → PutAll puts n p q → Q p → Q q
    put-all n p q e h = keeps false e.0 q e.2 (put-so n p e.0 e.1 h)

    -- with a full hand, the turn is that and a serving
    pub with-full : (R : S → Type 0) → ((p : S) → Q p → full p ≡ true) →
        ((told : Result Served Refusal) (p q : S) → serves told p q → Q p → R q) → (p q : S)
        (result : Result Turn Refusal) → Turns serves takes full puts p result q → Q p → R q
    with-full R is then p q result t h =
        let by = turned p q result t in
        let r = by.2.0 in
        let here = put-all by.0 p r by.2.1 h in
        then by.1 r q (subst (λ b. Rests serves takes b r by.1 q) (is r here) by.2.2) here

    -- with an empty one, of which held messages nothing comes, it is that and a take
    pub with-empty : (W R : S → Type 0) → ((p : S) → Q p → full p ≡ false) →
        ((told : Result Served Refusal) (p q : S) → serves told p q → Q p → W q × (is_idle told ≡ true)) →
        ((before told : Result Served Refusal) (p q : S) → Follows serves takes before p told q → W p → R q) →
        (p q : S) (result : Result Turn Refusal) → Turns serves takes full puts p result q → Q p → R q
    with-empty W R is waits then p q result t h =
        let by = turned p q result t in
        let r = by.2.0 in
        let here = put-all by.0 p r by.2.1 h in
        let rest = subst (λ b. Rests serves takes b r by.1 q) (is r here) by.2.2 in
        let w = waits rest.0 r rest.1 rest.2 here in
        then rest.0 by.1 rest.1 q (subst (λ b. Goes serves takes b rest.0 rest.1 by.1 q) w.1 rest.3) w.0

  -- what is listed of a seat, to which servings add nothing, and of which takes keep the second
  module _ {A B : Type 0} (looks : S → List A) (kept : S → List B)
      (same : (told : Result Served Refusal) (p q : S) → serves told p q → (looks q ≡ looks p) × (kept q ≡ kept p))
      (more : (t : Take) (p q : S) → takes t p q →
      (l : List A) × (looks q ≡ looks p ++ l) × (kept q ≡ kept p)) where
    abbrev pub Adds : S → S → Type 0
    Adds p q = (l : List A) × (looks q ≡ looks p ++ l) × (kept q ≡ kept p)

    none : (told : Result Served Refusal) (p q : S) → serves told p q → Adds p q
    none told p q s = let k = same told p q s in ([], k.0 ∙ sym (append-nil (looks p)), k.1)

    on : (p q r : S) → Adds p q → (looks r ≡ looks q) × (kept r ≡ kept q) → Adds p r
    on p q r a k = (a.0, k.0 ∙ a.1, k.1 ∙ a.2)

    before : (p q r : S) → (looks q ≡ looks p) × (kept q ≡ kept p) → Adds q r → Adds p r
    before p q r k a = (a.0, a.1 ∙ ap (λ l. l ++ a.0) k.0, a.2 ∙ k.1)

    stay : (p q : S) → q ≡ p → (looks q ≡ looks p) × (kept q ≡ kept p)
    stay p q e = (ap looks e, ap kept e)

    ends : (t : Take) (earlier : Result Served Refusal) (p q r : S) (told : Result Served Refusal) → takes t p q →
        Ends serves takes t earlier q told r → Adds p r
    ends Taken earlier p q r told t e = on p q r (more Taken p q t) (same told q r e)
    ends HandFull earlier p q r told t e = on p q r (more HandFull p q t) (same told q r e)
    ends Nothing earlier p q r told t e = on p q r (more Nothing p q t) (stay q r e.1)

    goes : (idle : Bool) (earlier : Result Served Refusal) (p q : S) (told : Result Served Refusal) →
        Goes serves takes idle earlier p told q → Adds p q
    goes true earlier p q told g = ends g.0 earlier p g.1 q told g.2 g.3
    goes false earlier p q told g = grind (arith, nat_tests, common_steps, append-nil, stay)

    pub rests : (is_full : Bool) (p q : S) (told : Result Served Refusal) → Rests serves takes is_full p told q →
        Adds p q
    rests true p q told s = none told p q s
    rests false p q told s = let q0 = goes (is_idle s.0) s.0 s.1 q told s.3 in grind (arith, nat_tests, q0)

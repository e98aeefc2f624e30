-- What holds of a text and the lines that are left of it, when the next line is taken.
use Rattle.std.proofs.Common.{◌≡◌, ℕ, ◌+◌, ◌≤◌, true, false, List, [], ◌∷◌, ◌++◌, take, drop, length}
use Rattle.std.proofs.Common.{Option, Some, None, IfSome, refl, sym, subst, arith}
use Rattle.std.specs.Prelude.{Result, Err, ◌||◌, nat_lt}
use Rattle.std.proofs.lemmas.Bool.Decides.{nat_tests}
use Rattle.trace_lines.specs.declared.errors.Kind.{Kind}
use Rattle.trace_lines.specs.declared.errors.Kind.TheVariants.{TooLong}
use Rattle.trace_reader.specs.declared.limits.TheConstants.{MOST_BYTES, MOST_LINES}
use Rattle.trace_reader.specs.Ahead.{Both}
use Rattle.text_lines.specs.Lines.{lines_of}
use Rattle.trace_reader.specs.Outcomes.{IsFound, BeginTooLong}
use Rattle.trace_reader.specs.Reading.{fitted}

pub both-next : (P Q : List ℕ → List (List ℕ) → Type 0) (a b c : Option (List ℕ)) (old new : List ℕ) (found : Option ℕ)
    (n : ℕ) → Both a b (λ before after. P before (lines_of (old ++ after))) →
    Both b c (λ before after. IsFound found (old ++ before) new after) → found ≡ Some n →
    ((before : List ℕ) (later : List (List ℕ)) → P before (take n new ∷ later) → Q before later) →
    (last : List ℕ) → last ≡ drop (n + 1) new →
    Both a c (λ before after. Q before (lines_of (last ++ after)))
both-next P Q None b c old new found n p q e f last g = tt
both-next P Q (Some x) None c old new found n p q e f last g = absurd p
both-next P Q (Some x) (Some y) None old new found n p q e f last g = absurd q
both-next P Q (Some x) (Some y) (Some z) old new found n p q e f last g =
    let h : IsFound (Some n) (old ++ y) new z = subst (λ (o : Option ℕ). IsFound o (old ++ y) new z) e q in
    let r : Q x (lines_of (drop (n + 1) new ++ z)) = f x (lines_of (drop (n + 1) new ++ z)) (subst (P x) h p) in
    subst (λ (w : List ℕ). Q x (lines_of (w ++ z))) (sym g) r

pub both-fault : (P : List ℕ → List (List ℕ) → Type 0) (Q : List ℕ →
    Type 0) (a b c : Option (List ℕ)) (old new : List ℕ)
    (found : Option ℕ) (n : ℕ) → Both a b (λ before after. P before (lines_of (old ++ after))) →
    Both b c (λ before after. IsFound found (old ++ before) new after) → found ≡ Some n →
    ((before : List ℕ) (later : List (List ℕ)) → P before (take n new ∷ later) → Q before) → IfSome a Q
both-fault P Q None b c old new found n p q e f = tt
both-fault P Q (Some x) None c old new found n p q e f = absurd p
both-fault P Q (Some x) (Some y) None old new found n p q e f = absurd q
both-fault P Q (Some x) (Some y) (Some z) old new found n p q e f =
    let h : IsFound (Some n) (old ++ y) new z = subst (λ (o : Option ℕ). IsFound o (old ++ y) new z) e q in
    f x (lines_of (drop (n + 1) new ++ z)) (subst (P x) h p)

pub both-long : (P : List ℕ → List (List ℕ) → Type 0) (Q : List ℕ → Type 0) (a b c : Option (List ℕ)) (old : List ℕ)
    (number : ℕ) → Both a b (λ before after. P before (lines_of (old ++ after))) →
    Both b c (λ before after. BeginTooLong MOST_LINES number (lines_of (old ++ before))) →
    ((before line : List ℕ) (later : List (List ℕ)) →
    (nat_lt MOST_BYTES (length line) || nat_lt MOST_LINES number) ≡ true → P before (line ∷ later) → Q before) →
    IfSome a Q
both-long P Q None b c old number p q f = tt
both-long P Q (Some x) None c old number p q f = absurd p
both-long P Q (Some x) (Some y) None old number p q f = absurd q
both-long P Q (Some x) (Some y) (Some z) old number p q f = f x q.0 q.1 q.3 (subst (P x) q.2 p)

pub both-end : (P : List ℕ → List (List ℕ) → Type 0) (Q : List ℕ → Type 0) (a b c : Option (List ℕ)) (old new : List ℕ)
    (found : Option ℕ) → Both a b (λ before after. P before (lines_of (old ++ after))) →
    Both b c (λ before after. IsFound found (old ++ before) new after) → found ≡ None →
    ((before : List ℕ) → P before [] → Q before) → IfSome a Q
unfolding lines_of
both-end P Q None b c old new found p q e f = tt
both-end P Q (Some x) None c old new found p q e f = absurd p
both-end P Q (Some x) (Some y) None old new found p q e f = absurd q
both-end P Q (Some x) (Some y) (Some z) old new found p q e f =
    let h : IsFound None (old ++ y) new z = subst (λ (o : Option ℕ). IsFound o (old ++ y) new z) e q in
    f x (subst (λ (w : List ℕ). P x (lines_of w)) h.0 p)

-- ---- the length of a line

pub fitted-short : {X : Type 0} (most number : ℕ) (line : List ℕ) (said : Result X Kind) →
    length line ≤ MOST_BYTES → number ≤ most → fitted most number line said ≡ said
fitted-short most number line said h k =
    let short : nat_lt MOST_BYTES (length line) ≡ false = grind (arith, nat_tests) in
    let early : nat_lt most number ≡ false = grind (arith, nat_tests) in
    rw (short, early) refl

pub fitted-long : {X : Type 0} (most number : ℕ) (line : List ℕ) (said : Result X Kind) →
    (nat_lt MOST_BYTES (length line) || nat_lt most number) ≡ true → fitted most number line said ≡ Err TooLong
fitted-long most number line said e = rw e refl

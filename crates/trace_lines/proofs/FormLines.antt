-- Which form a line tells, both ways, and why it is refused.
use Rattle.std.proofs.Common.{◌≡◌, ℕ, Bool, true, false, cond, List, [], ◌∷◌, Option, Some, None, refl, sym, subst}
use Rattle.std.proofs.Common.{codes, arith}
use Rattle.std.proofs.lemmas.Bool.Decides.{nat_tests}
use Rattle.std.proofs.lemmas.Grind.{common_steps}
use Rattle.std.specs.Prelude.{Result, Ok, Err, IfOk, IfErr, MatchOption}
use Rattle.std.specs.Str.{bytes_eq}
use Rattle.std.proofs.lemmas.Bool.{both_ways}
use Rattle.std.proofs.lemmas.Slice.Eq.{bytes_eq-Decides}
use Rattle.trace_lines.specs.declared.errors.Kind.{Kind}
use Rattle.trace_lines.specs.declared.errors.Kind.TheVariants.{BadForm}
use Rattle.trace_lines.specs.declared.steps.Form.{Form}
use Rattle.trace_lines.specs.declared.steps.Form.TheVariants.{One, Two}
use Rattle.trace_lines.specs.Reading.{ended, form_named, form_line_at}
use Rattle.trace_lines.specs.Grammar.{IsFormLine}
use Rattle.trace_lines.specs.Causes.{FormCause}

abbrev pub LineJudged : List (List ℕ) → Result (Option Form) Kind → Type 0
LineJudged fields r = IfOk r (λ told. MatchOption told (fields ≡ []) (λ form. IsFormLine fields form))
    × IfErr r (λ kind. FormCause kind fields)

two-judged : (first second : List ℕ) (fields : List (List ℕ)) (b : Bool) → first ≡ codes "trace" →
    (b ≡ true → second ≡ codes "2") → (second ≡ codes "2" → b ≡ true) →
    LineJudged (first ∷ second ∷ fields) (cond b (ended (Some Two) fields) (Err BadForm))
unfolding ended
two-judged first second [] true e f g = grind (arith, nat_tests)
two-judged first second (extra ∷ left) true e f g = grind (arith, nat_tests)
two-judged first second fields false e f g = (tt, (e, λ same. both_ways false refl (g same)))

named-judged : (first : List ℕ) (fields : List (List ℕ)) → first ≡ codes "trace" →
    LineJudged (first ∷ fields) (form_named fields)
named-judged first [] e = (tt, (e, tt))
named-judged first (second ∷ fields) e = two-judged first second fields (bytes_eq second (codes "2")) e
    (bytes_eq-Decides second (codes "2")).0 (bytes_eq-Decides second (codes "2")).1

first-judged : (first : List ℕ) (fields : List (List ℕ)) (b : Bool) → (b ≡ true → first ≡ codes "trace") →
    (first ≡ codes "trace" → b ≡ true) →
    LineJudged (first ∷ fields) (cond b (form_named fields) (Ok (Some One)))
first-judged first fields true f g = named-judged first fields (f refl)
first-judged first fields false f g = (λ same. both_ways false refl (g same), tt)

line-judged : (fields : List (List ℕ)) → LineJudged fields (form_line_at fields)
unfolding form_line_at
line-judged [] = (refl, tt)
line-judged (first ∷ fields) = first-judged first fields (bytes_eq first (codes "trace"))
    (bytes_eq-Decides first (codes "trace")).0 (bytes_eq-Decides first (codes "trace")).1

pub form-told : (fields : List (List ℕ)) (r : Result (Option Form) Kind) → r ≡ form_line_at fields →
    LineJudged fields r
form-told fields r e = subst (LineJudged fields) (sym e) (line-judged fields)

-- ---- what stands is read

one-read : (fields : List (List ℕ)) (b : Bool) → (b ≡ true → ⊥) →
    cond b (form_named fields) (Ok (Some One)) ≡ Ok (Some One)
one-read fields true ne = absurd (ne refl)
one-read fields false ne = refl

two-read : (b c : Bool) → b ≡ true → c ≡ true →
    cond b (cond c (ended (Some Two) []) (Err BadForm)) (Ok (Some One)) ≡ Ok (Some Two)
unfolding ended
two-read b c e f = rw (e, f) refl

pub form-only : (fields : List (List ℕ)) (form : Form) → IsFormLine fields form → form_line_at fields ≡ Ok (Some form)
unfolding form_line_at
form-only [] form h = absurd h
form-only (first ∷ fields) One h = grind (arith, nat_tests, common_steps, bytes_eq-Decides, one-read)
form-only (first ∷ fields) Two h =
    rw h.1 (two-read (bytes_eq first (codes "trace")) (bytes_eq (codes "2") (codes "2"))
    ((bytes_eq-Decides first (codes "trace")).1 h.0) ((bytes_eq-Decides (codes "2") (codes "2")).1 refl))

pub form-nothing : (fields : List (List ℕ)) → fields ≡ [] → form_line_at fields ≡ Ok None
unfolding form_line_at
form-nothing fields e = rw e refl

-- What a line of a trace says, both ways, and why it is refused.
use Rattle.std.proofs.Common.{◌≡◌, ◌≢◌, ℕ, ◌^◌, eqb, List, [], ◌∷◌, Option, Some, None, refl, inl, inr, sym, subst}
use Rattle.std.proofs.Common.{codes, arith}
use Rattle.std.proofs.lemmas.Bool.Decides.{nat_tests}
use Rattle.std.proofs.lemmas.Grind.{common_steps}
use Rattle.std.specs.Prelude.{Result, Ok, Err, IfOk, IfErr, MatchOption}
use Rattle.std.proofs.lemmas.Bool.{cases_Bool, eqb-true, eqb-false}
use Rattle.physiological_order.specs.declared.operation.Op.{Op}
use Rattle.physiological_order.specs.declared.operation.Op.TheVariants.{Load, Store, Swap}
use Rattle.trace_lines.specs.declared.errors.Kind.{Kind}
use Rattle.trace_lines.specs.declared.errors.Kind.TheVariants.{BadCore, BadOperation, BadAddress, BadValue, ExtraWords}
use Rattle.trace_lines.specs.declared.steps.Access.{Access}
use Rattle.trace_lines.specs.declared.steps.Access.TheVariants as access
use Rattle.trace_lines.specs.declared.steps.Form.{Form}
use Rattle.trace_lines.specs.declared.steps.Form.TheVariants.{One, Two}
use Rattle.programs.specs.declared.steps.Step.{Step}
use Rattle.programs.specs.declared.steps.Step.TheVariants as step
use Rattle.trace_lines.specs.Spelling.{most_cores_named}
use Rattle.text_lines.specs.Reading.{◌>>=◌}
use Rattle.trace_lines.specs.Reading.{decimal_in, address_in, access_in, ended, core_at, operation_at}
use Rattle.trace_lines.specs.Reading.{address_at, number_field_at, operand_at, op_at, behind_advance, step_or, step_at}
use Rattle.trace_lines.specs.Reading.{trace_at, trace_line_at}
use Rattle.trace_lines.specs.Grammar.{IsCoreNumber, IsValue, IsAddress, IsOp, IsStep, IsTraceLine}
use Rattle.trace_lines.specs.Causes.{Missing, Behind, FollowsWhole, HasCoreNumber, HasAddress, HasValue, IsAccess}
use Rattle.trace_lines.specs.Causes.{IsWriting, IsStepWord, StepCause, TraceCause}
use Rattle.trace_lines.proofs.Rules.{judged, missing, read_as}
use Rattle.trace_lines.proofs.Spellings.{letter_of, number-takes, number-again, address-takes, address-again}
use Rattle.trace_lines.proofs.Spellings.{access-takes, access-again}
use Rattle.trace_lines.proofs.FieldKinds.{core-spelled, value-spelled, address-spelled, access-spelled, access-stands}

-- ---- what reading gives: an operation that stands, or a cause that stands

abbrev OpCause : Kind → List (List ℕ) → Type 0
OpCause BadOperation fields = Missing IsAccess fields
OpCause BadAddress fields = Behind IsAccess (Missing HasAddress) fields
OpCause BadValue fields = Behind IsWriting (Behind HasAddress (Missing HasValue)) fields
OpCause ExtraWords fields = FollowsWhole (λ front. (op : Op) × IsOp front op) fields
OpCause kind fields = ⊥

abbrev OpJudged : List (List ℕ) → Result Op Kind → Type 0
OpJudged fields (Ok op) = IsOp fields op
OpJudged fields (Err kind) = OpCause kind fields

written-judged : (letter field written : List ℕ) (word value : ℕ) (left : List (List ℕ)) → letter ≡ codes "W" →
    IsAddress field word → IsValue written value →
    OpJudged (letter ∷ field ∷ written ∷ left) (ended (Store word value) left)
unfolding ended
written-judged letter field written word value [] e a v = (e, a, v)
written-judged letter field written word value (extra ∷ left) e a v =
    (letter ∷ field ∷ written ∷ [], extra, left, refl, (Store word value, (e, a, v)))

swapped-judged : (letter field written : List ℕ) (word value : ℕ) (left : List (List ℕ)) → letter ≡ codes "S" →
    IsAddress field word → IsValue written value →
    OpJudged (letter ∷ field ∷ written ∷ left) (ended (Swap word value) left)
unfolding ended
swapped-judged letter field written word value [] e a v = (e, a, v)
swapped-judged letter field written word value (extra ∷ left) e a v =
    (letter ∷ field ∷ written ∷ [], extra, left, refl, (Swap word value, (e, a, v)))

operand-judged : (letter field : List ℕ) (x : Access) (word : ℕ) (left : List (List ℕ)) → letter ≡ letter_of x →
    IsAddress field word → OpJudged (letter ∷ field ∷ left) (operand_at x word left)
unfolding ended number_field_at
operand-judged letter field access.Read word [] e a = (e, a)
operand-judged letter field access.Read word (extra ∷ left) e a =
    (letter ∷ field ∷ [], extra, left, refl, (Load word, (e, a)))
operand-judged letter field access.Write word left e a =
    judged (λ fs r. OpJudged (letter ∷ field ∷ fs) r) BadValue (decimal_in 20 (2 ^ 64)) left _
    (λ blank. (inl e, ((word, a), missing HasValue (decimal_in 20 (2 ^ 64)) value-spelled left blank)))
    (λ written rest value h.
    written-judged letter field written word value rest e a (number-takes 20 (2 ^ 64) written value h))
operand-judged letter field access.Swap word left e a =
    judged (λ fs r. OpJudged (letter ∷ field ∷ fs) r) BadValue (decimal_in 20 (2 ^ 64)) left _
    (λ blank. (inr e, ((word, a), missing HasValue (decimal_in 20 (2 ^ 64)) value-spelled left blank)))
    (λ written rest value h.
    swapped-judged letter field written word value rest e a (number-takes 20 (2 ^ 64) written value h))

op-judged : (fields : List (List ℕ)) → OpJudged fields (op_at fields)
unfolding op_at operation_at address_at
op-judged fields = judged OpJudged BadOperation access_in fields _ (missing IsAccess access_in access-spelled fields)
    (λ letter rest x e. judged (λ fs r. OpJudged (letter ∷ fs) r) BadAddress address_in rest _
    (λ blank. (
      access-stands letter x (access-takes letter x e),
      missing HasAddress address_in address-spelled rest blank,
    ))
    (λ field left word h.
    operand-judged letter field x word left (access-takes letter x e) (address-takes field word h)))

abbrev StepJudged : Form → List (List ℕ) → Result Step Kind → Type 0
StepJudged form fields (Ok told) = IsStep form fields told
StepJudged form fields (Err kind) = StepCause form kind fields

step-from : (form : Form) (fields : List (List ℕ)) (r : Result Op Kind) → OpJudged fields r →
    (Missing IsAccess fields → Missing (IsStepWord form) fields) →
    StepJudged form fields (r >>= (λ op. Ok (step.Op op)))
step-from form fields (Ok op) j m = j
step-from form fields (Err BadOperation) j m = m j
step-from form fields (Err ExtraWords) j m = (j.0, j.1, j.2, j.3, (step.Op j.4.0, j.4.1))
step-from form fields (Err kind) j m = j

no_step : (field : List ℕ) → field ≢ codes "A" → (IsAccess field → ⊥) → IsStepWord Two field → ⊥
no_step field ne m (inl e) = ne e
no_step field ne m (inr a) = m a

advance-judged : (a : ℕ) (fields : List (List ℕ)) → a ≡ 65 →
    StepJudged Two ((a ∷ []) ∷ fields) (ended step.Advance fields)
unfolding ended
advance-judged a [] e = rw e refl
advance-judged a (extra ∷ left) e =
    let letter : (a ∷ []) ∷ [] ≡ codes "A" ∷ [] = rw e refl in
    ((a ∷ []) ∷ [], extra, left, refl, (step.Advance, letter))

step-judged : (form : Form) (fields : List (List ℕ)) → StepJudged form fields (step_at form fields)
unfolding step_at
step-judged One fields = step-from One fields (op_at fields) (op-judged fields) (λ m. m)
step-judged Two [] = step-from Two [] (op_at []) (op-judged []) (λ m. tt)
step-judged Two ([] ∷ fields) = let q0 = op-judged ([] ∷ fields) in grind (arith, nat_tests, q0)
step-judged Two ((a ∷ []) ∷ fields) =
    elim (cases_Bool (eqb a 65)) [
      | inl e ↦ rw e (advance-judged a fields (eqb-true a 65 e))
      | inr e ↦ let ne : a ≢ 65 = eqb-false a 65 e in
          rw e (step-from Two ((a ∷ []) ∷ fields) (op_at ((a ∷ []) ∷ fields)) (op-judged ((a ∷ []) ∷ fields))
          (λ m. no_step (a ∷ []) (λ same. ne (let s : a ≡ 65 = cc in s)) m))
    ]
step-judged Two ((a ∷ b ∷ field) ∷ fields) = grind (arith, nat_tests, common_steps, no_step, op-judged, step-from)

abbrev TraceJudged : Form → List (List ℕ) → Result (ℕ × Step) Kind → Type 0
TraceJudged form fields (Ok told) = IsTraceLine form fields told.0 told.1
TraceJudged form fields (Err kind) = TraceCause form kind fields

behind-core : (form : Form) (first : List ℕ) (core : ℕ) (rest : List (List ℕ)) (r : Result Step Kind) →
    IsCoreNumber (most_cores_named form) first core → StepJudged form rest r →
    TraceJudged form (first ∷ rest) (r >>= (λ told. Ok (core, told)))
behind-core form first core rest (Ok told) c j = (c, j)
behind-core form first core rest (Err BadCore) c j = absurd j
behind-core form first core rest (Err kind) c j = ((core, c), j)

trace-judged : (form : Form) (fields : List (List ℕ)) → TraceJudged form fields (trace_at form fields)
unfolding trace_at core_at
trace-judged form fields =
    judged (TraceJudged form) BadCore (decimal_in 2 (most_cores_named form)) fields _
    (missing (HasCoreNumber (most_cores_named form)) (decimal_in 2 (most_cores_named form))
    (core-spelled (most_cores_named form)) fields)
    (λ first rest core e. behind-core form first core rest (step_at form rest)
    (number-takes 2 (most_cores_named form) first core e) (step-judged form rest))

abbrev pub LineJudged : Form → List (List ℕ) → Result (Option (ℕ × Step)) Kind → Type 0
LineJudged form fields r =
    IfOk r (λ told. MatchOption told (fields ≡ []) (λ read. IsTraceLine form fields read.0 read.1))
    × IfErr r (λ kind. TraceCause form kind fields)

line-from : (form : Form) (fields : List (List ℕ)) (r : Result (ℕ × Step) Kind) → TraceJudged form fields r →
    LineJudged form fields (r >>= (λ told. Ok (Some told)))
line-from form fields (Ok told) j = (j, tt)
line-from form fields (Err kind) j = (tt, j)

line-judged : (form : Form) (fields : List (List ℕ)) → LineJudged form fields (trace_line_at form fields)
unfolding trace_line_at
line-judged form [] = (refl, tt)
line-judged form (first ∷ fields) = grind (arith, nat_tests, common_steps, line-from, trace-judged)

pub trace-told : (form : Form) (fields : List (List ℕ)) (r : Result (Option (ℕ × Step)) Kind) →
    r ≡ trace_line_at form fields → LineJudged form fields r
trace-told form fields r e = subst (LineJudged form fields) (sym e) (line-judged form fields)

-- ---- what stands is read

op-again : (fields : List (List ℕ)) (op : Op) → IsOp fields op → op_at fields ≡ Ok op
unfolding op_at operation_at address_at number_field_at ended
op-again (letter ∷ address ∷ []) (Load word) h =
    read_as BadOperation access_in letter _ access.Read _ _ (access-again letter access.Read h.0)
    (read_as BadAddress address_in address _ word _ _ (address-again address word h.1) refl)
op-again (letter ∷ address ∷ written ∷ []) (Store word value) h =
    read_as BadOperation access_in letter _ access.Write _ _ (access-again letter access.Write h.0)
    (read_as BadAddress address_in address _ word _ _ (address-again address word h.1)
    (read_as BadValue (decimal_in 20 (2 ^ 64)) written _ value _ _ (number-again 20 (2 ^ 64) written value h.2) refl))
op-again (letter ∷ address ∷ written ∷ []) (Swap word value) h =
    read_as BadOperation access_in letter _ access.Swap _ _ (access-again letter access.Swap h.0)
    (read_as BadAddress address_in address _ word _ _ (address-again address word h.1)
    (read_as BadValue (decimal_in 20 (2 ^ 64)) written _ value _ _ (number-again 20 (2 ^ 64) written value h.2) refl))
op-again fields op h = absurd h

no_advance : (form : Form) (fields : List (List ℕ)) (op : Op) → IsOp fields op → behind_advance form fields ≡ None
no_advance One fields op h = refl
no_advance Two (letter ∷ address ∷ []) (Load word) h = rw h.0 refl
no_advance Two (letter ∷ address ∷ written ∷ []) (Store word value) h = rw h.0 refl
no_advance Two (letter ∷ address ∷ written ∷ []) (Swap word value) h = rw h.0 refl
no_advance Two fields op h = absurd h

op-step : (fields : List (List ℕ)) (o : Option (List (List ℕ))) (op : Op) → o ≡ None → op_at fields ≡ Ok op →
    step_or fields o ≡ Ok (step.Op op)
op-step fields None op n e = rw e refl
op-step fields (Some rest) op n e = absurd cc

step-again : (form : Form) (fields : List (List ℕ)) (told : Step) → IsStep form fields told →
    step_at form fields ≡ Ok told
unfolding step_at ended
step-again form fields (step.Op op) h = grind (arith, nat_tests, common_steps, no_advance, op-again, op-step)
step-again One fields step.Advance h = absurd h
step-again Two fields step.Advance h = rw h refl

trace-again : (form : Form) (fields : List (List ℕ)) (core : ℕ) (told : Step) → IsTraceLine form fields core told →
    trace_at form fields ≡ Ok (core, told)
unfolding trace_at core_at
trace-again form [] core told h = absurd h
trace-again form (first ∷ fields) core told h =
    read_as BadCore (decimal_in 2 (most_cores_named form)) first _ core _ _
    (number-again 2 (most_cores_named form) first core h.0) (rw (step-again form fields told h.1) refl)

pub trace-only : (form : Form) (fields : List (List ℕ)) (core : ℕ) (told : Step) → IsTraceLine form fields core told →
    trace_line_at form fields ≡ Ok (Some (core, told))
unfolding trace_line_at
trace-only form [] core told h = absurd h
trace-only form (first ∷ fields) core told h = rw (trace-again form (first ∷ fields) core told h) refl

pub trace-nothing : (form : Form) (fields : List (List ℕ)) → fields ≡ [] → trace_line_at form fields ≡ Ok None
unfolding trace_line_at
trace-nothing form fields e = rw e refl

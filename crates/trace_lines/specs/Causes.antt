-- What is in a line that is refused, for each kind of fault.
use Rattle.std.specs.Prelude.{◌≡◌, ℕ, zero, suc, ◌^◌, List, [], ◌∷◌, ◌++◌, codes, Option, ◌⊎◌}
use Rattle.physiological_order.specs.declared.operation.Op.{Op}
use Rattle.trace_lines.specs.declared.errors.Kind.{Kind}
use Rattle.trace_lines.specs.declared.errors.Kind.TheVariants.{BadCore, BadOperation, BadAddress, BadValue}
use Rattle.trace_lines.specs.declared.errors.Kind.TheVariants.{ExtraWords, BadForm}
use Rattle.trace_lines.specs.declared.steps.Form.{Form}
use Rattle.trace_lines.specs.declared.steps.Form.TheVariants.{One, Two}
use Rattle.programs.specs.declared.steps.Step.{Step}
use Rattle.trace_lines.specs.Grammar.{IsNumber, IsCoreNumber, IsValue, IsAddress, IsStep, IsCompletion}
use Rattle.trace_lines.specs.Grammar.{IsOpeningLine}
use Rattle.trace_lines.specs.Spelling.{most_cores_named}

-- the next field is missing, or is not of this kind
abbrev pub Missing : (List ℕ → Type 0) → List (List ℕ) → Type 0
Missing P [] = Unit {0}
Missing P (field ∷ fields) = P field → ⊥

-- there is a field of this kind, and this holds of the fields after it
abbrev pub Behind : (List ℕ → Type 0) → (List (List ℕ) → Type 0) → List (List ℕ) → Type 0
Behind P Q [] = ⊥
Behind P Q (field ∷ fields) = P field × Q fields

-- fields follow some that are whole
abbrev pub FollowsWhole : (List (List ℕ) → Type 0) → List (List ℕ) → Type 0
FollowsWhole Whole fields = (front : List (List ℕ)) × (field : List ℕ) × (back : List (List ℕ))
    × (fields ≡ front ++ field ∷ back) × Whole front

abbrev pub HasCoreNumber : ℕ → List ℕ → Type 0
HasCoreNumber cores field = (core : ℕ) × IsCoreNumber cores field core

abbrev pub HasPlaceNumber : List ℕ → Type 0
HasPlaceNumber field = (place : ℕ) × IsNumber 20 (2 ^ 32) field place

abbrev pub HasValue : List ℕ → Type 0
HasValue field = (value : ℕ) × IsValue field value

abbrev pub HasAddress : List ℕ → Type 0
HasAddress field = (word : ℕ) × IsAddress field word

-- W, S
abbrev pub IsWriting : List ℕ → Type 0
IsWriting field = (field ≡ codes "W") ⊎ (field ≡ codes "S")

-- R, W, S
abbrev pub IsAccess : List ℕ → Type 0
IsAccess field = (field ≡ codes "R") ⊎ IsWriting field

-- R, W, S, and in form 2 also A
abbrev pub IsStepWord : Form → List ℕ → Type 0
IsStepWord One field = IsAccess field
IsStepWord Two field = (field ≡ codes "A") ⊎ IsAccess field

-- what is wrong after the core of a trace's line
abbrev pub StepCause : Form → Kind → List (List ℕ) → Type 0
StepCause form BadOperation fields = Missing (IsStepWord form) fields
StepCause form BadAddress fields = Behind IsAccess (Missing HasAddress) fields
StepCause form BadValue fields = Behind IsWriting (Behind HasAddress (Missing HasValue)) fields
StepCause form ExtraWords fields = FollowsWhole (λ front. (told : Step) × IsStep form front told) fields
StepCause form kind fields = ⊥

-- what is wrong with a trace's line
abbrev pub TraceCause : Form → Kind → List (List ℕ) → Type 0
TraceCause form BadCore fields = Missing (HasCoreNumber (most_cores_named form)) fields
TraceCause form kind fields = Behind (HasCoreNumber (most_cores_named form)) (StepCause form kind) fields

-- fewer than n values are there: the first of them that is missing, or is none, follows the others
unfoldable pub FewValues : ℕ → List (List ℕ) → Type 0
FewValues zero fields = ⊥
FewValues (suc count) fields = Missing HasValue fields ⊎ Behind HasValue (FewValues count) fields

-- R, W
abbrev pub IsSingle : List ℕ → Type 0
IsSingle field = (field ≡ codes "R") ⊎ (field ≡ codes "W")

-- what is wrong after the core and the place of a record's line
abbrev pub CompletionCause : Kind → List (List ℕ) → Type 0
CompletionCause BadOperation fields = Missing IsAccess fields
CompletionCause BadAddress fields = Behind IsAccess (Missing HasAddress) fields
CompletionCause BadValue fields = Behind IsSingle (Behind HasAddress (FewValues 3)) fields
    ⊎ Behind (λ field. field ≡ codes "S") (Behind HasAddress (FewValues 4)) fields
CompletionCause ExtraWords fields = FollowsWhole (λ front. (op : Op) × (received : Option ℕ) × (ts : ℕ) × (number : ℕ)
    × IsCompletion front op received ts number) fields
CompletionCause kind fields = ⊥

-- what is wrong with a record's line
abbrev pub RecordCause : Kind → List (List ℕ) → Type 0
RecordCause BadCore fields = Missing (HasCoreNumber 64) fields
RecordCause BadValue fields = Behind (HasCoreNumber 64) (Missing HasPlaceNumber) fields
    ⊎ Behind (HasCoreNumber 64) (Behind HasPlaceNumber (CompletionCause BadValue)) fields
RecordCause kind fields = Behind (HasCoreNumber 64) (Behind HasPlaceNumber (CompletionCause kind)) fields

-- what is wrong with an opening's line
abbrev pub OpeningCause : Kind → List (List ℕ) → Type 0
OpeningCause BadAddress fields = Missing HasAddress fields
OpeningCause BadValue fields = Behind HasAddress (Missing HasValue) fields
OpeningCause ExtraWords fields = FollowsWhole (λ front. (told : ℕ × ℕ) × IsOpeningLine front told) fields
OpeningCause kind fields = ⊥

-- what is wrong with a form line, which begins with trace
abbrev pub FormCause : Kind → List (List ℕ) → Type 0
FormCause BadForm fields =
    Behind (λ first. first ≡ codes "trace") (Missing (λ second. second ≡ codes "2")) fields
FormCause ExtraWords fields = FollowsWhole (λ front. front ≡ codes "trace" ∷ codes "2" ∷ []) fields
FormCause kind fields = ⊥

-- What the next line tells, and what reading it and those behind it gives.
use Rattle.std.proofs.Common.{◌≡◌, ℕ, suc, ◌≤◌, true, List, [], ◌∷◌, ◌++◌, length, Option, Some, None, refl, ap, ◌∙◌}
use Rattle.std.proofs.Common.{◌+◌, Bool, false, cond, arith, sym}
use Rattle.std.proofs.lemmas.Bool.Decides.{nat_tests}
use Rattle.std.specs.Prelude.{Result, Ok, Err, ◌||◌, nat_lt}
use Rattle.trace_lines.specs.declared.errors.Kind.{Kind}
use Rattle.trace_lines.specs.declared.errors.Kind.TheVariants.{TooLong}
use Rattle.trace_lines.specs.declared.errors.TraceError.{TraceError}
use Rattle.trace_lines.specs.Fields.{fields_of}
use Rattle.trace_reader.specs.declared.limits.TheConstants.{MOST_BYTES, MOST_LINES}
use Rattle.trace_reader.specs.Reading.{Told, all_told, at_line, behind, fitted, list_of_option, numbered, read_from}
use Rattle.trace_reader.specs.Reading.{told_from, unless_fault}
use Rattle.trace_reader.proofs.OnLines.{fitted-short, fitted-long}

-- what is read on, or the fault of the line with this number
abbrev pub read_on_at : {X Y : Type 0} → ℕ → Result X Kind → (X → Result Y TraceError) → Result Y TraceError
read_on_at number (Ok x) f = f x
read_on_at number (Err kind) f = Err (record { line = number; kind = kind })

-- these in front of what is read on
abbrev pub read_behind : {X : Type 0} → List X → Result (List X) TraceError → Result (List X) TraceError
read_behind xs (Ok ys) = Ok (xs ++ ys)
read_behind xs (Err e) = Err e

unless-behind : {X : Type 0} (number : ℕ) (said : Option X) (told : List (ℕ × X)) (fault : Option TraceError) →
    unless_fault (numbered number said ++ told) fault ≡ read_behind (list_of_option said) (unless_fault told fault)
unless-behind number None told None = refl
unless-behind number (Some x) told None = refl
unless-behind number said told (Some e) = refl

all-at : {X Y : Type 0} (number : ℕ) (r : Result X Kind) (f : X → Told Y) (g : X → Result (List Y) TraceError) →
    ((x : X) → all_told (f x) ≡ g x) → all_told (at_line number r f) ≡ read_on_at number r g
all-at number (Ok x) f g same = same x
all-at number (Err kind) f g same = refl

module _ {S X : Type 0} (says : S → List (List ℕ) → Result (S × Option X) Kind) where
  module _ (most number : ℕ) (state : S) (line : List ℕ) (later : List (List ℕ)) where
    abbrev goes_on : S × Option X → Told X
    goes_on said = behind (numbered number said.1) (told_from most says (suc number) said.0 later)

    pub told-next : (next : S) (said : Option X) → length line ≤ MOST_BYTES → number ≤ most →
        says state (fields_of line) ≡ Ok (next, said) → told_from most says number state (line ∷ later)
        ≡ behind (numbered number said) (told_from most says (suc number) next later)
    unfolding told_from
    told-next next said h k e =
        ap (λ (r : Result (S × Option X) Kind). at_line number r goes_on)
        (fitted-short most number line (says state (fields_of line)) h k ∙ e)

    pub told-refused : (kind : Kind) → length line ≤ MOST_BYTES → number ≤ most →
        says state (fields_of line) ≡ Err kind →
        told_from most says number state (line ∷ later) ≡ ([], Some (record { line = number; kind = kind }))
    unfolding told_from
    told-refused kind h k e =
        ap (λ (r : Result (S × Option X) Kind). at_line number r goes_on)
        (fitted-short most number line (says state (fields_of line)) h k ∙ e)

    pub told-long : (nat_lt MOST_BYTES (length line) || nat_lt most number) ≡ true →
        told_from most says number state (line ∷ later) ≡ ([], Some (record { line = number; kind = TooLong }))
    unfolding told_from
    told-long e =
        ap (λ (r : Result (S × Option X) Kind). at_line number r goes_on)
        (fitted-long most number line (says state (fields_of line)) e)

  pub told-end : (most number : ℕ) (state : S) → told_from most says number state [] ≡ ([], None)
  unfolding told_from
  told-end most number state = refl

  -- reading is what is told, without numbers
  pub read-all : (number : ℕ) (state : S) (lines : List (List ℕ)) → read_from says number state lines
      ≡ all_told (told_from MOST_LINES says number state lines)
  unfolding read_from
  read-all number state lines = refl

  pub read-next : (number : ℕ) (state : S) (line : List ℕ) (lines : List (List ℕ)) →
      read_from says number state (line ∷ lines)
      ≡ read_on_at number (fitted MOST_LINES number line (says state (fields_of line)))
      (λ said. read_behind (list_of_option said.1) (read_from says (suc number) said.0 lines))
  unfolding read_from told_from
  read-next number state line lines =
      all-at number (fitted MOST_LINES number line (says state (fields_of line)))
      (goes_on MOST_LINES number state line lines)
      (λ said. read_behind (list_of_option said.1) (all_told (told_from MOST_LINES says (suc number) said.0 lines)))
      (λ said. unless-behind number said.1 (told_from MOST_LINES says (suc number) said.0 lines).0
      (told_from MOST_LINES says (suc number) said.0 lines).1)

-- ---- the most lines that there may be

at-same : {X Y : Type 0} (number : ℕ) (r : Result X Kind) (f g : X → Told Y) → ((x : X) → f x ≡ g x) →
    at_line number r f ≡ at_line number r g
at-same number (Ok x) f g same = same x
at-same number (Err kind) f g same = refl

-- lines that are few enough tell the same, whatever that number is
pub told-same : {S X : Type 0} (says : S → List (List ℕ) → Result (S × Option X) Kind) (one other number : ℕ)
    (state : S) (lines : List (List ℕ)) → number + length lines ≤ suc one → number + length lines ≤ suc other →
    told_from one says number state lines ≡ told_from other says number state lines
unfolding told_from
told-same says one other number state [] h k = refl
told-same {S} {X} says one other number state (line ∷ lines) h k =
    let early : nat_lt one number ≡ false = grind (arith, nat_tests, h) in
    let soon : nat_lt other number ≡ false = grind (arith, nat_tests, k) in
    ap (λ (late : Bool). at_line number (cond (nat_lt MOST_BYTES (length line) || late) (Err TooLong)
    (says state (fields_of line))) (goes_on says one number state line lines)) (early ∙ sym soon)
    ∙ at-same number (fitted other number line (says state (fields_of line)))
    (goes_on says one number state line lines) (goes_on says other number state line lines)
    (λ said. ap (behind (numbered number said.1))
    (told-same says one other (suc number) said.0 lines (omega (arith, h)) (omega (arith, k))))

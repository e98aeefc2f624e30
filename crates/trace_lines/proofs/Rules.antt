-- What is read of the next field: rules for what holds of every reading, and for what is read.
use Rattle.std.proofs.Common.{◌≡◌, ℕ, List, [], ◌∷◌, Option, Some, None, refl, ◌==◌, arith}
use Rattle.std.proofs.lemmas.Bool.Decides.{nat_tests}
use Rattle.std.proofs.lemmas.Grind.{common_steps}
use Rattle.std.specs.Prelude.{Result, Ok, Err, option_map}
use Rattle.std.specs.List.{prefix_len}
use Rattle.std.proofs.lemmas.Bool.{cases_Bool}
use Rattle.trace_lines.specs.declared.errors.Kind.{Kind}
use Rattle.trace_lines.specs.declared.steps.Access.{Access}
use Rattle.trace_lines.specs.Causes.{Missing}
use Rattle.trace_lines.specs.Fields.{is_within, front_field}
use Rattle.trace_lines.specs.Fronts.{front_says, letter_in}
use Rattle.trace_lines.specs.Reading.{field_at, access_in}
use Rattle.text_lines.specs.Reading.{◌>>=◌, found}

-- the next field is missing, or says nothing
abbrev pub Blank : {X : Type 0} → (List ℕ → Option X) → List (List ℕ) → Type 0
Blank says [] = Unit {0}
Blank says (field ∷ fields) = says field ≡ None

found-judged : {X Y : Type 0} (P : Result Y Kind → Type 0) (kind : Kind) (o : Option X) (fields : List (List ℕ))
    (f : X × List (List ℕ) → Result Y Kind) → (o ≡ None → P (Err kind)) → ((x : X) → o ≡ Some x → P (f (x, fields)))
    → P (found kind o (λ x. Ok (x, fields)) >>= f)
found-judged P kind (Some x) fields f bad good = good x refl
found-judged P kind None fields f bad good = bad refl

-- what holds where the field is blank, and where it says something, holds of the reading
pub judged : {X Y : Type 0} (P : List (List ℕ) → Result Y Kind → Type 0) (kind : Kind) (says : List ℕ → Option X)
    (fields : List (List ℕ)) (f : X × List (List ℕ) → Result Y Kind)
    → (Blank says fields → P fields (Err kind))
    → ((field : List ℕ) (rest : List (List ℕ)) (x : X) → says field ≡ Some x → P (field ∷ rest) (f (x, rest)))
    → P fields (field_at kind says fields >>= f)
unfolding field_at
judged P kind says [] f bad good = bad tt
judged P kind says (field ∷ fields) f bad good = grind (arith, nat_tests, common_steps, found-judged)

-- where each field of a kind says something, a blank field is missing
pub missing : {X : Type 0} (P : List ℕ → Type 0) (says : List ℕ → Option X)
    → ((field : List ℕ) → P field → (x : X) × (says field ≡ Some x))
    → (fields : List (List ℕ)) → Blank says fields → Missing P fields
missing P says spelled [] h = tt
missing P says spelled (field ∷ fields) h = grind (arith, nat_tests)

-- a field that says x is read as x
pub read_as : {X Y : Type 0} (kind : Kind) (says : List ℕ → Option X) (field : List ℕ) (fields : List (List ℕ))
    (x : X) (f : X × List (List ℕ) → Result Y Kind) (y : Result Y Kind) → says field ≡ Some x → f (x, fields) ≡ y →
    (field_at kind says (field ∷ fields) >>= f) ≡ y
unfolding field_at
read_as kind says field fields x f y e g = rw e g

-- what the field in front says is read
pub front-read : {X : Type 0} (kind : Kind) (says : List ℕ → Option X) → says [] ≡ None → (bytes : List ℕ)
    (o : Option (X × List (List ℕ))) (fields : List (List ℕ)) → fields ≡ front_field bytes → o ≡ front_says says bytes
    → field_at kind says fields ≡ found kind o (λ x. Ok x)
unfolding field_at front_field
front-read kind says silent bytes o fields f e =
    let q0 = cases_Bool (prefix_len is_within bytes == 0) in grind (arith, nat_tests, q0)

-- with the fields after it
abbrev pub beside : {X : Type 0} → List (List ℕ) → Option X → Option (X × List (List ℕ))
beside fields o = option_map (λ x. (x, fields)) o

pub letter-read : (bytes : List ℕ) (b : ℕ) (rest : List (List ℕ)) (o : Option Access) →
    Some (b, rest) ≡ front_says letter_in bytes → o ≡ access_in (b ∷ []) → beside rest o ≡ front_says access_in bytes
letter-read bytes b rest o e f = grind (arith, nat_tests)

pub letter-none : (bytes : List ℕ) → None ≡ front_says letter_in bytes → None ≡ front_says access_in bytes
letter-none bytes e = grind (arith, nat_tests)

-- What follows from what reading gives, from the result back to its parts.
use Rattle.std.proofs.Common.{◌≡◌, ℕ, suc, ◌≤◌, ◌<◌, Bool, true, false, cond, List, ◌++◌, length}
use Rattle.std.proofs.Common.{refl, ap, arith, inl, inr, ◌⊎◌}
use Rattle.std.specs.Prelude.{Result, Ok, Err, ◌||◌, nat_lt}
use Rattle.std.proofs.lemmas.Bool.{cases_lt}
use Rattle.std.proofs.lemmas.Bool.Decides.{nat_tests}
use Rattle.trace_lines.specs.declared.errors.Kind.{Kind}
use Rattle.trace_lines.specs.declared.errors.Kind.TheVariants.{TooLong}
use Rattle.trace_lines.specs.declared.errors.TraceError.{TraceError}
use Rattle.text_lines.specs.Reading.{◌>>=◌}
use Rattle.trace_reader.specs.declared.limits.TheConstants.{MOST_BYTES, MOST_LINES}
use Rattle.trace_reader.specs.Causes.{IsTooLong}
use Rattle.trace_reader.specs.Reading.{fitted}
use Rattle.trace_reader.proofs.ToldLines.{read_behind, read_on_at}

pub bind-ok : {A B : Type 0} (r : Result A Kind) (f : A → Result B Kind) (y : B) → (r >>= f) ≡ Ok y →
    (x : A) × (r ≡ Ok x) × (f x ≡ Ok y)
bind-ok (Ok x) f y e = (x, refl, e)
bind-ok (Err k) f y e = absurd cc

pub bind-err : {A B : Type 0} (r : Result A Kind) (f : A → Result B Kind) (kind : Kind) → (r >>= f) ≡ Err kind →
    (r ≡ Err kind) ⊎ ((x : A) × (r ≡ Ok x) × (f x ≡ Err kind))
bind-err (Ok x) f kind e = inr (x, refl, e)
bind-err (Err k) f kind e = let same : k ≡ kind = cc in inl (ap Err same)

pub ok-pair : {A B : Type 0} (x y : A × B) → ◌≡◌ {A = Result (A × B) Kind} (Ok x) (Ok y) → (x.0 ≡ y.0) × (x.1 ≡ y.1)
ok-pair {A = A} {B = B} x y e =
    let same : x ≡ y = cc in (ap (λ (w : A × B). w.0) same, ap (λ (w : A × B). w.1) same)

pub behind-ok : {X : Type 0} (xs : List X) (r : Result (List X) TraceError) (told : List X) → read_behind xs r ≡ Ok
    told →
    (ys : List X) × (r ≡ Ok ys) × (xs ++ ys ≡ told)
behind-ok xs (Ok ys) told e = (ys, refl, cc)
behind-ok xs (Err k) told e = absurd cc

pub behind-err : {X : Type 0} (xs : List X) (r : Result (List X) TraceError) (fault : TraceError) →
    read_behind xs r ≡ Err fault → r ≡ Err fault
behind-err xs (Ok ys) fault e = absurd cc
behind-err xs (Err k) fault e = e

line-ok : {X Y : Type 0} (number : ℕ) (b : Bool) (r : Result X Kind) (f : X → Result Y TraceError) (y : Y) →
    read_on_at number (cond b (Err TooLong) r) f ≡ Ok y → (b ≡ false) × ((x : X) × (r ≡ Ok x) × (f x ≡ Ok y))
line-ok number true r f y e = absurd cc
line-ok number false (Ok x) f y e = (refl, (x, refl, e))
line-ok number false (Err k) f y e = absurd cc

-- a line that was read is short and stands early
pub fitted-ok : {X Y : Type 0} (number : ℕ) (line : List ℕ) (r : Result X Kind) (f : X → Result Y TraceError) (y : Y) →
    read_on_at number (fitted MOST_LINES number line r) f ≡ Ok y →
    ((length line ≤ MOST_BYTES) × (number ≤ MOST_LINES)) × ((x : X) × (r ≡ Ok x) × (f x ≡ Ok y))
fitted-ok number line r f y e =
    let o = line-ok number (nat_lt MOST_BYTES (length line) || nat_lt MOST_LINES number) r f y e in
    let no : (nat_lt MOST_BYTES (length line) || nat_lt MOST_LINES number) ≡ false = o.0 in
    ((grind (arith, nat_tests, no), grind (arith, nat_tests, no)), o.1)

abbrev pub LineFault : {X Y : Type 0} → ℕ → Bool → Result X Kind → (X → Result Y TraceError) → TraceError → Type 0
LineFault {X = X} number b r f fault = ((b ≡ true) × (fault ≡ record { line = number; kind = TooLong }))
    ⊎ ((b ≡ false) × (r ≡ Err fault.kind) × (fault.line ≡ number))
    ⊎ ((b ≡ false) × ((x : X) × (r ≡ Ok x) × (f x ≡ Err fault)))

line-err : {X Y : Type 0} (number : ℕ) (b : Bool) (r : Result X Kind) (f : X →
    Result Y TraceError) (fault : TraceError) →
    read_on_at number (cond b (Err TooLong) r) f ≡ Err fault → LineFault number b r f fault
line-err number true r f fault e = inl (refl, cc)
line-err number false (Ok x) f fault e = inr (inr (refl, (x, refl, e)))
line-err number false (Err k) f fault e = inr (inl (refl, cc, cc))

too-long : (number : ℕ) (line : List ℕ) → number ≤ suc MOST_LINES →
    (nat_lt MOST_BYTES (length line) || nat_lt MOST_LINES number) ≡ true → IsTooLong number line
too-long number line few e =
    elim (cases_lt MOST_BYTES (length line)) [
      | inl long ↦ inl long
      | inr short ↦ let late : MOST_LINES < number = grind (arith, nat_tests, e, short) in inr (omega (
        arith,
        few,
        late,
      ))
    ]

-- a line is too long or too late; or it is refused for what it says; or a later one is
pub fitted-err : {X Y : Type 0} (number : ℕ) (line : List ℕ) (r : Result X Kind) (f : X → Result Y TraceError)
    (fault : TraceError) → number ≤ suc MOST_LINES → read_on_at number (fitted MOST_LINES number line r) f ≡ Err fault →
    ((fault.line ≡ number) × (fault.kind ≡ TooLong) × IsTooLong number line)
    ⊎ ((fault.line ≡ number) × (r ≡ Err fault.kind))
    ⊎ ((number ≤ MOST_LINES) × ((x : X) × (r ≡ Ok x) × (f x ≡ Err fault)))
fitted-err number line r f fault few e =
    elim (line-err number (nat_lt MOST_BYTES (length line) || nat_lt MOST_LINES number) r f fault e) [
      | inl t ↦ inl (
        ap (λ (w : TraceError). w.line) t.1,
        ap (λ (w : TraceError). w.kind) t.1,
        too-long number line
            few t.0,
      )
      | inr (inl t) ↦ inr (inl (t.2, t.1))
      | inr (inr t) ↦ inr (inr (grind (arith, nat_tests, t.0), t.1))
    ]

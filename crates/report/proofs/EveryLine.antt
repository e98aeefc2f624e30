-- The ends that are left of a list, and one less.
use Rattle.std.proofs.Common.{◌≡◌, ℕ, ◌+◌, ◌≤◌, ◌++◌, Bool, true, false, cond, List, ◌∷◌, drop}
use Rattle.std.proofs.Common.{Some, None, refl, ap, ◌∙◌, append_assoc, arith}
use mir.Val.{bool_byte}
use Rattle.std.specs.Prelude.{slice_get}
use Rattle.litmus_reader.specs.Litmus.{Litmus}
use Rattle.report_lines.proofs.Lemmas.{drop_next, none_left}
use Rattle.report.specs.EveryText.{held_of, is_held}

byte_is : (b : Bool) → bool_byte b ≡ cond b 1 0
byte_is true = refl
byte_is false = refl

pub held_next : (test : Litmus) (ends : List (List ℕ)) (k : ℕ) (values : List ℕ) (held more all : ℕ) →
    slice_get ends k ≡ Some values → held + held_of test (drop k ends) ≡ all →
    more ≡ held + bool_byte (is_held test values) → more + held_of test (drop (k + 1) ends) ≡ all
held_next test ends k values held more all at before is =
    let split : held_of test (drop k ends) ≡ cond (is_held test values) 1 0 + held_of test (drop (k + 1) ends) =
    ap (held_of test) (drop_next ends k values at) in
    let byte = byte_is (is_held test values) in
    omega (arith, before, is, split, byte)

pub few_next : (b : Bool) (held more k : ℕ) → held ≤ k → more ≡ held + bool_byte b → more ≤ k + 1
few_next true held more k few is = omega (arith, few, is)
few_next false held more k few is = omega (arith, few, is)

-- behind the last end
pub held_done : (test : Litmus) (ends : List (List ℕ)) (k held all : ℕ) → slice_get ends k ≡ None →
    held + held_of test (drop k ends) ≡ all → held ≡ all
held_done test ends k held all none done =
    let last : held_of test (drop k ends) ≡ 0 = ap (held_of test) (none_left ends k none) in omega (arith, done, last)

-- what was appended first, and what was appended behind it
pub behind : (front a b : List ℕ) {first second : List ℕ} → first ≡ front ++ a → second ≡ first ++ b →
    second ≡ front ++ (a ++ b)
behind front a b one two = two ∙ ap (λ (l : List ℕ). l ++ b) one ∙ append_assoc front a b

pub word_behind : (front a word : List ℕ) {told first second : List ℕ} → first ≡ front ++ a →
    second ≡ first ++ (32 ∷ told) → told ≡ word → second ≡ front ++ (a ++ (32 ∷ word))
word_behind front a word {told} {first} one two same =
    behind front a (32 ∷ word) one (two ∙ ap (λ (w : List ℕ). first ++ (32 ∷ w)) same)

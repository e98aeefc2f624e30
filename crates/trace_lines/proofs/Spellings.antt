-- What fields say, both ways.
use Rattle.std.proofs.Common.{◌≡◌, ℕ, ◌*◌, ◌/◌, ◌%◌, Bool, true, false, cond, eqb, ◌&&◌, List, []}
use Rattle.std.proofs.Common.{◌∷◌, Option, Some, None, refl, ◌∙◌, arith, codes}
use Rattle.std.proofs.lemmas.Grind.{common_steps}
use Rattle.std.specs.Prelude.{option_and_then}
use Rattle.std.proofs.lemmas.Bool.{and_parts, eqb-true}
use Rattle.std.proofs.lemmas.Bool.Decides.{nat_tests}
use Rattle.trace_lines.specs.declared.steps.Access.{Access}
use Rattle.trace_lines.specs.declared.steps.Access.TheVariants as access
use Rattle.trace_lines.specs.Spelling.{is_hex_digit, is_few, hex_of}
use Rattle.trace_lines.specs.Reading.{decimal_in, hex_in, word_at_byte, address_in, access_in}
use Rattle.trace_lines.specs.Grammar.{IsNumber, IsAddress}

if_some : {A : Type 0} (b : Bool) (y x : A) → cond b (Some y) None ≡ Some x → (b ≡ true) × (y ≡ x)
if_some true y x e = (refl, cc)
if_some false y x e = absurd cc

-- ---- numbers

pub number-takes : (digits bound : ℕ) (field : List ℕ) (n : ℕ) → decimal_in digits bound field ≡ Some n →
    IsNumber digits bound field n
number-takes digits bound field n e = grind (arith, nat_tests, common_steps, and_parts, if_some)

pub number-again : (digits bound : ℕ) (field : List ℕ) (n : ℕ) → IsNumber digits bound field n →
    decimal_in digits bound field ≡ Some n
number-again digits bound field n h = grind (arith, nat_tests)

-- ---- addresses

and_then_some : {A B : Type 0} (f : A → Option B) (o : Option A) (y : B) → option_and_then f o ≡ Some y → (x : A) ×
    (o ≡ Some x) × (f x ≡ Some y)
and_then_some f (Some x) y e = (x, refl, e)
and_then_some f None y e = absurd cc

if_or_none : {A : Type 0} (b : Bool) (o : Option A) (x : A) → cond b o None ≡ Some x → (b ≡ true) × (o ≡ Some x)
if_or_none true o x e = (refl, e)
if_or_none false o x e = absurd cc

pub address-takes : (field : List ℕ) (word : ℕ) → address_in field ≡ Some word → IsAddress field word
address-takes (a ∷ b ∷ digits) word e =
    let t = if_or_none (eqb a 48 && eqb b 120) (option_and_then word_at_byte (hex_in digits)) word e in
    let p = and_parts (eqb a 48) (eqb b 120) t.0 in
    let u = and_then_some word_at_byte (hex_in digits) word t.1 in
    let v = if_some (is_few is_hex_digit 16 digits) (hex_of digits) u.0 u.1 in
    let w = if_some (eqb (u.0 % 8) 0) (u.0 / 8) word u.2 in
    let whole : u.0 % 8 ≡ 0 = eqb-true (u.0 % 8) 0 w.0 in
    let byte : u.0 ≡ 8 * word = omega (arith, w.1) in (
      digits,
      rw (eqb-true a 48 p.0, eqb-true b 120 p.1) refl,
      v.0,
      v.1 ∙ byte,
    )
address-takes _ word e = absurd cc

word-again : (byte word : ℕ) → byte ≡ 8 * word → word_at_byte byte ≡ Some word
word-again byte word e = grind (arith, nat_tests)

pub address-again : (field : List ℕ) (word : ℕ) → IsAddress field word → address_in field ≡ Some word
address-again field word h = let q0 = word-again (hex_of h.0) word h.3 in grind (arith, nat_tests, q0)

-- ---- operations

-- which field stands for an access
abbrev pub letter_of : Access → List ℕ
letter_of access.Read = codes "R"
letter_of access.Write = codes "W"
letter_of access.Swap = codes "S"

letter-cases : (r w s : Bool) (a : ℕ) (x : Access) → (r ≡ true → a ≡ 82) → (w ≡ true → a ≡ 87) → (s ≡ true → a ≡ 83)
    → cond r (Some access.Read) (cond w (Some access.Write) (cond s (Some access.Swap) None)) ≡ Some x
    → (a ∷ []) ≡ letter_of x
letter-cases true w s a access.Read f g h e = rw (f refl) refl
letter-cases true w s a access.Write f g h e = absurd cc
letter-cases true w s a access.Swap f g h e = absurd cc
letter-cases false true s a access.Read f g h e = absurd cc
letter-cases false true s a access.Write f g h e = rw (g refl) refl
letter-cases false true s a access.Swap f g h e = absurd cc
letter-cases false false true a access.Read f g h e = absurd cc
letter-cases false false true a access.Write f g h e = absurd cc
letter-cases false false true a access.Swap f g h e = rw (h refl) refl
letter-cases false false false a x f g h e = absurd cc

pub access-takes : (field : List ℕ) (x : Access) → access_in field ≡ Some x → field ≡ letter_of x
access-takes (a ∷ []) x e =
    letter-cases (eqb a 82) (eqb a 87) (eqb a 83) a x (eqb-true a 82) (eqb-true a 87) (eqb-true a 83) e
access-takes _ x e = absurd cc

pub access-again : (field : List ℕ) (x : Access) → field ≡ letter_of x → access_in field ≡ Some x
access-again field access.Read e = rw e refl
access-again field access.Write e = rw e refl
access-again field access.Swap e = rw e refl

-- What is left of a number over a power of two, which has one bit.
use Rattle.std.proofs.Common.{◌≡◌, ℕ, zero, suc, ◌-◌, ◌/◌, ◌%◌, ◌^◌, ◌<◌, ◌≤◌, inl, inr, sym, ap, ◌∙◌, subst}
use Rattle.std.proofs.Common.{arith, bit_and}
use Rattle.std.specs.Int.Bits.{and_self, and_step}
use Rattle.std.proofs.lemmas.Bool.{cases_eq}
use Rattle.std.proofs.lemmas.Nat.{and_mask}
use Rattle.std.proofs.Math.Nat.{mod-add-div, mod-lt, two-pow-succ}

one_bit : (most n : ℕ) → n ≤ most → 0 < n → bit_and n (n - 1) ≡ 0 → (k : ℕ) × (n ≡ 2 ^ k)
one_bit zero n le some none = absurd (omega (arith, le, some))
one_bit (suc most) n le some none =
    let two : 0 < 2 = omega arith in
    let whole = mod-add-div n 2 in let rest = mod-lt n two in
    let whole_below = mod-add-div (n - 1) 2 in let rest_below = mod-lt (n - 1) two in
    let step = and_step n (n - 1) in
    elim (cases_eq (n % 2) 0) [
      | inl even ↦
          let half : (n - 1) / 2 ≡ n / 2 - 1 = omega (arith, whole, rest, whole_below, rest_below, even, some) in
          let lower = ap (bit_and (n / 2)) half in
          let found = one_bit most (n / 2) (omega (arith, whole, even, le, some)) (omega (arith, whole, even, some))
          (omega (arith, step, lower, none)) in
          let twice = two-pow-succ found.0 in
          (suc found.0, omega (arith, whole, even, found.1, twice))
      | inr odd ↦
          let half : (n - 1) / 2 ≡ n / 2 = omega (arith, whole, rest, whole_below, rest_below, odd, some) in
          let same = ap (bit_and (n / 2)) half ∙ and_self (n / 2) in
          (0, omega (arith, whole, rest, odd, step, same, none))
    ]

pub over_power : (number by : ℕ) → 0 < by → bit_and by (by - 1) ≡ 0 → bit_and number (by - 1) ≡ number % by
over_power number by some none =
    let power = one_bit by by (omega arith) some none in
    subst (λ n. bit_and number (n - 1) ≡ number % n) (sym power.1) (and_mask number power.0)

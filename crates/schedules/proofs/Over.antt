-- What is so of all cores below a number is so of each of them.
use Rattle.std.proofs.Common.{◌≡◌, ℕ, zero, suc, ◌<◌, ◌&&◌, Bool, true, false, List, refl, sym, ap, ◌∙◌, arith, subst}
use Rattle.std.proofs.Common.{⊎_elim}
use Rattle.std.proofs.Math.Bool.{and-true}
use Rattle.std.proofs.lemmas.Bool.{cases_eq, and_left, and_right, and_parts}
use Rattle.machine_table.specs.Machine.{Machine}
use Rattle.programs.specs.Acts.{Acts}
use Rattle.schedules.specs.Runs.{is_over, are_over}

module _ {P : Type 0} (acts : Acts P) (m : Machine) (programs : List P) where
  pub not_over : (cores core : ℕ) → core < cores → is_over acts m programs core ≡ false →
      are_over acts m programs cores ≡ false
  not_over zero core below work = absurd (omega (arith, below))
  not_over (suc cores) core below work = ⊎_elim
      (λ (same : core ≡ cores). and_right (are_over acts m programs cores) (is_over acts m programs cores)
      (subst (λ (c : ℕ). is_over acts m
      programs c ≡ false) same work))
      (λ other. and_left (are_over acts m programs cores) (is_over acts m programs cores)
      (not_over cores core (omega (arith, below, other)) work))
      (cases_eq core cores)

  pub each_over : (cores core : ℕ) → core < cores → are_over acts m programs cores ≡ true →
      is_over acts m programs core ≡ true
  each_over zero core below over = absurd (omega (arith, below))
  each_over (suc cores) core below over =
      let parts = and_parts (are_over acts m programs cores) (is_over acts m programs cores) over in
      ⊎_elim
      (λ (same : core ≡ cores). rw same parts.1)
      (λ other. each_over cores core (omega (arith, below, other)) parts.0)
      (cases_eq core cores)

  -- where it isn't so of all, there is one of which it isn't
  pub one_not_over : (cores : ℕ) → are_over acts m programs cores ≡ false →
      (core : ℕ) × (core < cores) × (is_over acts m programs core ≡ false)
  one_not_over zero work = absurd (cc)
  one_not_over (suc cores) work = by_last (is_over acts m programs cores) refl (one_not_over cores)
    where
      by_last : (b : Bool) → is_over acts m programs cores ≡ b →
          (are_over acts m programs cores ≡ false →
          (core : ℕ) × (core < cores) × (is_over acts m programs core ≡ false)) →
          (core : ℕ) × (core < suc cores) × (is_over acts m programs core ≡ false)
      by_last false is before = (cores, omega arith, is)
      by_last true is before =
          let k = before (sym (and-true (are_over acts m programs cores))
          ∙ sym (ap (λ b. are_over acts m programs cores && b) is) ∙ work) in
          (k.0, omega (arith, k.1), k.2)

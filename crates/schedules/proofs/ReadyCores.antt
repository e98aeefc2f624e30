-- The cores that do something next, and those whose programs have a next step, as bits.
use Rattle.std.proofs.Common.{◌≡◌, ◌<◌, ◌≤◌, ◌^◌, ℕ, zero, suc, max, min, Bool, true, false, cond, List, [], ◌∷◌}
use Rattle.std.proofs.Common.{length, Option, Some, None, inl, inr, refl, sym, ap, ◌∙◌, arith}
use Rattle.std.specs.Prelude.{◌&&◌, is_none, is_some, not, option_map, slice_get}
use lib.Count.{count_trailing_zeros}
use Rattle.std.specs.Int.{trailing_zeros, w64}
use Rattle.std.proofs.lemmas.Bool.{and_right, cases_eq}
use Rattle.std.proofs.lemmas.Nat.Bits.{bit_at-trailing_zeros}
use Rattle.physiological_order.specs.declared.operation.Op.{Op}
use Rattle.programs.specs.declared.steps.Step.{Step}
use Rattle.programs.specs.declared.steps.Step.TheVariants as step
use Rattle.core_pts.specs.CoreTable.{CoreState}
use Rattle.machine_table.specs.Machine.{Machine, open_op, open_op_of}
use Rattle.interleaving_core.specs.CoreMasks.{is_idle_of, is_trying_of}
use Rattle.programs.specs.Acts.{Acts, next_in}
use Rattle.schedules.specs.SeedSchedule.{core_step}
use Rattle.schedules.specs.Runs.{are_over}
use Rattle.schedules.specs.Notes.{IsAsked}
use Rattle.schedules.proofs.Over.{not_over}

-- a core without an operation has its program's next step, and one whose request isn't out tries
pub ready_bit : (core : ℕ) (o : Option Op) (out : Bool) (next : Option Step) →
    max (cond (is_some o && not out) 1 0) (min (cond (not (is_some o)) 1 0) (cond (is_some next) 1 0)) ≡
    length (core_step core (option_map (λ op. (op, out)) o) next)
ready_bit core None out None = refl
ready_bit core None out (Some (step.Op op)) = refl
ready_bit core None out (Some step.Advance) = refl
ready_bit core (Some op) true next = omega arith
ready_bit core (Some op) false next = omega arith

pub ready_at : (core : ℕ) (cores : List CoreState) (at : ℕ) (next : Option Step) → at < length cores →
    max (cond (is_trying_of (slice_get cores at)) 1 0)
    (min (cond (is_idle_of (slice_get cores at)) 1 0) (cond (is_some next) 1 0)) ≡
    length (core_step core (open_op_of (slice_get cores at)) next)
ready_at core [] at next within = absurd (omega (arith, within))
ready_at core (x ∷ xs) zero next within = ready_bit core x.open_op x.is_out next
ready_at core (x ∷ xs) (suc at) next within = ready_at core xs at next (omega (arith, within))

-- past the last core no bit is set
pub none_at : (cores : List CoreState) (at next : ℕ) → length cores ≤ at →
    max (cond (is_trying_of (slice_get cores at)) 1 0) (min (cond (is_idle_of (slice_get cores at)) 1 0) next) ≡ 0
none_at [] at next past = omega arith
none_at (x ∷ xs) zero next past = absurd (omega (arith, past))
none_at (x ∷ xs) (suc at) next past = none_at xs at next (omega (arith, past))

-- a core without a program has no next step
pub none_past : {P : Type 0} (acts : Acts P) (programs : List P) (core : ℕ) → length programs ≤ core →
    is_some (next_in acts programs core) ≡ false
none_past acts [] core past = refl
none_past acts (p ∷ ps) zero past = absurd (omega (arith, past))
none_past acts (p ∷ ps) (suc core) past = none_past acts ps core (omega (arith, past))

-- no bit of 0 is set
no_one : trailing_zeros w64 0 ≡ 64
unfolding count_trailing_zeros
no_one = refl

-- while the lowest bit is that of a core, that core's program has a next step
pub one_unfinished : {P : Type 0} (acts : Acts P) (m : Machine) (programs : List P) (mask : ℕ) →
    IsAsked acts programs mask → (cores : ℕ) → mask < 2 ^ 64 → cores ≤ 64 → trailing_zeros w64 mask < cores →
    are_over acts m programs cores ≡ false
one_unfinished acts m programs mask asked cores fits few below = elim (cases_eq mask 0) [
  | inl none ↦
      let past : trailing_zeros w64 mask ≡ 64 = ap (trailing_zeros w64) none ∙ no_one in
      absurd (omega (arith, past, below, few))
  | inr some ↦
      let low = bit_at-trailing_zeros w64 mask (omega (arith, some)) fits in
      let core = trailing_zeros w64 mask in
      not_over acts m programs cores core below (and_right (is_none (open_op m core)) _
      (has_step (next_in acts programs core) (sym (asked core low.0) ∙ low.1)))
]
  where
    has_step : (next : Option Step) → ◌≡◌ {A = ℕ} (cond (is_some next) 1 0) 1 → is_none next ≡ false
    has_step None is = absurd (omega (arith, is))
    has_step (Some step) is = refl

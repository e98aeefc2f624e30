-- An attempt that completes closes the operation, and others leave it open.
use Rattle.std.proofs.Common.{◌≡◌, ℕ, Bool, option_map, Option, Some, None, arith}
use Rattle.std.proofs.lemmas.Bool.Decides.{nat_tests}
use Rattle.physiological_order.specs.declared.operation.Op.{Op}
use Rattle.core_pts.specs.declared.attempt.Attempt.{Attempt}
use Rattle.core_pts.specs.declared.attempt.Attempt.TheVariants.{Completed}
use Rattle.network.specs.declared.message.Body.{Body}
use Rattle.network.specs.Mail.{Mail}
use Rattle.core_pts.specs.CoreTable as core_table
use Rattle.core_pts.specs.CoreTable.{CoreState, attempt}
use Rattle.machine_table.specs.Step as step
use Rattle.machine_table.specs.Step.{Does}
use Rattle.interleaving_core.specs.PartChanges.{applied, applied_attempt}

-- either no completion, or the operation is closed
abbrev pub Closes : Option Attempt × CoreState → Type 0
Closes (Some (Completed received ts), after) = after.open_op ≡ None
Closes _ = Unit {0}

pub attempt_closes : (core : CoreState) → Closes (attempt core)
attempt_closes core = grind (arith, nat_tests)

-- what an option has that is seen with something beside it
pub seen_beside : (o : Option Op) (out : Bool) (op : Op) (beside : Bool) → option_map {U = Op × Bool}
    (λ op. (op, out)) o ≡ Some (op, beside) → o ≡ Some op
seen_beside None out op beside is = absurd (let z : ◌≡◌ {A = Option (Op × Bool)} None (Some (op, beside)) = is in cc)
seen_beside (Some x) out op beside is = grind (arith, nat_tests)

-- an attempt that needs a copy sends a request
pub attempt_requests : (c number capacity : ℕ) (mail : Mail) (core after : CoreState) (op : Op) (needs : Attempt)
    (body : Body) → after ≡ core → core.open_op ≡ Some op → core_table.attempt core ≡ (Some needs, after) →
    step.attempted core op (Some needs, after) ≡ Does (step.asks core op body) →
    applied capacity after mail None (step.asks after op body) ≡
    applied_attempt c number capacity mail core (step.attempt_open core core.open_op)
attempt_requests c number capacity mail core after op needs body kept opens is asks = grind (arith, nat_tests)

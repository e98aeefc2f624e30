-- Lists of operations of which the first are done.
use Rattle.std.proofs.Common.{◌≡◌, ℕ, zero, suc, ◌+◌, ◌<◌, List, [], ◌∷◌, length, drop, map, Option, None, arith}
use Rattle.std.proofs.Common.{refl}
use Rattle.physiological_order.specs.declared.operation.Op.{Op}
use Rattle.physiological_order.specs.declared.operation.Record.{Record}
use Rattle.programs.specs.Acts.{behind_first, first_op}
use Rattle.programs.specs.Performs.{Performs, rests, advances, does}

pub behind_dropped : (ops : List Op) (at : ℕ) (received : Option ℕ) → at < length ops →
    drop (at + 1) ops ≡ behind_first (drop at ops) received
behind_dropped [] at received within = absurd (omega (arith, within))
behind_dropped (op ∷ ops) zero received within = refl
behind_dropped (op ∷ ops) (suc at) received within =
    let next : suc at + 1 ≡ suc (at + 1) = omega arith in
    rw next (behind_dropped ops at received (omega (arith, within)))

-- a list that has ended gave all of its operations, in order
pub all_given : (ops rest : List Op) (rs : List Record) →
    Performs (record { next = first_op; done = behind_first }) rs ops rest → first_op rest ≡ None →
    map (λ r. r.op) rs ≡ ops
all_given [] rest rs rests ended = refl
all_given (op ∷ ops) rest rs rests ended = absurd cc
all_given [] rest rs (advances next more) ended = absurd cc
all_given (op ∷ ops) rest rs (advances next more) ended = absurd cc
all_given [] rest rs (does next more) ended = absurd cc
all_given (op ∷ ops) rest rs (does {r = r} {rs = later} next more) ended =
    let same : r.op ≡ op = cc in
    let behind : map (λ r. r.op) later ≡ ops = all_given ops rest later more ended in
    cc

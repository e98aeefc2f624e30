-- A thread that ended received its message in a legal history.
use Rattle.std.proofs.Common.{◌≡◌, ℕ, zero, suc, List, [], ◌∷◌, subst, sym, refl, arith, Option, Some, None, IfSome}
use Rattle.std.proofs.Common.{◌∙◌}
use Rattle.std.specs.Prelude.{slice_get, slice_index_or}
use Rattle.std.specs.FinMap.{empty}
use Rattle.physiological_order.specs.declared.operation.Record.{Record}
use Rattle.physiological_order.specs.Order.{flat, Legal, of_core}
use Rattle.machine_table.specs.Machine.{Machine}
use Rattle.machine_table.specs.Opening.{at_start}
use Rattle.machine_theorem.specs.Service.{AreServed}
use Rattle.programs.specs.Performs.{Performs}
use Rattle.guide_uses.specs.declared.drive.TheConstants.{TWO_CORES}
use Rattle.guide_uses.specs.declared.program.Thread.{Thread}
use Rattle.guide_uses.specs.declared.program.Thread.TheVariants.{StoreMessage, LoadFlag, Over}
use Rattle.guide_uses.specs.Passing.{passing_acts, IsPassed}

-- an element that is there is found, whatever stands in for a missing one
found : (threads : List Thread) (k : ℕ) (thread other : Thread) → slice_get threads k ≡ Some thread →
    slice_index_or threads k other ≡ thread
found [] k thread other there = absurd cc
found (t ∷ threads) zero thread other there = cc
found (t ∷ threads) (suc k) thread other there = found threads k thread other there

pub passed : (m : Machine) (threads : List Thread) (message : Option ℕ) (other : Thread) →
    AreServed passing_acts (at_start TWO_CORES empty) m (StoreMessage ∷ LoadFlag ∷ []) threads →
    slice_index_or threads 1 other ≡ Over message →
    Legal (flat empty) (λ core. slice_index_or m.issued core []) m.records → IfSome message IsPassed
passed m threads None other served ended legal = tt
passed m threads (Some message) other served ended legal =
    let first = (served.each 0 (omega arith) refl).told in
    let second = (served.each 1 (omega arith) refl).told in
    let is : second.now ≡ Over (Some message) = sym (found threads 1 second.now other second.is_now) ∙ ended in
    record {
      issued = λ core. slice_index_or m.issued core [];
      records = m.records;
      legal = legal;
      writer = first.now;
      written = subst (λ (rs : List Record). Performs passing_acts (of_core 0 rs) StoreMessage first.now)
          (sym served.records) first.performs;
      received = subst (λ (rs : List Record). Performs passing_acts (of_core 1 rs) LoadFlag (Over (Some message)))
          (sym served.records)
          (subst (λ (q : Thread). Performs passing_acts (of_core 1 served.added) LoadFlag q) is second.performs);
    }

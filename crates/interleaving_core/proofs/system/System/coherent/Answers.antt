use Rattle.std.proofs.Common.{◌≡◌, List, map, subst, ◌∙◌}
use Rattle.physiological_order.specs.declared.operation.Record.{Record}
use Rattle.physiological_order.specs.Order.{flat, Arrangement, replay_end}
use Rattle.machine_table.specs.Machine.{Machine}
use Rattle.machine_theorem.specs.Coherence.{coherent}
use Rattle.machine_theorem.proofs.Lemmas.{consistent}
use Rattle.interleaving_core.proofs.system.System.coherent.Goals as goal

pub returns-clause-left : goal.returns-clause-left
returns-clause-left g c = λ arranged is. c.coherent.ensures
    ∙ subst (λ (m : Machine). (arranged : List Record) → Arrangement m.records arranged → coherent c.self.inside.state
    c.args.addr ≡ replay_end (flat m.opening) (map (λ r. r.op) arranged) c.args.addr)
    c.self.view_is (λ order sorted. (consistent _ c.self.invariant.1).coherent order sorted c.args.addr) arranged is

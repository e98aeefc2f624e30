use Rattle.std.proofs.Common.{get_or, [], subst}
use Rattle.std.specs.List.{slice_get}
use Rattle.protocol.specs.Issued.{IsIssued}
use Rattle.physiological_order.specs.Order.{flat, Legal, of_core}
use Rattle.machine_table.specs.Machine.{Machine, operation_of}
use Rattle.machine_theorem.proofs.Lemmas.{consistent}
use Rattle.physiological_order.specs.StaleHits.{RisesByNumber}
use Rattle.interleaving_core.proofs.InOrder.{numbered_rise}
use Rattle.interleaving_core.proofs.system.System.records_are_legal.Goals as goal

pub returns-clause-legal : goal.returns-clause-legal
returns-clause-legal g c =
    subst (λ (m : Machine). Legal (flat m.opening) (λ core. get_or m.issued core []) m.records) c.self.view_is
    (consistent _ c.self.invariant.1).legal

pub returns-clause-issued : goal.returns-clause-issued
returns-clause-issued g c = λ core.
    subst (λ (m : Machine). IsIssued (get_or m.issued core []) (of_core core m.records)
    (operation_of (slice_get m.cores core))) c.self.view_is ((consistent _ c.self.invariant.1).issued core)

pub returns-clause-rising : goal.returns-clause-rising
returns-clause-rising g c =
    subst (λ (m : Machine). RisesByNumber m.records) c.self.view_is (numbered_rise 0 _ c.self.invariant.2)

use Rattle.physiological_order.specs.Faults.{issued_by}
use Rattle.report.specs.Complete.{AreAll}
use Rattle.report.proofs.complete.first_core_lacking_records.Given as goal

abbrev pub invariant-loop-core : goal.invariant-loop-core
invariant-loop-core l = AreAll l.core (issued_by l.issued) l.records

use Rattle.std.proofs.Common.{◌≡◌, true, sym, subst}
use Rattle.machine_table.specs.Machine.{Machine}
use Rattle.machine_table.specs.SetUp.{is_good}
use Rattle.machine_theorem.specs.Kept.{Invariant}
use Rattle.machine_theorem.proofs.Lemmas.{at_start_invariant, fair}
use Rattle.interleaving_core.specs.RecordOrder.{AreNumbered}
use Rattle.interleaving_core.proofs.system.System.open.Goals as goal

pub invariant_of-result : goal.invariant_of-result
invariant_of-result g c = (
  subst (λ (m : Machine). is_good m.config ≡ true) (sym c.in-Ok.ensures) (sym c.if-not-is_good.ensures),
  subst Invariant (sym c.in-Ok.ensures) (at_start_invariant c.args.config c.args.memory
      (fair c.args.config (sym c.if-not-is_good.ensures))),
  subst (λ (m : Machine). AreNumbered 0 m.records) (sym c.in-Ok.ensures) tt,
)

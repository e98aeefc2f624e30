use Rattle.std.proofs.Common.{ap, subst, sym, ◌∙◌, arith, length}
use Rattle.interleaving_core.specs.CoreMasks.{AreMasks}
use Rattle.interleaving_core.specs.Reservation.{owed}
use Rattle.network.specs.Flight.{Flight}
use Rattle.interleaving_core.proofs.GoodRanges.{flight_in_range}
use Rattle.interleaving_core.proofs.OpenCounts.{none_at_first}
use Rattle.interleaving_core.proofs.machine_state.MachineState.open.Goals as goal

pub new-requires : goal.new-requires
new-requires g c = flight_in_range c.args.config c.requires

pub invariant_of-result : goal.invariant_of-result
invariant_of-result g c =
    let none = ap owed c.in_ok-cores.ensures ∙ none_at_first c.args.config 0 c.args.config.cores in
    let empty = ap length c.in_ok-history.ensures.records in
    record {
      cores_are = ap (λ (t : Flight). t.cores) c.in_ok-flight.ensures;
      banks_are = ap (λ (t : Flight). t.banks) c.in_ok-flight.ensures;
      capacity_is = ap (λ (t : Flight). t.capacity) c.in_ok-flight.ensures;
      reserved = omega (arith, none, empty);
      masked = subst (AreMasks _) (sym c.in_ok-cores.ensures) (c.idle_core_masks.ensures c.args.config);
    }

use Rattle.std.proofs.Common.{None, sym, subst, refl, arith, length}
use Rattle.std.proofs.lemmas.Option.{slice_get_read}
use Rattle.llc_bank.specs.BankTable as bank_table
use Rattle.machine_table.specs.Machine.{Machine, with_bank}
use Rattle.machine_table.specs.Step.{entry_evicted}
use Rattle.machine_table.specs.declared.event.Event.TheVariants.{EvictBank}
use Rattle.machine_table.specs.Transition.{changed, on_event}
use Rattle.machine_table.proofs.Lemmas.{entry_fits, finds}
use Rattle.machine_theorem.specs.Kept.{Invariant}
use Rattle.interleaving_core.specs.contracts.machine_state.MachineState.{the_view}
use Rattle.interleaving_core.specs.PartChanges.{answer_of}
use Rattle.interleaving_core.specs.Endpoints.{EvictedHasEndpoints}
use Rattle.interleaving_core.proofs.ChangedParts.{bank_place, event_done}
use Rattle.interleaving_core.proofs.Endpoints.{evicted_endpoints, fitted_ends}
use Rattle.interleaving_core.proofs.machine_state.MachineState.evict_bank.Goals as goal

pub evict_entry-plain-requires : goal.evict_entry-plain-requires
evict_entry-plain-requires g c =
    let m : Machine = the_view g.row.H g.H.History c.self.inside in
    let part = c.index_mut.result.now in
    let here = slice_get_read c.self.inside.banks.items (length c.self.inside.banks.items) c.args.bank part refl
    (omega (arith, c.if-at-len.false, c.len.ensures)) c.index_mut.ensures.value in
    record {
      endpoints = fitted_ends m.config c.self.inside.flight c.self.inside.cores.items
          (g.H.History.records c.self.inside.history) _
          c.self.invariant (λ a b. EvictedHasEndpoints a b (bank_table.evict part c.args.line).0)
          (evicted_endpoints m (subst Invariant (sym c.self.view_is) c.requires) c.args.bank
          part here c.args.line);
    }

pub returns : goal.returns
returns g c =
    let m : Machine = the_view g.row.H g.H.History c.self.inside in
    let part = c.index_mut.result.now in
    let here = slice_get_read c.self.inside.banks.items (length c.self.inside.banks.items) c.args.bank part refl
    (omega (arith, c.if-at-len.false, c.len.ensures)) c.index_mut.ensures.value in
    event_done (bank_place m c.args.bank) part here None
    (entry_evicted (bank_table.evict part c.args.line)) (entry_fits (bank_table.evict part c.args.line))
    c.self.inside.flight.capacity c.self.invariant.capacity_is _ c.self.view_is
    (λ n. on_event n (EvictBank c.args.bank c.args.line))
    (sym (finds m (λ x. changed m (with_bank m c.args.bank) None
    (entry_evicted (bank_table.evict x c.args.line))) here))
    (answer_of c.evict_entry-plain.result) c.evict_entry-plain.new.bank c.evict_entry-plain.new.flight.mail
    c.stop_after_plain_answer.new.is_stopped c.evict_entry-plain.ensures.done c.stop_after_plain_answer.ensures

use Rattle.std.proofs.Common.{None, sym, subst, refl, arith, length}
use Rattle.std.proofs.lemmas.Option.{slice_get_read}
use Rattle.network.specs.Mail.{Mail}
use Rattle.core_pts.specs.CoreTable as core_table
use Rattle.core_pts.specs.CoreTable.{CoreState}
use Rattle.machine_table.specs.declared.event.Answer.{Answer}
use Rattle.machine_table.specs.Machine.{Machine, with_core}
use Rattle.machine_table.specs.Step.{copy_evicted}
use Rattle.machine_table.specs.declared.event.Event.TheVariants.{EvictCache}
use Rattle.machine_table.specs.Transition.{changed, on_event}
use Rattle.machine_table.proofs.Lemmas.{copy_fits, finds}
use Rattle.machine_theorem.specs.Kept.{Invariant}
use Rattle.interleaving_core.specs.contracts.machine_state.MachineState.{the_view}
use Rattle.interleaving_core.specs.PartChanges.{answer_of}
use Rattle.interleaving_core.specs.Endpoints.{BackHasEndpoints}
use Rattle.interleaving_core.proofs.ChangedParts.{core_place, event_done}
use Rattle.interleaving_core.proofs.Endpoints.{back_endpoints, fitted_ends, still_fitted}
use Rattle.interleaving_core.proofs.MaskedCores.{still_masked}
use Rattle.interleaving_core.proofs.Only.{SameStatus, evict_only, kept}
use Rattle.interleaving_core.proofs.OpenCounts.{owed_kept}
use Rattle.interleaving_core.proofs.machine_state.MachineState.evict_cache.Goals as goal

pub evict_copy-plain-requires : goal.evict_copy-plain-requires
evict_copy-plain-requires g c =
    let m : Machine = the_view g.row.H g.H.History c.self.inside in
    let part = c.index_mut.result.now in
    let here = slice_get_read c.self.inside.cores.items (length c.self.inside.cores.items) c.args.core part refl
    (omega (arith, c.if-at-len.false, c.len.ensures)) c.index_mut.ensures.value in
    record {
      endpoints = fitted_ends m.config c.self.inside.flight c.self.inside.cores.items
          (g.H.History.records c.self.inside.history) _
          c.self.invariant (λ a b. BackHasEndpoints a b (core_table.evict part c.args.line).0)
          (back_endpoints m (subst Invariant (sym c.self.view_is) c.requires) c.args.core
          part here c.args.line);
    }

pub invariant_of-self : goal.invariant_of-self
invariant_of-self g c =
    let m : Machine = the_view g.row.H g.H.History c.self.inside in
    let part = c.index_mut.result.now in
    let here = slice_get_read c.self.inside.cores.items (length c.self.inside.cores.items) c.args.core part refl
    (omega (arith, c.if-at-len.false, c.len.ensures)) c.index_mut.ensures.value in
    let status = subst (λ (x : Answer × CoreState × Mail). SameStatus part x.1) (sym c.evict_copy-plain.ensures.done)
    (kept part (SameStatus part) (refl, refl) c.self.inside.flight.capacity m.mail None _
    (evict_only part c.args.line)) in
    let same = owed_kept m.cores c.args.core part c.evict_copy-plain.new.core here status.0 in
    still_fitted m.config c.self.inside.flight c.self.inside.cores.items (g.H.History.records c.self.inside.history) _
    c.self.invariant _ _ _ _ _ c.evict_copy-plain.ensures.set_up (omega (arith, same, c.self.invariant.reserved))
    (still_masked c.self.inside.masks m.cores c.args.core part _ here c.self.invariant.masked status.0 status.1)

pub returns : goal.returns
returns g c =
    let m : Machine = the_view g.row.H g.H.History c.self.inside in
    let part = c.index_mut.result.now in
    let here = slice_get_read c.self.inside.cores.items (length c.self.inside.cores.items) c.args.core part refl
    (omega (arith, c.if-at-len.false, c.len.ensures)) c.index_mut.ensures.value in
    event_done (core_place m c.args.core) part here None
    (copy_evicted (core_table.evict part c.args.line)) (copy_fits (core_table.evict part c.args.line))
    c.self.inside.flight.capacity c.self.invariant.capacity_is _ c.self.view_is
    (λ n. on_event n (EvictCache c.args.core c.args.line))
    (sym (finds m (λ x. changed m (with_core m c.args.core) None (copy_evicted (core_table.evict x c.args.line))) here))
    (answer_of c.evict_copy-plain.result) c.evict_copy-plain.new.core c.evict_copy-plain.new.flight.mail
    c.stop_after_plain_answer.new.is_stopped c.evict_copy-plain.ensures.done c.stop_after_plain_answer.ensures

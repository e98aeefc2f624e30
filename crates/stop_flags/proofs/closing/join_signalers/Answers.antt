use Rattle.std.proofs.Common.{rules}
use Rattle.std.proofs.Common.{List, length, append_assoc, ap, ◌∙◌}
use Rattle.std.specs.Prelude.{slice_get}
use Rattle.stop_flags.specs.declared.signaler.Signaler.{Signaler}
use Rattle.stop_flags.specs.Ties.{FlagSeat}
use Rattle.seat_views.proofs.Lemmas.{joined, get_middle}
use Rattle.stop_flags.proofs.closing.join_signalers.Goals as goal

pub join_view-requires-clause-table : goal.join_view-requires-clause-table
join_view-requires-clause-table c =
    let i = c.loop-signaler.invariant in
    let table = c.requires.table in
    let new : List Signaler = c.pop.new.self.items in
    let s : Signaler = c.in-Some.signaler in
    let all = joined c.args.signalers.items c.loop-signaler.signalers.items new i.2.0 c.pop.result s i.2.1
    c.pop.ensures.items c.in-Some.is in (
      (i.0 ∙ table.0, table.1, table.2, table.3),
      ap (λ (y : FlagSeat). y.table_id) c.seat_of_signaler-other.ensures
          ∙ c.requires.signalers (length new) s (ap (λ z. slice_get z (length new)) all ∙ get_middle new s i.2.0),
    )

pub loop-signaler-preserved : goal.loop-signaler-preserved
loop-signaler-preserved c = search (rules, joined, append_assoc)

use Rattle.std.proofs.Common.{option_copied, subst, sym}
use Rattle.interleaving_core.specs.PartChanges.{answer_in}
use Rattle.event_counts.specs.Counting.{FitsIn, HasRoom}
use Rattle.event_counts.proofs.CountSizes.{seen_fits}
use Rattle.event_counts.proofs.counter.Counter.count_event.Goals as goal

pub push-requires : goal.push-requires
push-requires g c =
    let room = subst HasRoom (sym c.self.view_is) c.requires.room in
    let inside = c.self.inside in let m = c.args.system.now in (
      room.1,
      subst (λ n. FitsIn n inside.rows.spare) (sym c.see.ensures)
          (seen_fits inside.rows.spare inside.counts inside.lost.lost inside.to c.args.event.now
          (answer_in m.records c.args.plain.now) m (option_copied c.look-sent.result) room.2),
    )

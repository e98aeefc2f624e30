use Rattle.std.proofs.Common.{ap₂, ◌∙◌}
use Rattle.interleaving_core.specs.PartChanges.{answer_in}
use Rattle.event_counts.specs.Counting.{counted_on}
use Rattle.event_counts.proofs.counter.Counter.see.Goals as goal

pub count_event-requires : goal.count_event-requires
count_event-requires g c = record { room = c.requires.1.room }

pub returns : goal.returns
returns g c before ready =
    let m = c.args.system.now in
    c.count_event.ensures ∙ ap₂ (λ to copy. counted_on c.args.self.now.seen to copy c.args.event.now
    (answer_in m.records c.args.plain.now) m) ready.to ready.copy

use Rattle.std.proofs.Common.{◌∙◌, ap, option_copied}
use Rattle.interleaving_core.specs.PartChanges.{answer_in}
use Rattle.event_counts.specs.Counts.{EventCounts, more}
use Rattle.event_counts.specs.Counting.{answered, with_message}
use Rattle.event_counts.proofs.event_counts.EventCounts.see.Goals as goal

pub returns : goal.returns
returns g c =
    let m = c.args.system.now in let e = c.args.event.now in
    let told : (EventCounts → EventCounts)
    = λ n. answered n c.args.lost.now.lost c.args.to e (answer_in m.records c.args.plain.now) m in
    let inside = c.self.inside in
    c.see_sent_by.ensures
    ∙ ap (λ n. with_message n m e (option_copied c.args.message)) (c.see_answer.ensures
    ∙ ap (λ events. told (record {
      cores = inside.cores.items;
      banks = inside.banks.items;
      events = events;
      held = inside.held;
      dropped = inside.dropped;
      next = inside.next;
    })) c.increment_count-self-inside.ensures
    ∙ ap (λ n. told (record n { events = more n.events })) c.self.view_is)

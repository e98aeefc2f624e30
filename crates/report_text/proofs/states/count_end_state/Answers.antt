use Rattle.report_text.proofs.OneMore.{one_inserted}
use Rattle.report_text.proofs.states.count_end_state.Goals as goal

pub returns : goal.returns
returns c = one_inserted c.args.states.now.entries c.insert.new.self.entries c.args.values
    c.count_of_end_state-count.result c.in_ok-insert.ensures.entries c.count_of_end_state-count.ensures

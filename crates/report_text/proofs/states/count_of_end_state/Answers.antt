use Rattle.std.proofs.Common.{◌∙◌, sym, ap}
use Rattle.report_text.proofs.OneMore.{count_is, or_zero}
use Rattle.report_text.proofs.states.count_of_end_state.Goals as goal

pub returns-in-Some : goal.returns-in-Some
returns-in-Some c =
    sym (count_is c.args.states.now.entries c.args.values.now ∙ ap or_zero (sym c.in-Some.ensures.value))

pub returns-in-None : goal.returns-in-None
returns-in-None c =
    sym (count_is c.args.states.now.entries c.args.values.now ∙ ap or_zero (sym c.in-None.ensures.value))

use Rattle.std.proofs.Common.{sym, ◌∙◌}
use Rattle.ranked_lines.proofs.RisingEdits.{looked-at}
use Rattle.ranked_lines.proofs.lines.RankedLines.nth.Goals as goal

pub returns : goal.returns
returns c = λ xs o.
    c.nth.ensures ∙ looked-at c.args.self.now c.in-Some.numbers xs (sym c.self.view_is ∙ c.in-Some.is) o
    c.args.but.now c.args.at

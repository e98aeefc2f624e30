use Rattle.std.proofs.Common.{◌∙◌, inr}
use Rattle.command_line.proofs.words.error_of_conflict.Goals as goal

pub returns-in-Ok : goal.returns-in-Ok
returns-in-Ok c = λ words found taken asks.
    inr (c.args.why, found, taken, asks, c.in-Ok.ensures.ok ∙ c.conflict_text-said.ensures)

use Rattle.std.proofs.Common.{◌∙◌, ap, arith}
use Rattle.programs.specs.Acts.{behind_first}
use Rattle.programs.proofs.DoneOps.{behind_dropped}
use Rattle.programs.proofs.lists.OpProgramProgram.done.Goals as goal

pub returns-then-self-len : goal.returns-then-self-len
returns-then-self-len c =
    behind_dropped c.self.inside.ops.items c.self.inside.at c.args._received
    (omega (arith, c.if-self-len.true, c.len.ensures))
    ∙ ap (λ ops. behind_first ops c.args._received) c.self.view_is

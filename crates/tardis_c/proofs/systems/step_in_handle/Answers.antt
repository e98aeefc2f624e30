use Rattle.std.proofs.Common.{rules}
use Rattle.tardis_c.proofs.SystemSteps.{stepped}
use Rattle.tardis_c.proofs.systems.step_in_handle.Goals as goal

pub returns : goal.returns
returns c =
    stepped c.args.answer.now {machine = c.in-Some.system.value} {next = c.step-came.new.self} c.args.event
    {answer = c.step-came.result} c.in-Some.ensures.taken
    (search rules)
    (search rules)
    c.c_answer.ensures

use Rattle.command_line.proofs.Arguments.{adds_argument}
use Rattle.command_line.proofs.app.with_argument.Goals as goal

pub returns : goal.returns
returns c = adds_argument c.args.command c.arg.result c.in_ok-command.command c.in_ok-command.was c.args.arg
    c.arg.ensures

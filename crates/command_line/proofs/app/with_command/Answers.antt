use Rattle.command_line.proofs.Arguments.{adds_command}
use Rattle.command_line.proofs.app.with_command.Goals as goal

pub returns : goal.returns
returns c = adds_command c.args.command c.subcommand.result c.in_ok-command.command c.in_ok-command.was c.args.inner
    c.in_ok-inner.inner c.in_ok-inner.was c.subcommand.ensures

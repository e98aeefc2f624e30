use Rattle.command_line.specs.Additions.{IsArg}
use Rattle.command_line.specs.App.{any_number, number_rule}
use Rattle.command_line.proofs.app.with_number_option.Goals as goal

pub returns : goal.returns
returns c =
    let is : IsArg c.option_with_default.result (number_rule c.args.name.now c.args.default.now any_number) =
    rw c.value_parser-parser.ensures at c.option_with_default.ensures in
    c.with_argument.ensures _ is

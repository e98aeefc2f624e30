use Rattle.std.proofs.Common.{◌≡◌}
use Rattle.command_line.specs.App.{up_to}
use Rattle.command_line.proofs.app.ends_command.Goals as goal

pub returns : goal.returns
returns c =
    let most : c.range-states.result ≡ up_to 4294967295 = rw c.value_parser.ensures at c.range-states.ensures in
    let states = rw most at c.option_with_default.ensures in
    c.with_argument.ensures _ c.file_argument.ensures _ (c.with_argument-written.ensures _ c.flag_argument-2.ensures _
    (c.with_argument-ordered.ensures _ c.flag_argument.ensures _
    (c.with_argument-bounded.ensures _ states _ c.command_without_arguments-named.ensures)))

use Rattle.std.proofs.Common.{◌≡◌}
use Rattle.command_line.specs.App.{up_to}
use Rattle.command_line.proofs.app.litmus_command.Goals as goal

pub returns : goal.returns
returns c =
    let most : c.range-runs.result ≡ up_to 1000000 = rw c.value_parser.ensures at c.range-runs.ensures in
    let runs = rw most at c.option_with_default.ensures in
    let run = c.with_run_arguments.ensures in (
      run.0,
      run.1,
      run.2 _ (c.with_argument-written.ensures _ c.flag_argument.ensures _
          (c.with_argument-repeated.ensures _ runs _ c.command_without_arguments-named.ensures)),
    )

use Rattle.std.proofs.Common.{◌≡◌}
use Rattle.command_line.specs.App.{up_to}
use Rattle.command_line.proofs.app.with_run_options.Goals as goal

pub returns : goal.returns
returns c =
    let limit : c.range-limit.result ≡ up_to 4294967295 = rw c.value_parser.ensures at c.range-limit.ensures in
    let workers : c.range-workers.result ≡ up_to 16 = rw c.value_parser-2.ensures at c.range-workers.ensures in
    let limited = rw limit at c.option_with_default-2.ensures in
    let shared = rw workers at c.option_with_default-3.ensures in (
      c.schedule_parser-names.result,
      c.schedule_parser-names.ensures,
      λ app had.
          c.with_argument.ensures _ c.flag_argument-2.ensures _
          (c.with_argument-five.ensures _ c.flag_argument.ensures _ (c.with_argument-four.ensures _ shared _
          (c.with_argument-three.ensures _ limited _ (c.with_number_option-two.ensures _
          (c.with_argument-one.ensures _ c.option_with_default.ensures app had))))),
    )

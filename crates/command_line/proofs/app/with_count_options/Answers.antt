use Rattle.std.proofs.Common.{◌≡◌}
use Rattle.command_line.specs.App.{from_one}
use Rattle.command_line.proofs.app.with_count_options.Goals as goal

pub returns : goal.returns
returns c =
    let every : c.range-every.result ≡ from_one = rw c.value_parser.ensures at c.range-every.ensures in
    let sparse = rw every at c.option_without_default.ensures in
    λ app had.
    c.with_argument.ensures _ c.flag_argument-3.ensures _ (c.with_argument-three.ensures _ sparse _
    (c.with_argument-two.ensures _ c.flag_argument-2.ensures _
    (c.with_argument-one.ensures _ c.flag_argument.ensures app had)))

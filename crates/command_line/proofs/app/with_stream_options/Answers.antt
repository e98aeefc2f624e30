use Rattle.std.proofs.Common.{◌≡◌}
use Rattle.command_line.specs.App.{up_to}
use Rattle.command_line.proofs.app.with_stream_options.Goals as goal

pub returns : goal.returns
returns c =
    let most : c.range-cores.result ≡ up_to 64 = rw c.value_parser.ensures at c.range-cores.ensures in
    let cores = rw most at c.option_without_default.ensures in
    let last : c.range-millions.result ≡ up_to 4294967295 = rw c.value_parser-2.ensures at c.range-millions.ensures in
    let millions = rw last at c.option_without_default-2.ensures in
    λ app had.
    c.with_argument.ensures _ millions _ (c.with_argument-three.ensures _ c.flag_argument-2.ensures _
    (c.with_argument-two.ensures _ cores _ (c.with_argument-one.ensures _ c.flag_argument.ensures app had)))

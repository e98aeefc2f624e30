use Rattle.std.proofs.Common.{false, refl}
use Rattle.trace_lines.specs.Fronts.{number_in}
use Rattle.trace_lines.proofs.Rules.{front-read}
use Rattle.trace_lines.proofs.reads.read_decimal_field.Goals as goal

pub returns-in-Some-clause-read : goal.returns-in-Some-clause-read
returns-in-Some-clause-read c =
    front-read c.args.kind (number_in false c.args.digits c.args.bound) refl _ _ _ c.skip_leading_blanks.ensures
    c.in-Some.ensures.number

pub returns-in-None-clause-read : goal.returns-in-None-clause-read
returns-in-None-clause-read c =
    front-read c.args.kind (number_in false c.args.digits c.args.bound) refl _ _ _ c.skip_leading_blanks.ensures
    c.in-None.ensures.number

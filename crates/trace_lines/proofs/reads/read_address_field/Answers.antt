use Rattle.std.proofs.Common.{None, refl}
use Rattle.trace_lines.specs.declared.errors.Kind.TheVariants.{BadAddress}
use Rattle.trace_lines.specs.Reading.{address_in, address_at}
use Rattle.trace_lines.proofs.Rules.{front-read}
use Rattle.trace_lines.proofs.reads.read_address_field.Goals as goal

pub returns-in-Some-clause-read : goal.returns-in-Some-clause-read
unfolding address_at
returns-in-Some-clause-read c =
    front-read BadAddress address_in refl c.skip_leading_blanks.result.now _ _ c.skip_leading_blanks.ensures
    c.in-Some.ensures.number

pub returns-in-None-clause-read : goal.returns-in-None-clause-read
unfolding address_at
returns-in-None-clause-read c =
    front-read BadAddress address_in refl c.skip_leading_blanks.result.now None _ c.skip_leading_blanks.ensures
    c.in-None.ensures.number

use Rattle.std.proofs.Common.{Some, None, refl, sym, ◌∙◌}
use Rattle.trace_lines.specs.declared.errors.Kind.TheVariants.{BadOperation}
use Rattle.trace_lines.specs.Fields.{fields_of}
use Rattle.trace_lines.specs.Reading.{access_in, operation_at}
use Rattle.trace_lines.proofs.Rules.{front-read, letter-read, letter-none}
use Rattle.trace_lines.proofs.reads.read_access_field.Goals as goal

pub returns-in_default : goal.returns-in_default
unfolding operation_at
returns-in_default c =
    front-read BadOperation access_in refl c.skip_leading_blanks.result.now None _ c.skip_leading_blanks.ensures
    (letter-none c.skip_leading_blanks.result.now c.in_default.ensures)

pub returns-in-Some-access_of_letter : goal.returns-in-Some-access_of_letter
unfolding operation_at
returns-in-Some-access_of_letter c =
    front-read BadOperation access_in refl c.skip_leading_blanks.result.now
    (Some (c.in-Some-access_of_letter.access, fields_of c.in-Some.rest.now)) _ c.skip_leading_blanks.ensures
    (letter-read c.skip_leading_blanks.result.now c.in-Some.letter (fields_of c.in-Some.rest.now)
    (Some c.in-Some-access_of_letter.access) c.in-Some.ensures
    (sym c.in-Some-access_of_letter.is ∙ c.access_of_letter.ensures))

pub returns-in-None : goal.returns-in-None
unfolding operation_at
returns-in-None c =
    front-read BadOperation access_in refl c.skip_leading_blanks.result.now None _ c.skip_leading_blanks.ensures
    (letter-read c.skip_leading_blanks.result.now c.in-Some.letter (fields_of c.in-Some.rest.now) None c.in-Some.ensures
    (sym c.in-None.is ∙ c.access_of_letter.ensures))

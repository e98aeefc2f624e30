use Rattle.std.proofs.Common.{◌<◌, ◌≡◌, length, sym, ap, ◌∙◌, arith}
use Rattle.trace_lines.specs.Fields.{has_fields}
use Rattle.trace_lines.proofs.Parts.{fronted-has, fronted-has_none}
use Rattle.trace_lines.proofs.lines.has_field.Goals as goal

pub returns-in-empty : goal.returns-in-empty
returns-in-empty c =
    let none : length c.skip_leading_blanks.result.now ≡ 0 = omega (arith, c.in-empty.len_below) in
    sym (ap has_fields c.skip_leading_blanks.ensures ∙ fronted-has_none _ none)

pub returns-in-len1-up : goal.returns-in-len1-up
returns-in-len1-up c =
    let some : 0 < length c.skip_leading_blanks.result.now = omega (arith, c.in-len1-up.len_at_least) in
    c.is_field_byte.ensures ∙ sym (ap has_fields c.skip_leading_blanks.ensures ∙ fronted-has _ some)

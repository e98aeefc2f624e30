use Rattle.std.proofs.Common.{◌<◌, ◌≡◌, ◌∙◌, arith}
use Rattle.std.proofs.lemmas.Bool.Decides.{nat_tests}
use Rattle.std.specs.List.{prefix_len}
use Rattle.trace_lines.specs.Fields.{is_within}
use Rattle.trace_lines.proofs.Parts.{none-fronted, one-fronted}
use Rattle.trace_lines.proofs.lines.next_field.Goals as goal

pub returns-then-count-eq0 : goal.returns-then-count-eq0
returns-then-count-eq0 c =
    let none : prefix_len is_within c.skip_leading_blanks-bytes.result.now ≡ 0 =
    grind (arith, nat_tests, c.count_field_bytes-count.ensures.count) in
    c.skip_leading_blanks-bytes.ensures ∙ none-fronted _ none

pub returns : goal.returns
returns c =
    let some : 0 < c.count_field_bytes-count.result = grind (arith, nat_tests) in
    rw (c.split_at.ensures.front, c.split_at.ensures.back)
    (c.skip_leading_blanks-bytes.ensures ∙ one-fronted _ _ c.count_field_bytes-count.ensures.count some)

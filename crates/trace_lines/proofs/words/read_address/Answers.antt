use Rattle.std.proofs.Common.{Some, None, ap, ◌∙◌, arith}
use Rattle.std.proofs.lemmas.Bool.Decides.{nat_tests}
use Rattle.std.specs.Prelude.{option_map}
use Rattle.trace_lines.specs.Fields.{fields_of}
use Rattle.trace_lines.specs.Views.{view_fields_read}
use Rattle.trace_lines.proofs.HexBound.{address-front, word-read}
use Rattle.trace_lines.proofs.words.read_address.Goals as goal

pub returns-in_err-byte-clause-number : goal.returns-in_err-byte-clause-number
returns-in_err-byte-clause-number c =
    ap (option_map view_fields_read) c.from_residual.ensures
    ∙ address-front c.args.bytes.now c.split_at.result.1.now None (grind (arith, nat_tests))
    (grind (arith, nat_tests)) (grind (arith, nat_tests)) c.split_at.ensures.back c.in_err-byte.ensures.number

pub returns-clause-number : goal.returns-clause-number
returns-clause-number c =
    let fields = fields_of c.in_ok-byte.rest.now in
    let word = word-read c.in_ok-byte.byte c.word.result fields c.in_ok-word.ensures.0
    (c.word.ensures.number ∙ c.in_ok-word.ensures.1) in
    word ∙ address-front c.args.bytes.now c.split_at.result.1.now (Some (c.in_ok-byte.byte, fields))
    (grind (arith, nat_tests)) (grind (arith, nat_tests)) (grind (arith, nat_tests)) c.split_at.ensures.back
    c.in_ok-byte.ensures.number

use Rattle.std.proofs.Common.{◌-◌, ◌∙◌, arith}
use Rattle.std.proofs.lemmas.List.{take-set, take-set-le}
use Rattle.report_lines.proofs.HexDigits.{hex-alone, hex-behind}
use Rattle.report_lines.proofs.addresses.+write_hex.Goals as goal

pub returns-then-number-lt16-clause-written : goal.returns-then-number-lt16-clause-written
returns-then-number-lt16-clause-written t c =
    hex-alone c.args.places c.args.number c.hex_glyph.result c.args.end c.args.bytes.now c.if-places-eq0.false
    c.if-number-lt16.true c.hex_glyph.ensures c.requires.room c.requires.within

pub returns-clause-written : goal.returns-clause-written
returns-clause-written t c =
    hex-behind c.args.places c.args.number c.hex_glyph.result c.args.end c.args.bytes.now _
    c.if-places-eq0.false c.if-number-lt16.false c.hex_glyph.ensures c.requires.room c.requires.within
    c.write_hex.ensures.written

pub returns-then-number-lt16-clause-front : goal.returns-then-number-lt16-clause-front
returns-then-number-lt16-clause-front t c =
    take-set c.args.bytes.now (c.args.end - 1) c.hex_glyph.result

pub returns-clause-front : goal.returns-clause-front
returns-clause-front t c =
    let ends = c.write_hex.ensures.ends in
    c.write_hex.ensures.front ∙ take-set-le c.write_hex.result c.args.bytes.now (c.args.end - 1) c.hex_glyph.result
    (omega (arith, ends))

use Rattle.std.proofs.Common.{◌≡◌, ◌+◌, ◌-◌, ◌<◌, length, ap, ◌∙◌, arith, drop, ◌∷◌}
use Rattle.std.proofs.lemmas.List.{drop-set}
use Rattle.trace_texts.proofs.Numerals.{short-decimal}
use Rattle.trace_texts.proofs.fields.write_spaced_number.Goals as goal

pub write_digits-at-requires : goal.write_digits-at-requires
write_digits-at-requires c =
    let short = short-decimal c.args.number c.ranges.number.fits in
    (omega (arith, short, c.requires.room), c.requires.within)

pub overflow_sub-bytes : goal.overflow_sub-bytes
overflow_sub-bytes c =
    let short = short-decimal c.args.number c.ranges.number.fits in
    omega (arith, short, c.requires.room, c.write_digits-at.ensures.start)

pub overflow_sub-result : goal.overflow_sub-result
overflow_sub-result c = overflow_sub-bytes c

pub returns-clause-written : goal.returns-clause-written
returns-clause-written c =
    let short = short-decimal c.args.number c.ranges.number.fits in
    let same : c.write_digits-at.result - 1 + 1 ≡ c.write_digits-at.result =
    omega (arith, short, c.requires.room, c.write_digits-at.ensures.start) in
    let lt : c.write_digits-at.result - 1 < length c.write_digits-at.new.buf =
    omega (
      arith,
      short,
      c.requires.room,
      c.requires.within,
      c.write_digits-at.ensures.start,
      c.write_digits-at.auto.buf,
    ) in
    drop-set c.write_digits-at.new.buf (c.write_digits-at.result - 1) 32 lt
    ∙ ap (λ k. 32 ∷ drop k c.write_digits-at.new.buf) same ∙ ap (λ tail. 32 ∷ tail) c.write_digits-at.ensures.written

pub returns-clause-begins : goal.returns-clause-begins
returns-clause-begins c =
    let short = short-decimal c.args.number c.ranges.number.fits in
    omega (arith, short, c.requires.room, c.write_digits-at.ensures.start)

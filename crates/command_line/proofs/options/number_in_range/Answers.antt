use Rattle.std.proofs.Common.{◌≡◌, arith, inl, inr, subst, sym}
use Rattle.std.specs.Str.Parse.{ParsesUnsigned, ExplainsUnsignedError, HasUnsignedDigitsIfOk}
use Rattle.clap.specs.Words.{found_of, one_of, rows_of}
use Rattle.command_line.specs.Options.{IsNumberIn}
use Rattle.command_line.proofs.Numbers.{number_within, number_without}
use Rattle.command_line.proofs.options.number_in_range.Goals as goal
use Rattle.command_line.proofs.options.number_in_range.Goals.{then-number-least-via-then-number-least}
use Rattle.command_line.proofs.options.number_in_range.Goals.{then-number-least-via-else-number-least+then-most-number}

pub returns-in_err-number : goal.returns-in_err-number
returns-in_err-number c =
    subst (IsNumberIn (one_of c.args.name.now (rows_of (found_of c.args.matches.now))) c.args.least c.args.most)
    (sym c.from_residual.ensures) (number_without
    (λ bs r. ParsesUnsigned 64 10 bs r × ExplainsUnsignedError 10 bs r × HasUnsignedDigitsIfOk bs r) (λ bs r g. g.0)
    c.args.least c.args.most (omega (arith, c.ranges.most.fits)) (found_of c.args.matches.now) c.args.name.now
    c.get_one.result c.get_one.ensures.none c.get_one.ensures.value
    (λ n is. let was = c.in_err-number.was in absurd cc))

pub returns-then-number-least : goal.returns-then-number-least
returns-then-number-least c =
    number_without (λ bs r. ParsesUnsigned 64 10 bs r × ExplainsUnsignedError 10 bs r × HasUnsignedDigitsIfOk bs r)
    (λ bs r g. g.0) c.args.least c.args.most (omega (arith, c.ranges.most.fits))
    (found_of c.args.matches.now) c.args.name.now c.get_one.result c.get_one.ensures.none c.get_one.ensures.value
    (λ n is.
    let same : c.in_ok-number.number ≡ n = let was = c.in_ok-number.was in cc in
    elim c.then-number-least.branch [
      | then-number-least-via-then-number-least b ↦ inl (omega (arith, same, b.if-number-least.true))
      | then-number-least-via-else-number-least+then-most-number b ↦
          inr (omega (arith, same, b.if-most-number.true))
    ])

pub returns : goal.returns
returns c =
    number_within (λ bs r. ParsesUnsigned 64 10 bs r × ExplainsUnsignedError 10 bs r × HasUnsignedDigitsIfOk bs r)
    (λ bs r g. g.0) c.args.least c.args.most (omega (arith, c.ranges.most.fits))
    (found_of c.args.matches.now) c.args.name.now c.get_one.result c.get_one.ensures.none c.get_one.ensures.value
    c.in_ok-number.number c.in_ok-number.was (omega (arith, c.if-number-least.false))
    (omega (arith, c.if-most-number.false))

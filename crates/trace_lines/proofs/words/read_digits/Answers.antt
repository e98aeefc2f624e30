use Rattle.std.proofs.Common.{sym, ◌∙◌, arith}
use Rattle.std.proofs.lemmas.Bool.Decides.{nat_tests}
use Rattle.trace_lines.proofs.FrontNumbers.{goes-on, goes-over, goes-wrong, goes-to, goes-through, digits-go}
use Rattle.trace_lines.proofs.words.read_digits.Goals as goal
use Rattle.trace_lines.proofs.words.read_digits.Goals.{then-loop-count-test+else-is_digit, else-loop-count-test}
use Rattle.trace_lines.proofs.words.read_digits.Goals.{else-count-bytes-via-then-count-bytes+else-is_field_byte}
use Rattle.trace_lines.proofs.words.read_digits.Goals.{else-count-bytes-via-else-count-bytes}

pub loop-count-init : goal.loop-count-init
loop-count-init c = digits-go c.args.is_hexadecimal c.args.bytes.now

pub returns-in_err-value : goal.returns-in_err-value
returns-in_err-value c =
    c.from_residual.ensures ∙ goes-over c.args.is_hexadecimal c.args.bytes.now c.loop-count.value c.loop-count.count
    c.loop-count.invariant (grind (arith, nat_tests)) (sym c.is_digit.ensures ∙ c.if-is_digit.true)
    c.in_err-value.ensures

pub loop-count-preserved : goal.loop-count-preserved
loop-count-preserved c =
    goes-on c.args.is_hexadecimal c.args.bytes.now c.loop-count.value c.loop-count.count c.in_ok-value.value
    c.loop-count.invariant (grind (arith, nat_tests)) (sym c.is_digit.ensures ∙ c.if-is_digit.true)
    c.in_ok-value.ensures.0 c.in_ok-value.ensures.1

pub returns-then-is_field_byte : goal.returns-then-is_field_byte
returns-then-is_field_byte c =
    elim c.loop-count-test.branch [
      | then-loop-count-test+else-is_digit w ↦
          goes-wrong c.args.is_hexadecimal c.args.bytes.now c.loop-count.value c.loop-count.count
          c.loop-count.invariant (grind (arith, nat_tests)) (sym w.is_digit.ensures ∙ w.if-is_digit.false)
          (sym c.is_field_byte.ensures ∙ c.if-is_field_byte.true)
      | else-loop-count-test w ↦ absurd (grind (arith, nat_tests))
    ]

pub returns : goal.returns
returns c =
    elim c.else-count-bytes.branch [
      | else-count-bytes-via-then-count-bytes+else-is_field_byte v ↦ elim c.loop-count-test.branch [
        | then-loop-count-test+else-is_digit w ↦
            goes-to c.args.is_hexadecimal c.args.bytes.now c.loop-count.value c.loop-count.count
            c.loop-count.invariant (grind (arith, nat_tests)) (sym w.is_digit.ensures ∙ w.if-is_digit.false)
            (sym v.is_field_byte.ensures ∙ v.if-is_field_byte.false)
        | else-loop-count-test w ↦ absurd (grind (arith, nat_tests))
      ]
      | else-count-bytes-via-else-count-bytes v ↦
          goes-through c.args.is_hexadecimal c.args.bytes.now c.loop-count.value c.loop-count.count
          c.loop-count.invariant (grind (arith, nat_tests))
    ]

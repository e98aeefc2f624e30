use Rattle.std.proofs.Common.{◌^◌, ◌*◌, ◌%◌, ◌∙◌, cond, inl, inr, ap, sym, arith}
use Rattle.std.specs.Int.{bit_not, w64}
use Rattle.std.specs.Prelude.{bit_and}
use Rattle.std.proofs.lemmas.Bool.{cases_lt}
use Rattle.std.proofs.lemmas.Nat.{and_le_l}
use Rattle.std.proofs.lemmas.Nat.Bits.{bit_at_above, bit_at_clear_other, bit_at_clear_same, bit_at_set_other}
use Rattle.std.proofs.lemmas.Nat.Bits.{bit_at_set_same}
use Rattle.interleaving_core.proofs.core_masks.with_bit.Goals as goal

pub returns-then-is_set-clause-here : goal.returns-then-is_set-clause-here
returns-then-is_set-clause-here c =
    bit_at_set_same w64 c.args.mask c.args.at c.requires ∙ ap (λ b. cond b 1 0) (sym c.if-is_set.true)

pub returns-then-is_set-clause-elsewhere : goal.returns-then-is_set-clause-elsewhere
returns-then-is_set-clause-elsewhere c = bit_at_set_other w64 c.args.mask c.args.at c.requires

pub returns-clause-here : goal.returns-clause-here
returns-clause-here c =
    bit_at_clear_same w64 c.args.mask c.args.at c.requires ∙ ap (λ b. cond b 1 0) (sym c.if-is_set.false)

pub returns-clause-elsewhere : goal.returns-clause-elsewhere
returns-clause-elsewhere c i other =
    let fits = c.ranges.mask.fits in
    let rest = bit_not w64 (1 * 2 ^ c.args.at % 2 ^ 64) in
    let less = and_le_l c.args.mask rest in
    elim (cases_lt i 64) [
      | inl below ↦ bit_at_clear_other w64 c.args.mask c.args.at c.requires i below other
      | inr past ↦ bit_at_above (bit_and c.args.mask rest) 64 i (omega (arith, less, fits)) past
          ∙ sym (bit_at_above c.args.mask 64 i fits past)
    ]

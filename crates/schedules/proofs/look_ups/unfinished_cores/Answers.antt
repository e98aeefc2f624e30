use Rattle.std.proofs.Common.{◌∙◌, cond, inl, inr, ap, sym, arith}
use Rattle.std.specs.Prelude.{is_some}
use Rattle.std.proofs.lemmas.Bool.{cases_eq, cases_lt}
use Rattle.std.proofs.lemmas.Nat.Bits.{bit_at-zero}
use Rattle.schedules.proofs.ReadyCores.{none_past}
use Rattle.schedules.proofs.look_ups.unfinished_cores.Goals as goal

pub loop-core-init : goal.loop-core-init
loop-core-init g c = record {
  asked = λ core below. absurd (omega (arith, below));
  none = λ core past. bit_at-zero core;
}

pub loop-core-preserved : goal.loop-core-preserved
loop-core-preserved g c =
    let l = c.loop-core in
    let bit = c.with_bit-mask.ensures in
    record {
      asked = λ core below. elim (cases_eq core l.core) [
        | inl e ↦ rw e (bit.here ∙ ap (λ b. cond b 1 0) (c.is_some.ensures ∙ ap is_some c.next_step_of_core.ensures))
        | inr other ↦ bit.elsewhere core other ∙ l.invariant.asked core (omega (arith, below, other))
      ];
      none = λ core past. bit.elsewhere core (λ e. absurd (omega (arith, e, past)))
          ∙ l.invariant.none core (omega (arith, past));
    }

pub returns : goal.returns
returns g c core below =
    let l = c.loop-core in
    elim (cases_lt core l.core) [
      | inl asked ↦ l.invariant.asked core asked
      | inr past ↦ l.invariant.none core past
          ∙ ap (λ b. cond b 1 0) (sym (none_past g.P.Program.acts c.args.programs.now core (omega arith)))
    ]

use Rattle.std.proofs.Common.{ℕ, List, map, sym, ap, subst, ◌∙◌}
use Rattle.std.proofs.Math.Path.{fun_ext}
use Rattle.std.proofs.lemmas.Result.{IfOk-weaker}
use Rattle.physiological_order.specs.declared.operation.Record.{Record}
use Rattle.physiological_order.specs.Order.{flat}
use Rattle.closed_machine.specs.ValuesLeft.{ValuesLeft}
use Rattle.closed_machine.proofs.run.Run.values.Goals as goal

pub returns-clause-value : goal.returns-clause-value
returns-clause-value c =
    let run = c.args.self.now in
    let words = c.args.words.now in
    IfOk-weaker c.values_after_records.result _ _ (λ values left. λ parts.
    let is = parts.whole.consistent in
    let there = subst (λ (rs : List Record). ValuesLeft (flat run.set_up.memory) rs words values.items)
    c.as_slice.ensures.value left in
    there is.legal.arranged is.legal.arrangement
    ∙ ap (λ (f : ℕ → ℕ). map f words)
    (fun_ext (λ word. sym (is.coherent is.legal.arranged is.legal.arrangement word)))) c.values_after_records.ensures

use Rattle.std.proofs.Common.{ap, sym, ◌∙◌, arith}
use mathlib.Core.Logic.{dite}
use native.Mathlib.Decide.{dec_lt}
use Rattle.physiological_order.specs.Order.{flat}
use Rattle.physiological_order.specs.Faults.{issued_by}
use Rattle.closed_machine.specs.RunParts.{state_of_run}
use Rattle.guide_uses.proofs.Issued.{has_verdict, legal_for, past_all}
use Rattle.guide_uses.proofs.closed.check_run.Goals as goal

pub returns : goal.returns
returns c =
    let run = c.args.run.now in
    let parts = c.requires in
    let lists = c.loop-core.issued.items in
    let long = c.loop-core.invariant.0 in
    let end = c.loop-core.auto.core-end in
    let past = c.loop-core-test.false in
    has_verdict
    (legal_for (flat run.set_up.memory) (issued_by c.deref.result.now) (state_of_run run parts).issued
    c.records.result.now
    (λ core.
    ap (λ ls. issued_by ls core) c.deref.ensures.value
    ∙ dite (dec_lt core run.set_up.config.cores)
    (λ l. c.loop-core.invariant.1 parts core (omega (arith, l, past)))
    (λ no. past_all (λ ops. ops.items) lists core (omega (arith, long, end, no))
    ∙ sym (c.records.ensures.beyond parts core (omega (arith, no)))))
    (c.records.ensures.legal parts))
    c.check.result c.check.ensures.legal

use Rattle.std.proofs.lemmas.Result.{err_from_is_err_and}
use Rattle.litmus_parser.specs.Names.{address_of}
use Rattle.litmus_parser.specs.Verdicts.{kept, value_in, base_in, meaning}
use Rattle.litmus_parser.specs.declared.syntax.Instruction.TheVariants.{Swap}
use Rattle.litmus_parser.proofs.TableSteps.{fourth-fails}
use Rattle.litmus_parser.proofs.instructions.instruction_of_form.Goals as goal

pub returns-in_err-location-in-Swap : goal.returns-in_err-location-in-Swap
unfolding meaning
returns-in_err-location-in-Swap c =
    let p = err_from_is_err_and c.from_residual-in_err-location-in-Swap.result
    c.from_residual-in_err-location-in-Swap.ensures.1 in
    let bases = address_of c.args.items.now in
    rw (p.1, p.2, c.in-Swap.is) (fourth-fails (kept c.args.width c.in-Swap.own)
    (value_in bases c.args.thread c.in-Swap.target) (value_in bases c.args.thread c.in-Swap.source)
    (base_in bases c.args.thread c.in-Swap.base) (λ w d s b. (Swap d s b, w)) c.args.at.now.line _ _ _ _
    c.in_ok-width-in-Swap.ensures c.in_ok-target-in-Swap.ensures c.in_ok-source-in-Swap.ensures
    c.in_err-location-in-Swap.ensures)

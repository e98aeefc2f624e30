use Rattle.std.proofs.Common.{◌++◌, ◌∷◌, [], ap, ap₂, sym, ◌∙◌, take, arith, take_all}
use Rattle.physiological_order.specs.Order.{flat, flat_received}
use Rattle.physiological_order.specs.Words.{words_after, words_end}
use Rattle.physiological_order.proofs.ReplaySteps.{words_end-take, replay-take, flat-words_end}
use Rattle.physiological_order.proofs.replays.replay.Goals as goal

pub loop-operation-preserved : goal.loop-operation-preserved
loop-operation-preserved c =
    let op = c.operation-item.result in
    let done = take c.loop-operation.operation-index c.args.operations.now in
    record {
      memory = c.in_ok-perform.ensures.performed ∙ ap (λ words. words_after words op)
          c.loop-operation.invariant.memory
          ∙ sym (words_end-take c.args.opening.now c.args.operations.now c.loop-operation.operation-index op
          c.loop-operation-test.true c.operation-item.is);
      received = c.in_ok-push.ensures.items
          ∙ ap₂ (λ before value. before ++ value ∷ []) c.loop-operation.invariant.received
          (c.in_ok-perform.ensures.received ∙ ap (λ words. flat_received (flat words) op)
          c.loop-operation.invariant.memory)
          ∙ sym (replay-take c.args.opening.now c.args.operations.now c.loop-operation.operation-index op
          c.loop-operation-test.true c.operation-item.is);
    }

pub returns-clause-left : goal.returns-clause-left
returns-clause-left c word =
    let all = take_all c.loop-operation.operation-index c.args.operations.now (omega arith) in
    ap (λ words. flat words word) (c.loop-operation.invariant.memory ∙ ap (words_end c.args.opening.now) all)
    ∙ ap (λ m. m word) (flat-words_end c.args.opening.now c.args.operations.now)

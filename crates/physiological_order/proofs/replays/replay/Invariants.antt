use Rattle.std.proofs.Common.{◌≡◌, take}
use Rattle.physiological_order.specs.Order.{flat, replay}
use Rattle.physiological_order.specs.Words.{words_end}
use Rattle.physiological_order.proofs.replays.replay.Given as goal

abbrev pub invariant-loop-operation : goal.invariant-loop-operation
invariant-loop-operation l = record {
  memory : l.memory ≡ words_end l.fn.opening (take l.operation-index l.operations);
  received : l.received.items ≡ replay (flat l.fn.opening) (take l.operation-index l.operations);
}

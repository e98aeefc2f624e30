use Rattle.std.proofs.Common.{◌≡◌, length}
use Rattle.litmus_reader.specs.ThreadSteps.{settled_thread}
use Rattle.litmus_reader.proofs.threads.run_to_memory_instruction.Given as goal

abbrev pub invariant-loop-cell : goal.invariant-loop-cell
invariant-loop-cell l =
    settled_thread l.fn.thread l.registers l.rest ≡ settled_thread l.fn.thread l.fn.registers l.fn.cells

abbrev pub decreases-loop-cell : goal.decreases-loop-cell
decreases-loop-cell l = length l.rest

use Rattle.std.proofs.Common.{◌≡◌, length}
use Rattle.litmus_reader.specs.Litmus.{settings_of}
use Rattle.litmus_reader.specs.ThreadSteps.{with_items}
use Rattle.litmus_reader.proofs.threads.open_registers.Given as goal

abbrev pub invariant-loop-item : goal.invariant-loop-item
invariant-loop-item l =
    with_items l.fn.thread (settings_of l.left) l.registers ≡ with_items l.fn.thread (settings_of l.fn.items)
    l.fn.registers

abbrev pub decreases-loop-item : goal.decreases-loop-item
decreases-loop-item l = length l.left

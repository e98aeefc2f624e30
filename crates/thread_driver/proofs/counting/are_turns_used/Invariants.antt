use Rattle.thread_driver.specs.Teams.{AreUsed}
use Rattle.thread_driver.proofs.counting.are_turns_used.Given as goal

abbrev pub invariant-loop-i : goal.invariant-loop-i
invariant-loop-i l = AreUsed l.limit l.i l.had

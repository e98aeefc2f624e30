use Rattle.std.proofs.Common.{◌≡◌, ◌-◌, length, drop}
use Rattle.machine_table.specs.Opening.{dram_of}
use Rattle.mailboxes.proofs.opened_dram.open_dram.Given as goal

-- the last words are set
abbrev pub invariant-loop-done : goal.invariant-loop-done
invariant-loop-done l = l.dram ≡ dram_of l.config l.number (drop (length l.words - l.done) l.words)

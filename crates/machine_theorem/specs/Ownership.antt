-- The owners of a line and the coherent value of a word in a state.
use Rattle.std.specs.Prelude.{ℕ, if◌then◌else◌}
use Rattle.std.specs.Ordering.{nat_cmp}
use Rattle.std.specs.FinMap.{FinMap}
use Rattle.network.specs.declared.message.Message.{Message}
use Rattle.network.specs.Search.{is_ownership_of}
use Rattle.machine_table.specs.declared.config.Config.{Config}
use Rattle.machine_theorem.specs.States.{State}
use Rattle.machine_theorem.specs.View.{set_up, line_seen, view}
use Rattle.protocol.specs.Machine as by_line

-- 1 if the message is a grant or a return of the line
abbrev pub ownership_in : ℕ → Message → ℕ
ownership_in line message = if is_ownership_of line message then 1 else 0

-- the owners of a line, by lines: the cores that have an Exclusive copy, and the grants and returns in flight
abbrev pub owners : Config → State → ℕ → ℕ
owners config a line = by_line.owners config.cores (line_seen config a line)

-- the coherent value of a word, by lines: with the line's owner, or in a grant or return in flight, or else in the
-- bank's Shared entry, in a store on its way to DRAM, in DRAM
abbrev pub coherent : Config → FinMap nat_cmp ℕ → State → ℕ → ℕ
coherent config opening a word = by_line.coherent (set_up config opening) config.cores (view config a) word

use Rattle.std.proofs.Common.{◌≡◌, ◌-◌, true}
use Rattle.piece_forms.specs.Forms.{Gives, many}
use Rattle.piece_forms.specs.Reading.{reads}
use Rattle.litmus_parser.specs.Names.{address_of}
use Rattle.litmus_parser.specs.Table.{column}
use Rattle.litmus_parser.proofs.cells.read_thread_cells.Given as goal

-- what is left to read is what all of it reads as
abbrev pub invariant-loop-thread : goal.invariant-loop-thread
invariant-loop-thread l =
    reads (many Gives (λ c. Gives true) (column (address_of l.fn.items) l.fn.threads) (l.fn.threads - l.thread)
    (l.thread, (l.cells.items, l.width))) l.at.line l.at.pieces
    ≡ reads (many Gives (λ c. Gives true) (column (address_of l.fn.items) l.fn.threads) l.fn.threads
    (0, (l.fn.cells.items, l.fn.width))) l.fn.cursor.line l.fn.cursor.pieces

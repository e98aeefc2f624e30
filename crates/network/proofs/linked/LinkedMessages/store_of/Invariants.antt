use Rattle.std.proofs.Common.{◌≡◌, ◌&&◌, option_map}
use Rattle.network.specs.LinkNumbers.{is_below}
use Rattle.network.specs.NumberedMessages.{still_there}
use Rattle.network.specs.Search.{first_message, is_store_of, with_message}
use Rattle.network.specs.Stored.{cell_messages}
use Rattle.network.proofs.linked.LinkedMessages.store_of.Given as goal

abbrev pub invariant-loop-bank : goal.invariant-loop-bank
invariant-loop-bank l = option_map with_message l.found ≡ first_message
    (λ m. is_store_of l.line m && is_below l.self-inside.cores l.self-inside.banks l.bank m)
    (cell_messages l.self-inside.arena.lists (still_there l.self-inside.slots.items))

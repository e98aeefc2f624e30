use Rattle.std.proofs.Common.{◌≡◌, drop}
use Rattle.network.specs.Requests.{is_wanted}
use Rattle.network.specs.NumberedMessages.{still_there}
use Rattle.network.specs.Search.{first_message}
use Rattle.network.specs.Stored.{ArePlaced, cell_messages}
use Rattle.network.proofs.linked.first_wanted_message.Given as goal

abbrev pub invariant-loop-slot : goal.invariant-loop-slot
invariant-loop-slot l = record {
  placed : ArePlaced l.arena.lists (still_there (drop l.slot-index l.slots));
  first : first_message (is_wanted l.wanted) (cell_messages l.arena.lists (still_there (drop l.slot-index l.slots)))
      ≡ first_message (is_wanted l.wanted) (cell_messages l.arena.lists (still_there l.slots));
}

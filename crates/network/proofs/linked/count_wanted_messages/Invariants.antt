use Rattle.std.proofs.Common.{◌≡◌, ◌+◌, ◌≤◌, drop}
use Rattle.network.specs.Requests.{is_wanted}
use Rattle.network.specs.NumberedMessages.{still_there}
use Rattle.network.specs.Search.{count_messages}
use Rattle.network.specs.Stored.{ArePlaced, cell_messages}
use Rattle.network.proofs.linked.count_wanted_messages.Given as goal

abbrev pub invariant-loop-slot : goal.invariant-loop-slot
invariant-loop-slot l = record {
  within : l.count ≤ l.slot-index;
  placed : ArePlaced l.arena.lists (still_there (drop l.slot-index l.slots));
  counted : l.count + count_messages (is_wanted l.wanted) (cell_messages l.arena.lists
      (still_there (drop l.slot-index l.slots))) ≡ count_messages (is_wanted l.wanted)
      (cell_messages l.arena.lists (still_there l.slots));
}

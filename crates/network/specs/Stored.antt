-- How the messages in flight are stored: each with its number in a cell of an arena, on the list of its link; and
-- slots in the order of sending, each with a number and its cell.
use Rattle.std.specs.Prelude.{◌≡◌, ℕ, ◌+◌, ◌*◌, ◌≤◌, ◌<◌, ◌^◌, List, [], ◌∷◌, length, map, filter, get_or, sum_by}
use Rattle.std.specs.Prelude.{Option, Some, None, option_map}
use Rattle.line_arena.specs.Arenas.{Lists}
use Rattle.line_arena.specs.CellLists.{look_up}
use Rattle.network.specs.declared.message.Message.{Message}
use Rattle.network.specs.NumberedMessages.{IsRising, given, still_there}
use Rattle.network.specs.LinkNumbers.{count_links, is_on}
use Rattle.network.specs.Routes.{AllHaveEndpoints}

-- what contracts see: the messages between these cores and banks by rising number, the number that the next one gets,
-- how many messages there is room for, how many slots are kept, and how many there is room for
pub record Linked : Type 0 where
  pub cores : ℕ
  pub banks : ℕ
  pub capacity : ℕ
  pub slots : ℕ
  pub room : ℕ
  pub next : ℕ
  pub messages : List (ℕ × Message)

-- the message that lies in a slot's cell
abbrev pub at_cell : List (List (ℕ × (ℕ × Message))) → Option ℕ → Option Message
at_cell lists None = None
at_cell lists (Some c) = option_map (λ p. p.1) (look_up c lists)

-- the cells of these numbers, each with the number and the message that lie in it
abbrev pub held : List (List (ℕ × (ℕ × Message))) → List (ℕ × ℕ) → List (ℕ × (ℕ × Message))
held lists [] = []
held lists (x ∷ xs) = given x.1 (look_up x.1 lists) (held lists xs)

-- the messages that lie in the cells of these numbers
abbrev pub cell_messages : List (List (ℕ × (ℕ × Message))) → List (ℕ × ℕ) → List (ℕ × Message)
cell_messages lists xs = map (λ a. a.1) (held lists xs)

-- in the cell of each number lies that number, with a message
abbrev pub ArePlaced : List (List (ℕ × (ℕ × Message))) → List (ℕ × ℕ) → Type 0
ArePlaced lists [] = Unit {0}
ArePlaced lists (x ∷ xs) = ((m : Message) × (look_up x.1 lists ≡ Some (x.0, m))) × ArePlaced lists xs

-- what contracts see of what is stored
abbrev pub linked_of : ℕ → ℕ → ℕ → ℕ → List (ℕ × Option ℕ) → Lists (ℕ × Message) → Linked
linked_of cores banks next places slots arena =
    record {
      cores = cores;
      banks = banks;
      capacity = arena.cells;
      slots = length slots;
      room = places;
      next = next;
      messages = cell_messages arena.lists (still_there slots);
    }

-- what is true of the lists and of the numbers with their cells: in each cell lies its number with a message, each list
-- has, in order, the messages of its link, and nothing else is on a list
pub record AreLinked (cores banks : ℕ) (lists : List (List (ℕ × (ℕ × Message)))) (cells : List (ℕ × ℕ)) : Type 0 where
  pub many : length lists ≡ count_links cores banks
  pub placed : ArePlaced lists cells
  pub each : (l : ℕ) → l < length lists → get_or lists l [] ≡ filter (λ a. is_on cores banks l a.1.1) (held lists cells)
  pub total : sum_by length lists ≡ length cells
  pub endpoints : AllHaveEndpoints cores banks (cell_messages lists cells)

-- what is true of all that is stored: the numbers of the slots rise and are below the next one; the slots that still
-- have their cell are as many as the messages, and no more than the arena has cells; at most one slot more than these
-- has none; and there is room for every slot that may be kept and for one more
pub record IsStored (cores banks next count places : ℕ) (slots : List (ℕ × Option ℕ)) (arena : Lists (ℕ × Message)) :
    Type 0 where
  pub most_cores : cores ≤ 64
  pub most_banks : banks ≤ 8
  pub most_cells : arena.cells ≤ 65536
  pub rising : IsRising 0 slots next
  pub numbered : next < 2 ^ 64
  pub counted : count ≡ length (still_there slots)
  pub bounded : count ≤ arena.cells
  pub few : length slots ≤ 2 * count + 1
  pub room : 2 * arena.cells + 2 ≤ places
  pub linked : AreLinked cores banks arena.lists (still_there slots)

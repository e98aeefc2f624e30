-- What can be looked up in a machine. A core or a bank that isn't there has nothing.
use Rattle.std.specs.Prelude.{ℕ, ◌/◌, ◌&&◌, Bool, not, true, false, List, [], Option, Some, None, option_map, slice_get}
use Rattle.std.specs.Prelude.{if◌then◌else◌}
use Rattle.physiological_order.specs.declared.operation.Op.{Op}
use Rattle.physiological_order.specs.Order.{address}
use Rattle.line_sets.specs.SetTable.{all_listed}
use Rattle.network.specs.declared.message.Body.{Body}
use Rattle.network.specs.declared.message.Body.TheVariants.{ShReq, ExReq}
use Rattle.network.specs.declared.message.Message.{Message}
use Rattle.network.specs.declared.message.Node.{Node}
use Rattle.network.specs.declared.message.Node.TheVariants.{Bank}
use Rattle.network.specs.NumberedMessages.{at_number}
use Rattle.private_cache.specs.CopyTable.{victim_for}
use Rattle.core_pts.specs.CoreTable.{CoreState}
use Rattle.core_pts.specs.FreeCopies as core_copies
use Rattle.core_pts.specs.OpenCopy.{waits_without}
use Rattle.llc_bank.specs.BankTable as bank_table
use Rattle.llc_bank.specs.BankTable.{BankState}
use Rattle.llc_bank.specs.Settled.{is_settled}
use Rattle.llc_bank.specs.declared.entry.Entry.{Entry}
use Rattle.llc_bank.specs.declared.entry.Entry.TheVariants.{Loading, Recalling, Storing}
use Rattle.machine_table.specs.declared.event.Event.{Event}
use Rattle.machine_table.specs.declared.event.Event.TheVariants.{Deliver}
use Rattle.machine_table.specs.Machine.{Machine}

-- the copy to evict from a core's cache to make a place for a line, if there is none: the least recently used one
abbrev pub victim_of : ℕ → Option CoreState → Option ℕ
victim_of line None = None
victim_of line (Some core) = victim_for core.cache line

abbrev pub victim : Machine → ℕ → ℕ → Option ℕ
victim m core line = victim_of line (slice_get m.cores core)

-- the copy to evict to make a place for the line of a core's open operation
abbrev pub victim_for_core : Machine → ℕ → Option (Op × Bool) → Option ℕ
victim_for_core m core None = None
victim_for_core m core (Some x) = victim m core (address x.0 / m.config.line_words)

-- whether the machine isn't stopped, and a core's request is out without a copy of its line here
abbrev pub waits_of : Option CoreState → Bool
waits_of None = false
waits_of (Some core) = waits_without core core.open_op

abbrev pub is_waiting : Machine → ℕ → Bool
is_waiting m core = not m.is_stopped && waits_of (slice_get m.cores core)

-- the lines of a core's copies, and those of a bank's entries that are settled, set by set
abbrev pub copies_of : Option CoreState → List ℕ
copies_of None = []
copies_of (Some core) = all_listed (λ copy. true) core.cache.sets

abbrev pub copies : Machine → ℕ → List ℕ
copies m core = copies_of (slice_get m.cores core)

-- of the copies, those that may be evicted: all but that of the core's open operation
abbrev pub free_copies_of : Option CoreState → List ℕ
free_copies_of None = []
free_copies_of (Some core) = core_copies.free_copies core

abbrev pub free_copies : Machine → ℕ → List ℕ
free_copies m core = free_copies_of (slice_get m.cores core)

abbrev pub entries_of : Option BankState → List ℕ
entries_of None = []
entries_of (Some bank) = all_listed is_settled bank.table.sets

abbrev pub entries : Machine → ℕ → List ℕ
entries m bank = entries_of (slice_get m.banks bank)

abbrev pub is_request : Body → Bool
is_request (ShReq pts version) = true
is_request (ExReq version) = true
is_request _ = false

-- the line to evict from a bank so that a request that waits for room there finds it
abbrev pub room_in : ℕ → ℕ → Option BankState → Option (ℕ × ℕ)
room_in b line None = None
room_in b line (Some bank) = option_map (λ victim. (b, victim)) (bank_table.make_room bank line)

abbrev pub room_at : Machine → ℕ → Node → Option (ℕ × ℕ)
room_at m line (Bank b) = room_in b line (slice_get m.banks b)
room_at m line _ = None

abbrev pub room_for_message : Machine → Option Message → Option (ℕ × ℕ)
room_for_message m None = None
room_for_message m (Some message) = if is_request message.body then room_at m message.line message.to else None

abbrev pub make_room : Machine → ℕ → Option (ℕ × ℕ)
make_room m number = room_for_message m (at_number number m.mail.messages)

-- whether something is under way for a line of a bank: it is being loaded, recalled or stored
abbrev pub is_under_way : Option Entry → Bool
is_under_way (Some Loading) = true
is_under_way (Some (Recalling owner)) = true
is_under_way (Some Storing) = true
is_under_way _ = false

abbrev pub waits_in : ℕ → Option BankState → Bool
waits_in line None = false
waits_in line (Some bank) = is_under_way (bank_table.entry_of bank line)

abbrev pub waits_at : Machine → Message → Node → Bool
waits_at m x (Bank b) = is_request x.body && waits_in x.line (slice_get m.banks b)
waits_at m x _ = false

abbrev pub waiting_message : Machine → Option Message → Bool
waiting_message m None = false
waiting_message m (Some x) = waits_at m x x.to

-- whether a message in flight asks a bank for a line for which something is under way
abbrev pub message_waits : Machine → ℕ → Bool
message_waits m number = waiting_message m (at_number number m.mail.messages)

-- whether an event delivers such a message, to a machine that isn't stopped
abbrev pub delivery_waits : Machine → Event → Bool
delivery_waits m (Deliver number) = not m.is_stopped && message_waits m number
delivery_waits m _ = false

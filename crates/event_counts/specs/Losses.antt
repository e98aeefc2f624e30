-- How each core lost its last copy of each line.
use Rattle.std.specs.Prelude.{ℕ, ◌+◌, ◌*◌, ◌^◌, Bool, false, Option, Some, None, is_some, if◌then◌else◌, slice_get}
use Rattle.std.specs.Ordering.{nat_cmp}
use Rattle.std.specs.FinMap.{FinMap, get, insert}
use Rattle.network.specs.declared.message.Message.{Message}
use Rattle.network.specs.declared.message.Node.{Node}
use Rattle.network.specs.declared.message.Node.TheVariants.{Core}
use Rattle.network.specs.NumberedMessages.{at_number}
use Rattle.private_cache.specs.CopyTable.{copy_of}
use Rattle.core_pts.specs.CoreTable.{CoreState}
use Rattle.machine_table.specs.declared.event.Event.{Event}
use Rattle.machine_table.specs.declared.event.Event.TheVariants.{Deliver, EvictCache}
use Rattle.machine_table.specs.Machine.{Machine}
use Rattle.event_counts.specs.declared.cause.Cause.{Cause}
use Rattle.event_counts.specs.declared.cause.Cause.TheVariants as cause

-- the number that stands for a line and a core, which is below 2 ^ 32
abbrev pub key_of : ℕ → ℕ → ℕ
key_of core line = line * 2 ^ 32 + core

-- by core and line, the cause of the misses on a copy that is lost
abbrev pub Lost : Type 0
Lost = FinMap nat_cmp Cause

-- such a map, and for how many more copies it has room
pub record LostCopies : Type 0 where
  pub lost : Lost
  pub room : ℕ

-- how a core lost its last copy of a line, if it ever lost one
abbrev pub loss : Lost → ℕ → ℕ → Option Cause
loss lost core line = get lost (key_of core line)

abbrev pub with_loss : Lost → ℕ → ℕ → Cause → Lost
with_loss lost core line why = insert lost (key_of core line) why

-- whether a core has a copy of a line
abbrev pub has_copy : Option CoreState → ℕ → Bool
has_copy None line = false
has_copy (Some core) line = is_some (copy_of core.cache line)

-- a core and a line, if the core has a copy of it
abbrev pub copy_at : Machine → ℕ → ℕ → Option (ℕ × ℕ)
copy_at m core line = if has_copy (slice_get m.cores core) line then Some (core, line) else None

abbrev pub copy_for : Machine → ℕ → Node → Option (ℕ × ℕ)
copy_for m line (Core core) = copy_at m core line
copy_for m line _ = None

abbrev pub copy_under : Machine → Option Message → Option (ℕ × ℕ)
copy_under m None = None
copy_under m (Some message) = copy_for m message.line message.to

-- the copy that an event may take: the one that it evicts, or that of the delivered message's line at its core
abbrev pub at_risk : Machine → Event → Option (ℕ × ℕ)
at_risk m (EvictCache core line) = copy_at m core line
at_risk m (Deliver number) = copy_under m (at_number number m.mail.messages)
at_risk m _ = None

-- how an event takes a copy: by an eviction, or by a recall that it delivers
abbrev pub taken_by : Event → Cause
taken_by (EvictCache core line) = cause.Evicted
taken_by _ = cause.Recalled

-- the copies that are lost after an event: the one that it may take is lost, if it isn't there on the machine after it
abbrev pub lost_after : Lost → Option (ℕ × ℕ) → Event → Machine → Lost
lost_after lost None event after = lost
lost_after lost (Some copy) event after =
    if has_copy (slice_get after.cores copy.0) copy.1 then lost else with_loss lost copy.0 copy.1 (taken_by event)

-- What an eviction of a copy by a core's seat does.
use Rattle.std.specs.Prelude.{◌≡◌, ℕ, Bool, true, false, cond, Option, Some, None, Result, Ok, Err}
use Rattle.network.specs.declared.message.Message.{Message}
use Rattle.private_cache.specs.declared.cache.CacheError.{CacheError}
use Rattle.private_cache.specs.declared.cache.CacheError.TheVariants.{NoRoom, NotHere, Pinned}
use Rattle.core_pts.specs.CoreTable as core_table
use Rattle.core_pts.specs.CoreTable.{CoreState}
use Rattle.machine_table.specs.declared.event.Refusal.{Refusal}
use Rattle.machine_table.specs.declared.event.Refusal.TheVariants as refusal
use Rattle.mailboxes.specs.declared.sending.SendingCore.{SendingCore}
use Rattle.closed_machine.specs.Sending.{can_send_out, sent_if, sent_out}

-- the copy is gone, and this is sent back, if the seat has a place for it and can still send
abbrev pub sent_back_if_room : SendingCore → CoreState → Option Message → Result (Unit {0}) Refusal × SendingCore
sent_back_if_room part core None = (Ok tt, record part { core = core })
sent_back_if_room part core (Some m) =
    cond (can_send_out part.outbox) (Ok tt, record { core = core; outbox = sent_out part.outbox m })
    (Err refusal.NetworkFull, part)

-- what the core's table says
abbrev pub evicts : SendingCore → Result (Option Message) CacheError × CoreState →
    Result (Unit {0}) Refusal × SendingCore
evicts part (Err NotHere, core) = (Err refusal.NoSuch, part)
evicts part (Err NoRoom, core) = (Err refusal.NoSuch, part)
evicts part (Err Pinned, core) = (Err refusal.Pinned, part)
evicts part (Ok back, core) = sent_back_if_room part core back

abbrev pub evicted_by_core : SendingCore → ℕ → Result (Unit {0}) Refusal × SendingCore
evicted_by_core part line = evicts part (core_table.evict part.core line)

-- a stopped seat refuses
abbrev pub core_evict_answer : Bool → SendingCore → ℕ → Result (Unit {0}) Refusal
core_evict_answer true part line = Err refusal.Stopped
core_evict_answer false part line = (evicted_by_core part line).0

-- the core's table takes the copy out, and what is sent back is sent
abbrev pub TakesOut : SendingCore → ℕ → SendingCore → Type 0
TakesOut p line q =
    (back : Option Message) × (core_table.evict p.core line ≡ (Ok back, q.core)) × (q.outbox ≡ sent_if p.outbox back)

-- whether the copy is sent back
abbrev pub is_sent_back : Result (Option Message) CacheError → Bool
is_sent_back (Ok (Some m)) = true
is_sent_back (Ok None) = false
is_sent_back (Err e) = false

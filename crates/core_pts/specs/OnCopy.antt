-- What an operation and a message do with a core's copy of one line.
use Rattle.std.specs.Prelude.{ℕ, ◌+◌, nat_le, max, Bool, true, false, ◌||◌, ◌&&◌, not, Option, Some, None}
use Rattle.std.specs.Prelude.{if◌then◌else◌}
use Rattle.std.specs.Prelude.{slice_index, slice_set}
use Rattle.physiological_order.specs.declared.operation.Op.{Op}
use Rattle.physiological_order.specs.declared.operation.Op.TheVariants.{Load, Store, Swap}
use Rattle.network.specs.declared.message.TimedLine.{TimedLine}
use Rattle.network.specs.declared.message.Body.{Body}
use Rattle.network.specs.declared.message.Body.TheVariants.{ShRep, ExRep, RenewRep, UpgradeRep, FlushReq, WbReq}
use Rattle.network.specs.declared.message.Body.TheVariants.{FlushRep, WbRep}
use Rattle.private_cache.specs.declared.line_copy.LineCopy.{LineCopy}
use Rattle.private_cache.specs.declared.line_copy.CopyState.{CopyState}
use Rattle.private_cache.specs.declared.line_copy.CopyState.TheVariants.{Shared, Exclusive}
use Rattle.core_pts.specs.declared.decision.CoreReaction.{CoreReaction}
use Rattle.core_pts.specs.declared.decision.CoreReaction.TheVariants.{Arrives, Grants, Returns, Drops, Holds, TooLate}
use Rattle.core_pts.specs.declared.decision.CoreReaction.TheVariants.{NoCase}
use Rattle.private_cache.specs.CopyTable.{arrived, renewed, upgraded, downgraded}
use Rattle.timestamp_manager.specs.Lease.{fits, returned_lease}

abbrev pub is_exclusive : CopyState → Bool
is_exclusive Shared = false
is_exclusive Exclusive = true

-- a copy serves a load if it is owned or leased up to the core's time, and a store or swap if it is owned
abbrev pub serves : Op → ℕ → LineCopy → Bool
serves (Load a) pts copy = is_exclusive copy.state || nat_le pts copy.rts
serves _ pts copy = is_exclusive copy.state

-- the time of a store or swap: after every possible read of the old words; under private writes a core that wrote the
-- words itself needs no later time. Nothing if the sum doesn't fit
abbrev pub write_time : Bool → ℕ → LineCopy → Option ℕ
write_time private_write pts copy =
    if private_write && copy.written then Some (max pts copy.rts)
    else (if fits (copy.rts + 1) then Some (max pts (copy.rts + 1)) else None)

-- the time of an operation that a copy serves
abbrev pub time_of : Bool → ℕ → Op → LineCopy → Option ℕ
time_of private_write pts (Load a) copy = Some (max pts copy.wts)
time_of private_write pts _ copy = write_time private_write pts copy

-- what an operation receives, if its word is at this index of the line
abbrev pub received_at : ℕ → Op → LineCopy → Option ℕ
received_at index (Load a) copy = Some (slice_index copy.words index)
received_at index (Store a v) copy = None
received_at index (Swap a v) copy = Some (slice_index copy.words index)

-- a copy whose word was written at a time
abbrev pub written_at : ℕ → ℕ → ℕ → LineCopy → LineCopy
written_at index ts v copy = record copy { wts = ts; rts = ts; words = slice_set copy.words index v; written = true }

-- a copy that was read at a time: an owner's lease is extended to that time
abbrev pub read_at : ℕ → LineCopy → LineCopy
read_at ts copy = if is_exclusive copy.state then record copy { rts = max ts copy.rts } else copy

abbrev pub copy_after : ℕ → ℕ → Op → LineCopy → LineCopy
copy_after index ts (Load a) copy = read_at ts copy
copy_after index ts (Store a v) copy = written_at index ts v copy
copy_after index ts (Swap a v) copy = written_at index ts v copy

abbrev pub words_of_copy : LineCopy → TimedLine
words_of_copy copy = record { wts = copy.wts; rts = copy.rts; words = copy.words }

-- a reply changes the copy that is there
abbrev pub with_copy : (LineCopy → LineCopy) → Option LineCopy → CoreReaction
with_copy change None = NoCase
with_copy change (Some copy) = Grants (change copy)

-- the bank asks for the line back, and no copy stays
abbrev pub flushed : Option LineCopy → CoreReaction
flushed None = Drops
flushed (Some copy) = if is_exclusive copy.state then Returns None (FlushRep (words_of_copy copy)) else Drops

-- the bank asks for the line back, and a copy stays to be read, leased up to this time, if it fits
abbrev pub returned : LineCopy → Option ℕ → CoreReaction
returned copy None = TooLate
returned copy (Some rts) = Returns (Some (downgraded rts copy)) (WbRep (words_of_copy (downgraded rts copy)))

abbrev pub written_back : ℕ → ℕ → Option LineCopy → CoreReaction
written_back lease until None = Drops
written_back lease until (Some copy) =
    if is_exclusive copy.state then returned copy (returned_lease copy.wts copy.rts until lease) else Drops

-- a message at a core, by whether the open operation is on its line, and the copy of the line
abbrev pub at_core : ℕ → Bool → Option LineCopy → Body → CoreReaction
at_core lease is_open copy (ShRep line) = Arrives (arrived Shared line)
at_core lease is_open copy (ExRep line) = Arrives (arrived Exclusive line)
at_core lease is_open copy (RenewRep rts) = with_copy (renewed rts) copy
at_core lease is_open copy (UpgradeRep rts) = with_copy (upgraded rts) copy
at_core lease is_open copy FlushReq = if is_open then Holds else flushed copy
at_core lease is_open copy (WbReq until) = if is_open then Holds else written_back lease until copy
at_core lease is_open copy _ = NoCase

-- a reaction takes in no reply, and a copy that goes back is there and isn't of the open operation's line
abbrev pub finds_place : (is_open there : Bool) → CoreReaction → Bool
finds_place is_open there (Arrives copy) = false
finds_place is_open there (Grants copy) = false
finds_place is_open there (Returns kept sent) = there && not is_open
finds_place is_open there _ = true

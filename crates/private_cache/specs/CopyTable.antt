-- A private cache by its sets of copies, each from the least recently used copy to the most recently used one, and what
-- each change makes of it.
use Rattle.std.specs.Prelude.{ℕ, ◌%◌, ◌==◌, Bool, true, false, List, [], ◌∷◌, length, Option, Some, None, Result, Ok}
use Rattle.std.specs.Prelude.{Err, if◌then◌else◌}
use Rattle.line_sets.specs.SetTable.{Sets, set_at, look, put, put_within, drop_line, has_place}
use Rattle.network.specs.declared.message.TimedLine.{TimedLine}
use Rattle.private_cache.specs.declared.line_copy.LineCopy.{LineCopy}
use Rattle.private_cache.specs.declared.line_copy.CopyState.{CopyState}
use Rattle.private_cache.specs.declared.line_copy.CopyState.TheVariants.{Shared, Exclusive}
use Rattle.private_cache.specs.declared.cache.CacheError.{CacheError}
use Rattle.private_cache.specs.declared.cache.CacheError.TheVariants.{NoRoom, NotHere, Pinned}

-- the set that a line belongs to: its number over the number of sets
abbrev pub set_of : Sets LineCopy → ℕ → ℕ
set_of cache line = line % length cache.sets

-- the copy of a line
abbrev pub copy_of : Sets LineCopy → ℕ → Option LineCopy
copy_of cache line = look cache.sets (set_of cache line) line

-- there is a copy of the line, or room for one in its set
abbrev pub place_for : Sets LineCopy → ℕ → Bool
place_for cache line = has_place cache (set_of cache line) line

-- the copy of the line is this one, now the most recently used of its set
abbrev pub with_used : Sets LineCopy → ℕ → LineCopy → Sets LineCopy
with_used cache line copy = record cache { sets = put cache.sets (set_of cache line) line copy }

-- the copy of the line is this one, and the order of use stays
abbrev pub with_changed : Sets LineCopy → ℕ → LineCopy → Sets LineCopy
with_changed cache line copy = record cache { sets = put_within cache.sets (set_of cache line) line copy }

-- the copy of the line is gone
abbrev pub without_copy : Sets LineCopy → ℕ → Sets LineCopy
without_copy cache line = record cache { sets = drop_line cache.sets (set_of cache line) line }

-- a copy as it arrives
abbrev pub arrived : CopyState → TimedLine → LineCopy
arrived state line = record { state = state; wts = line.wts; rts = line.rts; words = line.words; written = false }

-- a line arrives: the answer and the cache afterwards, whether there is a place for it or not
abbrev pub filled : Sets LineCopy → ℕ → CopyState → TimedLine → Bool → Result (Unit {0}) CacheError × Sets LineCopy
filled cache line state timed true = (Ok tt, with_used cache line (arrived state timed))
filled cache line state timed false = (Err NoRoom, cache)

-- a changed copy, with the copy of the line that was there
abbrev pub copy_changed :
    Sets LineCopy → ℕ → (LineCopy → LineCopy) → Option LineCopy → Result (Unit {0}) CacheError × Sets LineCopy
copy_changed cache line change None = (Err NotHere, cache)
copy_changed cache line change (Some copy) = (Ok tt, with_changed cache line (change copy))

-- a lease that is renewed
abbrev pub renewed : ℕ → LineCopy → LineCopy
renewed rts copy = record copy { rts = rts }

-- a copy whose core is granted the line
abbrev pub upgraded : ℕ → LineCopy → LineCopy
upgraded rts copy = record copy { state = Exclusive; rts = rts; written = false }

-- a copy whose core returns the line and keeps reading
abbrev pub downgraded : ℕ → LineCopy → LineCopy
downgraded rts copy = record copy { state = Shared; rts = rts; written = false }

-- the line is the pinned one
abbrev pub is_pinned : Option ℕ → ℕ → Bool
is_pinned None line = false
is_pinned (Some pinned) line = pinned == line

-- a copy is evicted, with the copy of the line that was there
abbrev pub evicted : Sets LineCopy → ℕ → Option ℕ → Option LineCopy → Result LineCopy CacheError × Sets LineCopy
evicted cache line pinned None = (Err NotHere, cache)
evicted cache line pinned (Some copy) =
    if is_pinned pinned line then (Err Pinned, cache) else (Ok copy, without_copy cache line)

-- the line of the first copy, the least recently used one
abbrev pub first_line : List (ℕ × LineCopy) → Option ℕ
first_line [] = None
first_line (entry ∷ entries) = Some entry.0

-- the copy to evict for a line: none if there is a place for it
abbrev pub victim_for : Sets LineCopy → ℕ → Option ℕ
victim_for cache line = if place_for cache line then None else first_line (set_at cache.sets (set_of cache line))

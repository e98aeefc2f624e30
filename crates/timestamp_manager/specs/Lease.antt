-- Leases and grants: how far the times of one line go.
use Rattle.std.specs.Prelude.{ℕ, ◌+◌, ◌^◌, ◌==◌, nat_lt, max, Bool, false, ◌&&◌, Option, Some, None, if◌then◌else◌}

-- a time fits 64 bits
abbrev pub fits : ℕ → Bool
fits time = nat_lt time (2 ^ 64)

-- a time that fits, or nothing
abbrev pub if_fits : ℕ → Option ℕ
if_fits time = if fits time then Some time else None

-- whether a copy of this version, if any, has the words of a line written at wts
abbrev pub is_version : ℕ → Option ℕ → Bool
is_version wts None = false
is_version wts (Some version) = version == wts

-- a request to read, at the reader's time pts: the lease goes to the latest of its old end, of a lease from the last
-- write and of one from that time. A reader that has the line's version needs no words
abbrev pub shared_lease : (wts rts pts : ℕ) → Option ℕ → (lease : ℕ) → Option (ℕ × Bool)
shared_lease wts rts pts version lease =
    if fits (wts + lease) && fits (pts + lease)
    then Some (max (max rts (wts + lease)) (pts + lease), is_version wts version)
    else None

-- an owner that returns its line and keeps a copy to read: the lease goes to the latest of its old end, of a lease from
-- the last write and of the time that was asked for
abbrev pub returned_lease : (wts rts until lease : ℕ) → Option ℕ
returned_lease wts rts until lease = if fits (wts + lease) then Some (max (max rts (wts + lease)) until) else None

-- What every lease that is granted keeps.
use Rattle.std.specs.Prelude.{◌≡◌, ◌≢◌, ◌⊎◌, ℕ, ◌+◌, ◌≤◌, ◌<◌, ◌^◌, Bool, false, Option, Some, None}
use Rattle.timestamp_manager.specs.Lease.{shared_lease, returned_lease}

-- a line's lease never falls, and covers a whole lease from the last write and from the reader's time
pub record Covers (wts rts pts lease given : ℕ) : Type 0 where
  pub before : rts ≤ given
  pub from_write : wts + lease ≤ given
  pub from_reader : pts + lease ≤ given

abbrev pub SharedLeaseCovers : Type 0
SharedLeaseCovers =
    (wts rts pts lease : ℕ) (version : Option ℕ) (given : ℕ × Bool) →
    shared_lease wts rts pts version lease ≡ Some given → Covers wts rts pts lease given.0

-- it is no longer: not past a time that none of the three passes
abbrev pub SharedLeaseIsShortest : Type 0
SharedLeaseIsShortest =
    (wts rts pts lease : ℕ) (version : Option ℕ) (given : ℕ × Bool) →
    shared_lease wts rts pts version lease ≡ Some given →
    (time : ℕ) → rts ≤ time → wts + lease ≤ time → pts + lease ≤ time → given.0 ≤ time

-- it is granted exactly if a whole lease from the last write fits 64 bits, and one from the reader's time
abbrev pub SharedLeaseFits : Type 0
SharedLeaseFits =
    (wts rts pts lease : ℕ) (version : Option ℕ) →
    (wts + lease < 2 ^ 64 → pts + lease < 2 ^ 64 → shared_lease wts rts pts version lease ≢ None)
    × ((2 ^ 64 ≤ wts + lease) ⊎ (2 ^ 64 ≤ pts + lease) → shared_lease wts rts pts version lease ≡ None)

-- a reader without a copy is always sent the words
abbrev pub AbsentNeverRenews : Type 0
AbsentNeverRenews =
    (wts rts pts lease : ℕ) (given : ℕ × Bool) → shared_lease wts rts pts None lease ≡ Some given → given.1 ≡ false

-- the lease of a line that is returned never falls, and covers a whole lease from the last write and the time asked
-- for
pub record Reaches (wts rts until lease given : ℕ) : Type 0 where
  pub before : rts ≤ given
  pub from_write : wts + lease ≤ given
  pub asked : until ≤ given

abbrev pub ReturnedLeaseReaches : Type 0
ReturnedLeaseReaches =
    (wts rts until lease given : ℕ) → returned_lease wts rts until lease ≡ Some given →
    Reaches wts rts until lease given

-- it is no longer: not past a time that none of the three passes
abbrev pub ReturnedLeaseIsShortest : Type 0
ReturnedLeaseIsShortest =
    (wts rts until lease given : ℕ) → returned_lease wts rts until lease ≡ Some given →
    (time : ℕ) → rts ≤ time → wts + lease ≤ time → until ≤ time → given ≤ time

-- it is granted exactly if a whole lease from the last write fits 64 bits
abbrev pub ReturnedLeaseFits : Type 0
ReturnedLeaseFits =
    (wts rts until lease : ℕ) →
    (wts + lease < 2 ^ 64 → returned_lease wts rts until lease ≢ None)
    × (2 ^ 64 ≤ wts + lease → returned_lease wts rts until lease ≡ None)

-- What every attempt and every recall keeps.
use Rattle.std.specs.Prelude.{◌≡◌, ℕ, ◌<◌, ◌≤◌, ◌%◌, Bool, true, false, ◌&&◌, Option, Some, None, Ok, Err, ◌+◌}
use Rattle.std.specs.Prelude.{option_map, slice_index}
use Rattle.physiological_order.specs.declared.operation.Op.{Op}
use Rattle.physiological_order.specs.declared.operation.Op.TheVariants.{Load, Store, Swap}
use Rattle.network.specs.declared.message.Node.{Node}
use Rattle.network.specs.declared.message.Body.TheVariants.{FlushReq, WbReq}
use Rattle.network.specs.declared.part.Reaction.TheVariants.{Held}
use Rattle.private_cache.specs.declared.line_copy.LineCopy.{LineCopy}
use Rattle.private_cache.specs.declared.line_copy.CopyState.TheVariants.{Shared, Exclusive}
use Rattle.private_cache.specs.CopyTable.{copy_of}
use Rattle.core_pts.specs.declared.attempt.Attempt.{Attempt}
use Rattle.core_pts.specs.declared.attempt.Attempt.TheVariants.{Completed, NeedShared, NeedExclusive}
use Rattle.core_pts.specs.declared.attempt.IssueError.TheVariants.{Busy, TooMany}
use Rattle.core_pts.specs.CoreTable.{CoreState, line_of, pinned_line, attempt, core_table, issue}

-- an attempt completes this operation on this copy: what it receives, its time, and the core afterwards
pub record Completes
    (core : CoreState) (op : Op) (copy : LineCopy) (received : Option ℕ) (ts : ℕ) (after : CoreState) : Type 0
  where
    pub is_open : core.open_op ≡ Some op
    pub is_there : copy_of core.cache (line_of core op) ≡ Some copy
    pub answer : attempt core ≡ (Some (Completed received ts), after)

-- stores and swaps write their word
abbrev pub is_write : Op → Bool
is_write (Load a) = false
is_write (Store a v) = true
is_write (Swap a v) = true

abbrev pub is_completed : Option Attempt → Bool
is_completed (Some (Completed received ts)) = true
is_completed _ = false

-- an attempt completes nothing but the open operation, and only on a copy of its line
pub record HasCopy (core : CoreState) (received : Option ℕ) (ts : ℕ) (after : CoreState) : Type 0 where
  pub op : Op
  pub copy : LineCopy
  pub completes : Completes core op copy received ts after

abbrev pub CompletesOnCopy : Type 0
CompletesOnCopy =
    (core after : CoreState) (received : Option ℕ) (ts : ℕ) →
    attempt core ≡ (Some (Completed received ts), after) → HasCopy core received ts after

-- a load receives the copy's word, and so does a swap
abbrev pub LoadReceivesWord : Type 0
LoadReceivesWord =
    (core after : CoreState) (a : ℕ) (copy : LineCopy) (received : Option ℕ) (ts : ℕ) →
    Completes core (Load a) copy received ts after → received ≡ Some (slice_index copy.words (a % core.line_words))

abbrev pub SwapReceivesWord : Type 0
SwapReceivesWord =
    (core after : CoreState) (a v : ℕ) (copy : LineCopy) (received : Option ℕ) (ts : ℕ) →
    Completes core (Swap a v) copy received ts after → received ≡ Some (slice_index copy.words (a % core.line_words))

-- a time after the end of a lease, and not before the core's
pub record IsAfterReaders (pts rts ts : ℕ) : Type 0 where
  pub lease : rts < ts
  pub core : pts ≤ ts

-- a time not before the end of a lease, nor before the core's
pub record IsNotBefore (pts rts ts : ℕ) : Type 0 where
  pub lease : rts ≤ ts
  pub core : pts ≤ ts

-- a store or swap comes after every possible read of the words that it overwrites
abbrev pub WriteAfterReaders : Type 0
WriteAfterReaders =
    (core after : CoreState) (op : Op) (copy : LineCopy) (received : Option ℕ) (ts : ℕ) →
    Completes core op copy received ts after → is_write op ≡ true → (core.private_write && copy.written) ≡ false →
    IsAfterReaders core.pts copy.rts ts

-- under private writes, a store or swap on words that the core wrote itself comes not before them
abbrev pub PrivateWriteNotBefore : Type 0
PrivateWriteNotBefore =
    (core after : CoreState) (op : Op) (copy : LineCopy) (received : Option ℕ) (ts : ℕ) →
    Completes core op copy received ts after → is_write op ≡ true → (core.private_write && copy.written) ≡ true →
    IsNotBefore core.pts copy.rts ts

-- a core's time never falls, and is that of the operation that it completed last
pub record IsTimeAfter (core after : CoreState) (ts : ℕ) : Type 0 where
  pub not_before : core.pts ≤ ts
  pub is : after.pts ≡ ts

abbrev pub TimeNeverFalls : Type 0
TimeNeverFalls =
    (core after : CoreState) (op : Op) (copy : LineCopy) (received : Option ℕ) (ts : ℕ) →
    Completes core op copy received ts after → IsTimeAfter core after ts

-- a copy that the core doesn't own is never read past its lease, and never written
abbrev pub SharedReadInLease : Type 0
SharedReadInLease =
    (core after : CoreState) (a : ℕ) (copy : LineCopy) (received : Option ℕ) (ts : ℕ) →
    Completes core (Load a) copy received ts after → copy.state ≡ Shared → core.pts ≤ copy.rts

abbrev pub WritesOwnedCopy : Type 0
WritesOwnedCopy =
    (core after : CoreState) (op : Op) (copy : LineCopy) (received : Option ℕ) (ts : ℕ) →
    Completes core op copy received ts after → is_write op ≡ true → copy.state ≡ Exclusive

-- a recall of the line of the open operation is held, for any copy
abbrev pub FlushOfOpenLineHeld : Type 0
FlushOfOpenLineHeld =
    (core : CoreState) (from to : Node) (line : ℕ) → pinned_line core ≡ Some line →
    core_table core (record { from = from; to = to; line = line; body = FlushReq }) ≡ Some (Held, core)

abbrev pub WriteBackOfOpenLineHeld : Type 0
WriteBackOfOpenLineHeld =
    (core : CoreState) (from to : Node) (line until : ℕ) → pinned_line core ≡ Some line →
    core_table core (record { from = from; to = to; line = line; body = WbReq until }) ≡ Some (Held, core)

-- an idle core takes each operation up to number 4,294,967,295, and no other
pub record IssuesUpToLast (core : CoreState) (op : Op) : Type 0 where
  pub taken : core.issued < 4294967295 → (issue core op).0 ≡ Ok tt
  pub opened : core.issued < 4294967295 → (issue core op).1.open_op ≡ Some op
  pub counted : core.issued < 4294967295 → (issue core op).1.issued ≡ core.issued + 1
  pub refused : 4294967295 ≤ core.issued → (issue core op).0 ≡ Err TooMany

abbrev pub IdleCoreIssues : Type 0
IdleCoreIssues = (core : CoreState) (op : Op) → core.open_op ≡ None → IssuesUpToLast core op

-- a core with an open operation is busy, however many it was issued
abbrev pub OpenCoreIsBusy : Type 0
OpenCoreIsBusy = (core : CoreState) (op other : Op) → core.open_op ≡ Some other → issue core op ≡ (Err Busy, core)

-- the version of the core's copy of an operation's line, if it has one
abbrev pub version_of_copy : CoreState → Op → Option ℕ
version_of_copy core op = option_map (λ copy. copy.wts) (copy_of core.cache (line_of core op))

-- a request to read names the core's time and the version of its copy; one to own names that version
abbrev pub ReadsNameVersion : Type 0
ReadsNameVersion =
    (core after : CoreState) (op : Op) (pts : ℕ) (version : Option ℕ) → core.open_op ≡ Some op →
    attempt core ≡ (Some (NeedShared pts version), after) → (pts ≡ core.pts) × (version ≡ version_of_copy core op)

abbrev pub WritesNameVersion : Type 0
WritesNameVersion =
    (core after : CoreState) (op : Op) (version : Option ℕ) → core.open_op ≡ Some op →
    attempt core ≡ (Some (NeedExclusive version), after) → version ≡ version_of_copy core op

-- an attempt that completes nothing changes nothing
abbrev pub NothingCompletedKeeps : Type 0
NothingCompletedKeeps =
    (core after : CoreState) (answer : Option Attempt) →
    attempt core ≡ (answer, after) → is_completed answer ≡ false → after ≡ core

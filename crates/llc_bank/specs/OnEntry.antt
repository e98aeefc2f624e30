-- What a message and an eviction do with a bank's entry of one line.
use Rattle.std.specs.Prelude.{ℕ, ◌+◌, Bool, true, false, not, ◌&&◌, Option, Some, None, if◌then◌else◌, List}
use Rattle.network.specs.declared.message.TimedLine.{TimedLine}
use Rattle.network.specs.declared.message.Body.{Body}
use Rattle.network.specs.declared.message.Body.TheVariants.{ShReq, ExReq, ShRep, ExRep, RenewRep, UpgradeRep}
use Rattle.network.specs.declared.message.Body.TheVariants.{FlushReq, WbReq, FlushRep, WbRep, DramLdRep, DramStRep}
use Rattle.llc_bank.specs.declared.entry.Entry.{Entry}
use Rattle.llc_bank.specs.declared.entry.Entry.TheVariants.{Loading, Shared, Exclusive, Recalling, Storing}
use Rattle.llc_bank.specs.declared.decision.Decision.{Decision}
use Rattle.llc_bank.specs.declared.decision.Decision.TheVariants.{Waits, Loads, Recalls, Grants, Becomes, Leaves}
use Rattle.llc_bank.specs.declared.decision.Decision.TheVariants.{TooLate, NoCase}
use Rattle.llc_bank.specs.declared.decision.Eviction.{Eviction}
use Rattle.llc_bank.specs.declared.decision.Eviction.TheVariants.{NotThere, IsBusy, Drops, Stores, AsksBack}
use Rattle.timestamp_manager.specs.Lease.{if_fits, is_version, shared_lease}

-- what a reader gets of a line with this lease: a renewal if it has the version, the line if it hasn't
abbrev pub read_answer : (renews : Bool) → TimedLine → Body
read_answer renews line = if renews then RenewRep line.rts else ShRep line

-- a reader of a line gets a lease
abbrev pub leased : Bool → TimedLine → Option (ℕ × Bool) → Decision
leased dirty line None = TooLate
leased dirty line (Some lease) =
    let longer = record line { rts = lease.0 } in
    Grants (Shared dirty longer) (read_answer lease.1 longer)

-- the owner is asked to keep a copy leased to this time, if it fits
abbrev pub asked_back : ℕ → Option ℕ → Decision
asked_back owner None = TooLate
asked_back owner (Some until) = Recalls owner (WbReq until)

-- a request of a line that the bank doesn't have
abbrev pub loaded : (room : Bool) → Decision
loaded room = if room then Loads else Waits

-- a request to read
abbrev pub shared_request : (lease : ℕ) (room : Bool) (pts : ℕ) → Option ℕ → Option Entry → Decision
shared_request lease room pts version None = loaded room
shared_request lease room pts version (Some (Shared dirty line)) =
    leased dirty line (shared_lease line.wts line.rts pts version lease)
shared_request lease room pts version (Some (Exclusive owner)) = asked_back owner (if_fits (pts + lease))
shared_request lease room pts version (Some _) = Waits

-- a request to own
abbrev pub exclusive_request : (room : Bool) (core : ℕ) → Option ℕ → Option Entry → Decision
exclusive_request room core version None = loaded room
exclusive_request room core version (Some (Shared dirty line)) =
    Grants (Exclusive core) (if is_version line.wts version then UpgradeRep line.rts else ExRep line)
exclusive_request room core version (Some (Exclusive owner)) = Recalls owner FlushReq
exclusive_request room core version (Some _) = Waits

-- the owner returns the line: it is dirty from now on
abbrev pub given_back : TimedLine → Option Entry → Decision
given_back line (Some (Exclusive owner)) = Becomes (Shared true line)
given_back line (Some (Recalling owner)) = Becomes (Shared true line)
given_back line _ = NoCase

-- the words come from DRAM, and are valid from the memory time on
abbrev pub filled : ℕ → List ℕ → Option Entry → Decision
filled mts words (Some Loading) = Becomes (Shared false (record { wts = mts; rts = mts; words = words }))
filled mts words _ = NoCase

-- DRAM has the words: the line leaves
abbrev pub stored : Option Entry → Decision
stored (Some Storing) = Leaves
stored _ = NoCase

-- a message at a bank, by whether the line's set has room, the core that a request is from, and the line's entry
abbrev pub at_bank : (lease mts : ℕ) (room : Bool) (core : ℕ) → Option Entry → Body → Decision
at_bank lease mts room core entry (ShReq pts version) = shared_request lease room pts version entry
at_bank lease mts room core entry (ExReq version) = exclusive_request room core version entry
at_bank lease mts room core entry (FlushRep line) = given_back line entry
at_bank lease mts room core entry (WbRep line) = given_back line entry
at_bank lease mts room core entry (DramLdRep words) = filled mts words entry
at_bank lease mts room core entry DramStRep = stored entry
at_bank lease mts room core entry _ = NoCase

abbrev pub evicted : Option Entry → Eviction
evicted None = NotThere
evicted (Some (Shared false line)) = Drops line.rts
evicted (Some (Shared true line)) = Stores line.rts line.words
evicted (Some (Exclusive owner)) = AsksBack owner
evicted (Some _) = IsBusy

-- a decision takes in no reply, and what it writes has a place: an entry that is there is changed, and one that isn't
-- there is loaded and finds room
abbrev pub finds_place : (there room : Bool) → Decision → Bool
finds_place there room Loads = not there && room
finds_place there room (Recalls owner sent) = there
finds_place there room (Grants entry sent) = there
finds_place there room (Becomes entry) = false
finds_place there room Leaves = false
finds_place there room _ = true

-- What a step answers fits what it does.
use Rattle.std.proofs.Common.{Option, Some, None, Result, Ok, Err}
use Rattle.physiological_order.specs.declared.operation.Op.{Op}
use Rattle.network.specs.declared.message.Message.{Message}
use Rattle.network.specs.declared.part.Reaction.{Reaction}
use Rattle.network.specs.declared.part.Reaction.TheVariants as reaction
use Rattle.private_cache.specs.declared.cache.CacheError.{CacheError}
use Rattle.private_cache.specs.declared.cache.CacheError.TheVariants as not_left
use Rattle.core_pts.specs.declared.attempt.Attempt.{Attempt}
use Rattle.core_pts.specs.declared.attempt.Attempt.TheVariants as tries
use Rattle.core_pts.specs.CoreTable.{CoreState, attempt}
use Rattle.llc_bank.specs.declared.entry.Evict.{Evict}
use Rattle.llc_bank.specs.declared.entry.Evict.TheVariants as evict
use Rattle.llc_bank.specs.declared.entry.EvictError.{EvictError}
use Rattle.llc_bank.specs.declared.entry.EvictError.TheVariants as not_evicted
use Rattle.llc_bank.specs.BankTable.{BankState}
use Rattle.machine_table.specs.declared.event.Answer.{Answer}
use Rattle.machine_table.specs.declared.event.Answer.TheVariants as answer
use Rattle.machine_table.specs.declared.event.Refusal.TheVariants as refusal
use Rattle.machine_table.specs.Step as step
use Rattle.machine_table.specs.Step.{Step, Tried}

-- what is answered to a step that changes nothing, and to one that makes a part
pub data Keeping : Answer → Type 0 where
  waits : Keeping answer.Waiting
  idles : Keeping answer.Idle
  holds : Keeping answer.Held
  has_none : Keeping (answer.Refused refusal.NoSuch)
  is_busy : Keeping (answer.Refused refusal.Busy)
  is_pinned : Keeping (answer.Refused refusal.Pinned)
  lacks_room : Keeping (answer.Refused refusal.NoRoom)

pub data Making : Answer → Type 0 where
  requests : Making answer.Requested
  delivers : Making answer.Delivered
  starts : Making answer.Started
  evicts : Making answer.Evicted
  recalls : Making answer.Recalled
  advances : Making answer.Advanced

abbrev pub Fits : {S : Type 0} → Step S → Type 0
Fits (step.Keeps why) = Keeping why
Fits (step.Makes why consumes sends part) = Making why
Fits _ = Unit {0}

abbrev pub FitsTried : Tried → Type 0
FitsTried (step.Completes op received ts after) = Unit {0}
FitsTried (step.Does s) = Fits s

pub reaction_fits : {S : Type 0} (r : Option (Reaction × S)) → Fits (step.reacted r)
reaction_fits None = tt
reaction_fits (Some (reaction.Held, part)) = holds
reaction_fits (Some (reaction.Dropped, part)) = tt
reaction_fits (Some (reaction.Done reply, part)) = delivers
reaction_fits (Some (reaction.HeldAfter started, part)) = starts

pub copy_fits : (r : Result (Option Message) CacheError × CoreState) → Fits (step.copy_evicted r)
copy_fits (Err not_left.Pinned, core) = is_pinned
copy_fits (Err _, core) = has_none
copy_fits (Ok back, core) = evicts

pub entry_fits : (r : Result Evict EvictError × BankState) → Fits (step.entry_evicted r)
entry_fits (Err not_evicted.NotHere, bank) = has_none
entry_fits (Err not_evicted.Busy, bank) = is_busy
entry_fits (Ok (evict.Recalled recall), bank) = recalls
entry_fits (Ok _, bank) = evicts

pub advance_fits : (r : Option (Unit {0}) × CoreState) → Fits (step.advanced r)
advance_fits (None, core) = tt
advance_fits (Some done, core) = advances

pub attempt_fits : (core : CoreState) (o : Option Op) → FitsTried (step.attempt_open core o)
attempt_fits core None = idles
attempt_fits core (Some op) = tried_fits (attempt core)
  where
    tried_fits : (r : Option Attempt × CoreState) → FitsTried (step.attempted core op r)
    tried_fits (None, after) = tt
    tried_fits (Some (tries.Completed received ts), after) = tt
    tried_fits (Some (tries.NeedShared pts version), after) = requests
    tried_fits (Some (tries.NeedExclusive version), after) = requests
    tried_fits (Some tries.NoRoom, after) = lacks_room
    tried_fits (Some tries.Waiting, after) = waits
    tried_fits (Some tries.Idle, after) = idles

-- What an event of a part sends has the endpoints of its kind.
use Rattle.std.specs.Prelude.{ℕ, Bool, true, false, IsTrue, Option, Some, None, Result, Ok}
use Rattle.network.specs.declared.message.Message.{Message}
use Rattle.network.specs.declared.part.Reaction.{Reaction}
use Rattle.network.specs.Routes.{has_endpoints}
use Rattle.private_cache.specs.declared.cache.CacheError.{CacheError}
use Rattle.llc_bank.specs.declared.entry.Evict.{Evict}
use Rattle.llc_bank.specs.declared.entry.Evict.TheVariants as evict
use Rattle.llc_bank.specs.declared.entry.EvictError.{EvictError}
use Rattle.machine_table.specs.Step.{Step, Makes, reacted}

-- by a step of a part
abbrev pub StepHasEndpoints : {S : Type 0} → ℕ → ℕ → Step S → Type 0
StepHasEndpoints cores banks (Makes why consumes (Some message) part) = IsTrue (has_endpoints cores banks message)
StepHasEndpoints cores banks _ = Unit {0}

-- by a reaction to a delivered message
abbrev pub SendsWithEndpoints : ℕ → ℕ → Reaction → Type 0
SendsWithEndpoints cores banks reaction = StepHasEndpoints cores banks (reacted (Some (reaction, tt {0})))

abbrev pub ReactionHasEndpoints : {S : Type 0} → ℕ → ℕ → Option (Reaction × S) → Type 0
ReactionHasEndpoints cores banks None = Unit {0}
ReactionHasEndpoints cores banks (Some reaction) = SendsWithEndpoints cores banks reaction.0

-- by the eviction of a copy, and whether there is such a message
abbrev pub BackHasEndpoints : ℕ → ℕ → Result (Option Message) CacheError → Type 0
BackHasEndpoints cores banks (Ok (Some back)) = IsTrue (has_endpoints cores banks back)
BackHasEndpoints cores banks _ = Unit {0}

abbrev pub is_sent_back : Result (Option Message) CacheError → Bool
is_sent_back (Ok (Some back)) = true
is_sent_back _ = false

-- by the eviction of a bank's line
abbrev pub EvictedHasEndpoints : ℕ → ℕ → Result Evict EvictError → Type 0
EvictedHasEndpoints cores banks (Ok (evict.Stored store)) = IsTrue (has_endpoints cores banks store)
EvictedHasEndpoints cores banks (Ok (evict.Recalled recall)) = IsTrue (has_endpoints cores banks recall)
EvictedHasEndpoints cores banks _ = Unit {0}

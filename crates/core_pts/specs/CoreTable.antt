-- A core as data, and what each event makes of it.
use Rattle.std.specs.Prelude.{ℕ, ◌+◌, ◌-◌, ◌/◌, ◌%◌, ◌^◌, ◌==◌, nat_lt, Bool, true, false, ◌&&◌, Option, Some, None}
use Rattle.std.specs.Prelude.{option_map, Result, Ok, Err, if◌then◌else◌}
use Rattle.physiological_order.specs.declared.operation.Op.{Op}
use Rattle.physiological_order.specs.declared.operation.Op.TheVariants.{Load}
use Rattle.physiological_order.specs.Order.{address}
use Rattle.network.specs.declared.message.Node.{Node}
use Rattle.network.specs.declared.message.Node.TheVariants.{Core, Bank}
use Rattle.network.specs.declared.message.Body.{Body}
use Rattle.network.specs.declared.message.Body.TheVariants.{ShRep, ExRep, RenewRep, UpgradeRep, FlushReq, WbReq}
use Rattle.network.specs.declared.message.Body.TheVariants.{FlushRep}
use Rattle.network.specs.declared.message.Message.{Message}
use Rattle.network.specs.declared.part.Reaction.{Reaction}
use Rattle.network.specs.declared.part.Reaction.TheVariants.{Done, Dropped, Held}
use Rattle.line_sets.specs.SetTable.{Sets, empty_sets}
use Rattle.private_cache.specs.declared.line_copy.LineCopy.{LineCopy}
use Rattle.private_cache.specs.declared.cache.CacheError.{CacheError}
use Rattle.private_cache.specs.declared.cache.Geometry.{Geometry}
pub use Rattle.private_cache.specs.CopyTable.{is_pinned}
use Rattle.private_cache.specs.CopyTable.{copy_of, place_for, with_used, with_changed, without_copy, evicted}
use Rattle.timestamp_manager.specs.Lease.{fits}
use Rattle.core_pts.specs.declared.config.CoreConfig.{CoreConfig}
use Rattle.core_pts.specs.declared.attempt.Attempt.{Attempt}
use Rattle.core_pts.specs.declared.attempt.Attempt.TheVariants.{Completed, NeedShared, NeedExclusive, NoRoom, Waiting}
use Rattle.core_pts.specs.declared.attempt.Attempt.TheVariants.{Idle}
use Rattle.core_pts.specs.declared.attempt.IssueError.{IssueError}
use Rattle.core_pts.specs.declared.attempt.IssueError.TheVariants.{Busy, TooMany}
use Rattle.core_pts.specs.OnCopy.{is_exclusive, serves, time_of, received_at, copy_after, words_of_copy, at_core}
use Rattle.core_pts.specs.declared.decision.CoreReaction.{CoreReaction}
use Rattle.core_pts.specs.declared.decision.CoreReaction.TheVariants.{Arrives, Grants, Returns, Holds, TooLate}

pub record CoreState : Type 0 where
  -- its number, and the numbers that the machine was set up with
  pub number : ℕ
  pub banks : ℕ
  pub line_words : ℕ
  pub lease : ℕ
  pub private_write : Bool
  -- its time
  pub pts : ℕ
  pub cache : Sets LineCopy
  pub open_op : Option Op
  -- whether the request of the open operation is out
  pub is_out : Bool
  -- how many operations it was issued
  pub issued : ℕ

-- a core as it opens: an empty cache, no open operation, nothing issued
abbrev pub opened : CoreConfig → Geometry → CoreState
opened config geometry = record {
  number = config.number;
  banks = config.banks;
  line_words = config.line_words;
  lease = config.lease;
  private_write = config.private_write;
  pts = config.opening_time;
  cache = empty_sets geometry.sets geometry.ways;
  open_op = None;
  is_out = false;
  issued = 0;
}

-- the line of a word, and the word's index in it
abbrev pub line_of : CoreState → Op → ℕ
line_of core op = address op / core.line_words

abbrev pub index_of : CoreState → Op → ℕ
index_of core op = address op % core.line_words

-- the line of the open operation: it is pinned
abbrev pub pinned_line : CoreState → Option ℕ
pinned_line core = option_map (line_of core) core.open_op

-- a message of the core to the bank of a line
abbrev pub to_bank : CoreState → ℕ → Body → Message
to_bank core line body = record { from = Core core.number; to = Bank (line % core.banks); line = line; body = body }

abbrev pub issue_to : CoreState → Op → Option Op → Result (Unit {0}) IssueError × CoreState
issue_to core op (Some other) = (Err Busy, core)
issue_to core op None =
    if nat_lt core.issued (2 ^ 32 - 1) then (Ok tt, record core { open_op = Some op; issued = core.issued + 1 })
    else (Err TooMany, core)

abbrev pub issue : CoreState → Op → Result (Unit {0}) IssueError × CoreState
issue core op = issue_to core op core.open_op

-- the request that an operation needs, by the version of the copy
abbrev pub need : ℕ → Op → Option ℕ → Attempt
need pts (Load a) version = NeedShared pts version
need pts _ version = NeedExclusive version

-- the operation is completed at a time; there is no answer if that doesn't fit: times are exhausted
abbrev pub completed_at : CoreState → Op → LineCopy → Option ℕ → Option Attempt × CoreState
completed_at core op copy None = (None, core)
completed_at core op copy (Some ts) = (
  Some (Completed (received_at (index_of core op) op copy) ts),
  record core {
    pts = ts;
    open_op = None;
    is_out = false;
    cache = with_used core.cache (line_of core op) (copy_after (index_of core op) ts op copy);
  },
)

-- the answer to an attempt if there is no copy, or if the copy doesn't serve the operation
abbrev pub attempt_without : CoreState → Op → Attempt
attempt_without core op =
    if core.is_out then Waiting
    else (if place_for core.cache (line_of core op) then need core.pts op None else NoRoom)

abbrev pub attempt_unserved : CoreState → Op → ℕ → Attempt
attempt_unserved core op version = if core.is_out then Waiting else need core.pts op (Some version)

abbrev pub attempt_on : CoreState → Op → Option LineCopy → Option Attempt × CoreState
attempt_on core op None = (Some (attempt_without core op), core)
attempt_on core op (Some copy) =
    if serves op core.pts copy then completed_at core op copy (time_of core.private_write core.pts op copy)
    else (Some (attempt_unserved core op copy.wts), core)

abbrev pub attempt_open : CoreState → Option Op → Option Attempt × CoreState
attempt_open core None = (Some Idle, core)
attempt_open core (Some op) = attempt_on core op (copy_of core.cache (line_of core op))

abbrev pub attempt : CoreState → Option Attempt × CoreState
attempt core = attempt_open core core.open_op

-- the core advances its time by 1
abbrev pub advance : CoreState → Option (Unit {0}) × CoreState
advance core = if fits (core.pts + 1) then (Some tt, record core { pts = core.pts + 1 }) else (None, core)

-- a copy is evicted: one that is owned is sent back
abbrev pub sent_back :
    CoreState → ℕ → Result LineCopy CacheError × Sets LineCopy → Result (Option Message) CacheError × CoreState
sent_back core line (Err e, cache) = (Err e, record core { cache = cache })
sent_back core line (Ok copy, cache) = (
  Ok (if is_exclusive copy.state then Some (to_bank core line (FlushRep (words_of_copy copy))) else None),
  record core { cache = cache },
)

abbrev pub evict : CoreState → ℕ → Result (Option Message) CacheError × CoreState
evict core line = sent_back core line (evicted core.cache line (pinned_line core) (copy_of core.cache line))

-- the cache with the copy that the core keeps of a line that it returns
abbrev pub kept_in : CoreState → ℕ → Option LineCopy → Sets LineCopy
kept_in core line None = without_copy core.cache line
kept_in core line (Some copy) = with_changed core.cache line copy

-- what a delivered message makes of the core
abbrev pub after_reaction : CoreState → ℕ → CoreReaction → Option (Reaction × CoreState)
after_reaction core line (Arrives copy) =
    Some (Done None, record core { cache = with_used core.cache line copy; is_out = false })
after_reaction core line (Grants copy) =
    Some (Done None, record core { cache = with_changed core.cache line copy; is_out = false })
after_reaction core line (Returns kept sent) =
    Some (Done (Some (to_bank core line sent)), record core { cache = kept_in core line kept })
after_reaction core line Holds = Some (Held, core)
after_reaction core line TooLate = None
after_reaction core line _ = Some (Dropped, core)

abbrev pub decided : CoreState → ℕ → Body → CoreReaction
decided core line body = at_core core.lease (is_pinned (pinned_line core) line) (copy_of core.cache line) body

abbrev pub core_table : CoreState → Message → Option (Reaction × CoreState)
core_table core m = after_reaction core m.line (decided core m.line m.body)

-- a reply comes only to a core that waits for it: with a request out for the line of its open operation
abbrev pub waits_for : CoreState → ℕ → Bool
waits_for core line = core.is_out && is_pinned (pinned_line core) line

abbrev pub is_shared_copy : Option LineCopy → Bool
is_shared_copy None = false
is_shared_copy (Some copy) = if is_exclusive copy.state then false else true

abbrev pub is_this_core : ℕ → Node → Bool
is_this_core number (Core c) = c == number
is_this_core number _ = false

-- the kinds of message that come to a core, and when
abbrev pub comes_to_core : CoreState → ℕ → Body → Bool
comes_to_core core line (ShRep x) = waits_for core line && place_for core.cache line
comes_to_core core line (ExRep x) = waits_for core line && place_for core.cache line
comes_to_core core line (RenewRep rts) = waits_for core line && is_shared_copy (copy_of core.cache line)
comes_to_core core line (UpgradeRep rts) = waits_for core line && is_shared_copy (copy_of core.cache line)
comes_to_core core line FlushReq = true
comes_to_core core line (WbReq rts) = true
comes_to_core core line _ = false

abbrev pub core_has_case : CoreState → Message → Bool
core_has_case core m = is_this_core core.number m.to && comes_to_core core m.line m.body

-- whether a message is a reply of a bank
abbrev pub is_reply : Body → Bool
is_reply (ShRep line) = true
is_reply (ExRep line) = true
is_reply (RenewRep rts) = true
is_reply (UpgradeRep rts) = true
is_reply _ = false

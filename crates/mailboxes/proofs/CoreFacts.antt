-- What is known of a core's seat, from what it stores and from the reached state that it stands in: what it does is a
-- move, after which it stores what it holds.
use Rattle.std.proofs.Common.{◌≡◌, ℕ, ◌%◌, ◌<◌, Bool, true, false, if◌then◌else◌, List, [], ◌∷◌, ◌++◌, Option}
use Rattle.std.proofs.Common.{Some, None, Result, Ok, Err, option_map, refl, sym, ap, ◌∙◌, subst}
use Rattle.physiological_order.specs.declared.operation.Op.{Op}
use Rattle.network.specs.declared.message.Node.TheVariants.{Core, Bank}
use Rattle.network.specs.declared.message.Message.{Message}
use Rattle.network.specs.declared.part.Reaction.{Reaction}
use Rattle.line_sets.specs.SetTable.{Sets}
use Rattle.private_cache.specs.declared.line_copy.LineCopy.{LineCopy}
use Rattle.private_cache.specs.declared.cache.CacheError.{CacheError}
use Rattle.private_cache.specs.CopyTable.{copy_of, evicted}
use Rattle.core_pts.specs.declared.attempt.IssueError.{IssueError}
use Rattle.core_pts.specs.declared.attempt.IssueError.TheVariants.{Busy, TooMany}
use Rattle.core_pts.specs.declared.decision.CoreReaction.{CoreReaction}
use Rattle.core_pts.specs.declared.decision.CoreReaction.TheVariants.{Arrives}
use Rattle.core_pts.specs.CoreTable as core_table
use Rattle.core_pts.specs.CoreTable.{CoreState, after_reaction, core_has_case, decided, line_of, pinned_line, sent_back}
use Rattle.core_pts.specs.CoreTable.{to_bank}
use Rattle.core_pts.specs.OnCopy.{is_exclusive}
use Rattle.machine_table.specs.Step.{Advancing, Attempting, Does, Evicting, Getting, Makes}
use Rattle.machine_table.specs.Step.{advanced, asks, copy_evicted}
use Rattle.machine_table.specs.declared.event.Answer.TheVariants.{Advanced, Evicted}
use Rattle.inbox.specs.declared.answer.Answer.{Answer}
use Rattle.inbox.specs.declared.answer.Refusal.{Refusal}
use Rattle.inbox.specs.declared.answer.Served.{Served}
use Rattle.inbox.specs.Inboxes.{InboxState}
use Rattle.inbox.specs.Serving.{HaveCases, Place, places}
use Rattle.inbox.specs.Effects.{Effect, LiesAt, messages_of}
use Rattle.seat_views.proofs.Lemmas.{some_is}
use Rattle.seat_rule.specs.declared.views.SetUp.{SetUp}
use Rattle.seat_rule.specs.declared.views.Hold.{Hold}
use Rattle.seat_rule.specs.Found.{MessagesFindParts}
use Rattle.seat_rule.specs.Plays.{Standing}
use Rattle.seat_rule.specs.Rule.{bag_of_hold, seat_count}
use Rattle.seat_rule.specs.SeatMoves.{SeatMove, core_steps, issues, sorts}
use Rattle.machine_theorem.specs.Staying.{CoresStay}
use Rattle.closed_machine.specs.Sending.{OutboxState, sent_if}
use Rattle.mailboxes.specs.declared.machine.Machine.{Machine}
use Rattle.mailboxes.specs.declared.mailbox.Mailbox.{Mailbox}
use Rattle.mailboxes.specs.declared.core_seat.CoreSeat.{CoreSeat}
use Rattle.mailboxes.specs.declared.sending.SendingCore.{SendingCore}
use Rattle.mailboxes.specs.Attempts.{Asks, asking}
use Rattle.mailboxes.specs.BoxMoves.{hold}
use Rattle.mailboxes.specs.CoreCalls.{issue_answer}
use Rattle.mailboxes.specs.CoreServing.{CorePartOf, IsCoreMail, sending_core_has_case, sending_core_table}
use Rattle.mailboxes.specs.Evictions.{TakesOut}
use Rattle.mailboxes.specs.Places.{AllLinked}
use Rattle.mailboxes.specs.Stored.{stored_core}
use Rattle.mailboxes.proofs.FoundMessages.{ends, finds, have_cases, lies_own}
use Rattle.mailboxes.proofs.MessageEnds.{core_goes, core_sends_to, own_core}
use Rattle.mailboxes.proofs.NewSeats.{none_some}
use Rattle.mailboxes.proofs.Reactions.{Did, Sends, did, sends, sends_none}
use Rattle.mailboxes.proofs.ServedParts.{Settled, answer_moves, answer_settles, by_answer, hold_sends, hold_stays}
use Rattle.mailboxes.proofs.ServedParts.{sent_settles, stays_settled, table_did}
use Rattle.mailboxes.proofs.StoredSeats.{core_stays}

-- The tables

-- a message leaves the core's open operation
abbrev open_in : CoreState → Option (Reaction × CoreState) → Option Op
open_in core None = core.open_op
open_in core (Some r) = r.1.open_op

open_stays : (core : CoreState) (line : ℕ) (d : CoreReaction) →
    open_in core (after_reaction core line d) ≡ core.open_op
open_stays core line (Arrives copy) = refl
open_stays core line _ = refl

-- and so does an eviction
back_keeps : (core : CoreState) (line : ℕ) (r : Result LineCopy CacheError × Sets LineCopy) →
    (sent_back core line r).1.open_op ≡ core.open_op
back_keeps core line (Err x, cache) = refl
back_keeps core line (Ok copy, cache) = refl

pub evicted_open : (p q : SendingCore) (line : ℕ) → TakesOut p line q → q.core.open_op ≡ p.core.open_op
evicted_open p q line t =
    sym (ap (λ (r : Result (Option Message) CacheError × CoreState). r.1.open_op) t.1)
    ∙ back_keeps p.core line (evicted p.core.cache line (pinned_line p.core) (copy_of p.core.cache line))

-- what is sent back goes to the bank of the line
back_is : (b : Bool) (x m : Message) → (if b then Some x else None) ≡ Some m → x ≡ m
back_is true x m e = some_is e
back_is false x m e = none_some e

abbrev got : Result (Option Message) CacheError → Option Message
got (Ok back) = back
got (Err e) = None

back_goes : (core : CoreState) (line : ℕ) (r : Result LineCopy CacheError × Sets LineCopy) (m : Message) →
    got (sent_back core line r).0 ≡ Some m → m.to ≡ Bank (line % core.banks)
back_goes core line (Err x, cache) m e = none_some e
back_goes core line (Ok copy, cache) m e = ap (λ (y : Message). y.to) (sym (back_is (is_exclusive copy.state) _ m e))

-- an issue that isn't refused is done
pub issued_well : (stopped : Bool) (r : Result (Unit {0}) IssueError) → Ok tt ≡ issue_answer stopped r → r ≡ Ok tt
issued_well true r e = absurd cc
issued_well false (Err Busy) e = absurd cc
issued_well false (Err TooMany) e = absurd cc
issued_well false (Ok tt) e = refl

-- the open operation that was looked at
pub opened_is : (o : Option Op) (out other : Bool) (op : Op) →
    option_map {U = Op × Bool} (λ x. (x, out)) o ≡ Some (op, other) →
    o ≡ Some op
opened_is None out other op e = none_some e
opened_is (Some x) out other op e = ap (λ (y : Op × Bool). Some y.0) (some_is e)

-- all that a core sends goes to the outbox
core_sends : (out now : OutboxState) (sent : Option Message) → now ≡ sent_if out sent → Sends true out sent None now
core_sends out now None is = sends_none true out now is
core_sends out now (Some m) is = subst (Sends true out (Some m) None) (sym is) (sends true out (Some m))

-- what the seat stores besides the messages that came in
pub part_of : (p : CoreSeat) → CorePartOf p.mail p.part p.issued.items
part_of p = record {
  tied = record {
    core = p.tied.core;
    issued = p.tied.issued;
    records = refl;
    outbox = p.tied.outbox;
    counts = p.tied.counts;
  };
  linked = p.linked;
}

-- The seat

module _ (m : Machine) (b : Mailbox) (p : SendingCore) (ops : List Op) (is : IsCoreMail m b)
    (has : CorePartOf b p ops) where
  abbrev z : SetUp
  z = m.set_up

  abbrev pub seat_number : ℕ
  seat_number = b.seat.me.0.number

  abbrev before : Hold
  before = stored_core (hold b) p ops b.inbox

  abbrev after : SendingCore → InboxState Message → Hold
  after q c = stored_core (hold b) q ops c

  -- the parts of these
  abbrev parts : CoreState → Hold
  parts core = record (hold b) { core = core; issued = ops }

  -- a move from what the seat stores is one from what it holds
  stored : (a : Hold) → SeatMove z b.number before a → SeatMove z seat_number (hold b) a
  stored a move =
      subst (λ (y : ℕ × Hold). SeatMove z y.0 y.1 a)
      (λ i. (sym b.tied.number i, core_stays b p p ops b.inbox has (refl, refl) i)) move

  -- the core is given its next operation
  pub issue_moves : (core : CoreState) (op : Op) (later : List Op) → core_table.issue p.core op ≡ (Ok tt, core) →
      later ≡ ops ++ op ∷ [] → SeatMove z seat_number (hold b)
      (stored_core (hold b) (record { core = core; outbox = p.outbox }) later b.inbox)
  issue_moves core op later done more =
      stored _ (issues op is.1 done more (record { bank = refl; dram = refl })
      (record { bag = λ f. refl; counts = refl }))

  -- the core's time goes on by itself
  pub advance_moves : (core : CoreState) → core_table.advance p.core ≡ (Some tt, core) →
      SeatMove z seat_number (hold b) (after (record { core = core; outbox = p.outbox }) b.inbox)
  advance_moves core done =
      stored _ (core_steps Advancing (bag_of_hold before) (Makes Advanced false None core) is.1 refl
      (ap (λ r. Does (advanced r)) done) (refl, record { bag = λ f. refl; counts = refl }) refl
      (record { bank = refl; dram = refl }))

  -- the request of the open operation is sent
  pub ask_moves : (q : SendingCore) (request : Message) → Asks p.core request → q.core ≡ asking p.core →
      q.outbox ≡ sent_if p.outbox (Some request) → SeatMove z seat_number (hold b) (after q b.inbox)
  ask_moves q request does now sent =
      stored _ (core_steps Attempting (bag_of_hold before) (asks p.core does.op does.body) is.1 refl does.step (
        now,
        hold_sends true p.outbox q.outbox b.inbox b.inbox (parts p.core) (parts q.core)
            (Some (to_bank p.core (line_of p.core does.op) does.body)) None (messages_of b.inbox)
            (subst (λ x. Sends true p.outbox (Some x) None q.outbox) does.request
            (core_sends p.outbox q.outbox (Some request) sent)) (λ f. refl),
      ) refl (record { bank = refl; dram = refl }))

  -- a copy is taken out
  pub evict_moves : (q : SendingCore) (line : ℕ) → TakesOut p line q →
      SeatMove z seat_number (hold b) (after q b.inbox)
  evict_moves q line t =
      stored _ (core_steps (Evicting line) (bag_of_hold before) (Makes Evicted false t.0 q.core) is.1 refl
      (ap (λ r. Does (copy_evicted r)) t.1) (
        refl,
        hold_sends true p.outbox q.outbox b.inbox b.inbox (parts p.core) (parts q.core) t.0 None (messages_of b.inbox)
            (core_sends p.outbox q.outbox t.0 t.2) (λ f. refl),
      ) refl (record { bank = refl; dram = refl }))

  -- what the table said where this was answered
  core_did : (x : Message) (n : ℕ) (answer : Answer Message) (q : SendingCore) →
      sending_core_table p x n ≡ (answer, q) →
      Did true p.outbox p.core (core_table.core_table p.core x) answer q.core q.outbox
  core_did x n answer q e =
      did true p.outbox p.core n (core_table.core_table p.core x) answer q.core q.outbox
      (ap (λ (y : Answer Message × SendingCore). (y.0, y.1.core, y.1.outbox)) e)

  module _ (found : MessagesFindParts) where
    -- Messages

    -- each that came in goes to the core, which has a case for it
    here : (at : Place) (x : Message) → LiesAt b.inbox at x →
        (x.to ≡ Core b.number) × (core_has_case p.core x ≡ true)
    here at x lies =
        let to = own_core b.cores b.number x.to (subst (λ k. b.number < k) (sym is.0.2) is.1) (lies_own b at x lies) in
        (to, sym (ap (λ y. core_has_case y x) has.tied.core) ∙ ((finds found m b is.2 at x lies).core to).1)

    pub all_cases : HaveCases sending_core_has_case b.inbox p
    all_cases = have_cases sending_core_has_case b.inbox p (λ at x lies. (here at x lies).1)

    -- what was sent to a bank has a link
    pub linked_after : (q : SendingCore) (sent : Option Message) (d : ℕ) → q.outbox ≡ sent_if p.outbox sent →
        ((s : Message) → sent ≡ Some s → s.to ≡ Bank d) →
        Standing z (seat_count z) seat_number (after q b.inbox) → AllLinked b.cores b.banks b.number q.outbox.messages
    linked_after q sent d out to standing =
        (sent_settles true b.cores b.banks b.number p.outbox q.outbox b.inbox b.inbox b.own has.linked
        (ends found m b is.0 seat_number (after q b.inbox) standing) sent None (core_sends p.outbox q.outbox sent out)
        (λ f. refl)
        (λ s e. core_goes b.cores b.banks b.number s d (subst (λ k. b.number < k) (sym is.0.2) is.1) (to s e))).1

    pub asked_linked : (q : SendingCore) (request : Message) → Asks p.core request →
        q.outbox ≡ sent_if p.outbox (Some request) → Standing z (seat_count z) seat_number (after q b.inbox) →
        AllLinked b.cores b.banks b.number q.outbox.messages
    asked_linked q request does sent standing =
        linked_after q (Some request) (line_of p.core does.op % p.core.banks) sent
        (λ s e. ap (λ (y : Message). y.to) (sym (some_is e) ∙ does.request)) standing

    pub evicted_linked : (q : SendingCore) (line : ℕ) → TakesOut p line q →
        Standing z (seat_count z) seat_number (after q b.inbox) → AllLinked b.cores b.banks b.number q.outbox.messages
    evicted_linked q line t standing =
        linked_after q t.0 (line % p.core.banks) t.2
        (λ s e. back_goes p.core line (evicted p.core.cache line (pinned_line p.core) (copy_of p.core.cache line)) s
        (ap (λ (r : Result (Option Message) CacheError × CoreState). got r.0) t.1 ∙ e)) standing

    -- A serving

    module _ (stay : CoresStay) (result : Result Served Refusal) (c : InboxState Message) (q : SendingCore)
        (effect : Effect sending_core_table b.inbox p result c q) where
      pub serve_moves : SeatMove z seat_number (hold b) (after q c)
      serve_moves =
          stored (after q c) (by_answer sending_core_table b.inbox p result c q
          (λ at x answer asked before left.
          let case = here at x asked.0 in
          answer_moves true p.outbox q.outbox b.inbox c z b.number (parts p.core) (parts q.core) p.core q.core
          (core_table.core_table p.core x) x
          (λ rest s apart gives sent.
          core_steps (Getting x) rest s is.1 (apart, case.0, case.1) (ap Does gives) sent refl
          (record { bank = refl; dram = refl }))
          (stay.stays p.core x) at answer
          (core_did x (places b.inbox.held at) answer q asked.1) before left)
          (λ same stays.
          sorts (record { core = ap (λ (y : SendingCore). y.core) stays; issued = refl })
          (record { bank = refl; dram = refl })
          (hold_stays true p.outbox q.outbox b.inbox c (parts p.core) (parts q.core) same
          (ap (λ (y : SendingCore). y.outbox) stays)))
          effect)

      pub serve_settled : Standing z (seat_count z) seat_number (after q c) →
          Settled true b.cores b.banks b.number p.outbox q.outbox b.inbox c b.own has.linked
      serve_settled standing =
          by_answer sending_core_table b.inbox p result c q
          (λ at x answer asked before left.
          answer_settles true b.cores b.banks b.number p.outbox q.outbox b.inbox c b.own has.linked
          (ends found m b is.0 seat_number (after q c) standing) p.core q.core (core_table.core_table p.core x) x
          (λ s sent. core_goes b.cores b.banks b.number s (x.line % p.core.banks)
          (subst (λ k. b.number < k) (sym is.0.2) is.1) (core_sends_to p.core x s sent))
          at answer (core_did x (places b.inbox.held at) answer q asked.1) before left)
          (λ same stays. stays_settled true b.cores b.banks b.number p.outbox q.outbox b.inbox c b.own has.linked same
          (ap (λ (y : SendingCore). y.outbox) stays))
          effect

      -- the open operation is the same
      pub serve_open : q.core.open_op ≡ p.core.open_op
      serve_open =
          by_answer sending_core_table b.inbox p result c q
          (λ at x answer asked before left.
          let r = core_table.core_table p.core x in
          let some = table_did true p.outbox q.outbox p.core q.core r b.inbox c at answer
          (core_did x (places b.inbox.held at) answer q asked.1) left in
          sym (ap (open_in p.core) some.1) ∙ open_stays p.core x.line (decided p.core x.line x.body))
          (λ same stays. ap (λ (y : SendingCore). y.core.open_op) stays)
          effect

-- A core whose copy serves its open operation: its next attempt completes it, and no other event changes that. So it is
-- once a reply has come.
use Rattle.std.proofs.Common.{arith, ◌+◌, ◌≡◌, ◌≢◌, ℕ, ◌-◌, ◌^◌, ◌<◌, Bool, true, false, ◌&&◌, cond, eqb, nat_lt, List}
use Rattle.std.proofs.Common.{[], ◌∷◌, length, Option, Some, None, Ok, Err, ◌⊎◌, inl, inr, refl, sym, ap, ◌∙◌, subst}
use Rattle.std.proofs.Common.{⊎_elim, set, option_map, nat_cmp, slice_get, rules}
use Rattle.std.specs.FinMap.{FinMap}
use Rattle.std.proofs.lemmas.Bool.{and_parts, cases_eq, cond_both, cond-false, eq-eqb, eqb-true}
use Rattle.std.proofs.lemmas.Option.{get_or_from_slice_get, slice_get_within}
use Rattle.physiological_order.specs.declared.operation.Op.{Op}
use Rattle.network.specs.declared.message.Body.{Body}
use Rattle.network.specs.declared.message.Body.TheVariants as body
use Rattle.network.specs.declared.message.Message.{Message}
use Rattle.network.specs.declared.message.Node.{Node}
use Rattle.network.specs.declared.message.Node.TheVariants as node
use Rattle.network.specs.NumberedMessages.{at_number}
use Rattle.line_sets.specs.SetTable.{Sets}
use Rattle.timestamp_manager.specs.Lease.{returned_lease}
use Rattle.private_cache.specs.declared.line_copy.LineCopy.{LineCopy}
use Rattle.private_cache.specs.CopyTable as cache
use Rattle.private_cache.specs.CopyTable.{copy_of, is_pinned}
use Rattle.core_pts.specs.declared.attempt.IssueError.TheVariants as not_issued
use Rattle.core_pts.specs.declared.decision.CoreReaction.TheVariants.{Returns, Drops as CoreDrops}
use Rattle.core_pts.specs.OnCopy as on_copy
use Rattle.core_pts.specs.OnCopy.{is_exclusive}
use Rattle.core_pts.specs.CoreTable as core_table
use Rattle.core_pts.specs.CoreTable.{CoreState, comes_to_core, core_has_case, pinned_line, waits_for}
use Rattle.llc_bank.specs.BankTable as bank_table
use Rattle.llc_bank.specs.BankTable.{core_of}
use Rattle.dram_mts.specs.Table.{dram_has_case, dram_table}
use Rattle.machine_table.specs.declared.config.Config.{Config}
use Rattle.machine_table.specs.declared.event.Answer.{Answer}
use Rattle.machine_table.specs.declared.event.Answer.TheVariants.{Delivered}
use Rattle.machine_table.specs.declared.event.Event.{Event}
use Rattle.machine_table.specs.declared.event.Event.TheVariants.{Issue, Attempt as AttemptOf, Deliver, EvictCache}
use Rattle.machine_table.specs.declared.event.Event.TheVariants.{EvictBank, Advance}
use Rattle.machine_table.specs.declared.event.Refusal.TheVariants as refusal
use Rattle.machine_table.specs.Machine.{Machine, operation_of, with_core, with_bank, with_dram}
use Rattle.machine_table.specs.Opening.{at_start, open_core}
use Rattle.machine_table.specs.Posted.{can_post, posted}
use Rattle.machine_table.specs.Runs.{after_all}
use Rattle.machine_table.specs.SetUp.{is_good}
use Rattle.machine_table.specs.Step as step
use Rattle.machine_table.specs.Step.{Step, Tried, Completes, Does, Getting, Attempting, attempted, copy_evicted}
use Rattle.machine_table.specs.Step.{reacted, core_step, record_of}
use Rattle.machine_table.specs.Transition.{changed, deliver_to, gets, if_there, issued, on_event, refused, tried}
use Rattle.machine_table.specs.Transition.{transition}
use Rattle.machine_table.proofs.Lemmas.{core_acts, finds}
use Rattle.protocol.proofs.Lemmas.{of_core-own, Some_injective}
use Rattle.machine_theorem.specs.Cases.{takes as takes_case, has_case, has_case_at}
use Rattle.machine_theorem.specs.Kept.{Invariant}
use Rattle.machine_theorem.specs.Replies.{AdvancesBetween, IsAnswered, IsAside, IsReply}
use Rattle.machine_theorem.specs.States.{seen}
use Rattle.machine_theorem.specs.Unstuck.{CompletesIn}
use Rattle.machine_theorem.proofs.Bags.{bag-taken}
use Rattle.machine_theorem.proofs.Deliveries.{and_right, serving_attempt, Suits}
use Rattle.machine_theorem.proofs.Events.{any_transition, invariant}
use Rattle.machine_theorem.proofs.FoundCases.{messages_find_cases}
use Rattle.machine_theorem.proofs.Histories.{reached_history}
use Rattle.machine_theorem.proofs.Lookups.{change_now, drop_now, each_at_number, get-set_other, get-set_same}
use Rattle.machine_theorem.proofs.Openings.{at_start_invariant, fair}
use Rattle.machine_theorem.proofs.Parts.{core_shape}
use Rattle.machine_theorem.proofs.SetUps.{after_all_same}
use Rattle.machine_theorem.proofs.SuitedReplies.{Reads, SuitsBy, SuitsIn, events_suit}
use Rattle.machine_theorem.proofs.Taken.{Takes, takes}

pub record Ready (c : ℕ) (op : Op) (cores : List CoreState) : Type 0 where
  pub core : CoreState
  pub at : slice_get cores c ≡ Some core
  pub opens : core.open_op ≡ Some op
  pub quiet : core.is_out ≡ false
  pub held : LineCopy
  pub has : copy_of core.cache (core_table.line_of core op) ≡ Some held
  pub serves : on_copy.serves op core.pts held ≡ true

-- the part that a step makes
abbrev IfMakes : {S : Type 0} → (S → Type 0) → Step S → Type 0
IfMakes P (step.Makes why consumes sends part) = P part
IfMakes P _ = Unit {0}

module _ (c : ℕ) (op : Op) where
  abbrev Completed : Machine → Machine → Type 0
  Completed m last = CompletesIn c op m last ⊎ (last.is_stopped ≡ true)

  -- its attempt
  pub ready_completes : (m : Machine) → Ready c op m.cores → Completed m (transition m (AttemptOf c)).1
  ready_completes m k = cond_both m.is_stopped (refused m refusal.Stopped) (on_event m (AttemptOf c))
      (λ (o : Answer × Machine). Completed m o.1) (λ stopped. inr stopped)
      (λ runs. subst (λ (o : Answer × Machine). Completed m o.1) (sym tries)
      (go (on_copy.time_of core.private_write core.pts op k.held)))
    where
      core : CoreState
      core = k.core

      tries : on_event m (AttemptOf c) ≡ tried m c core (attempted core op (core_table.completed_at core op k.held
          (on_copy.time_of core.private_write core.pts op k.held)))
      tries = finds m (λ x. tried m c x (core_step x Attempting)) k.at
          ∙ ap (tried m c core) (serving_attempt core op k.held k.opens k.has k.serves)

      go : (time : Option ℕ) →
          Completed m (tried m c core (attempted core op (core_table.completed_at core op k.held time))).1
      go None = inr refl
      go (Some ts) = inl (record {
        completion = record_of c (length m.records) core op
            (on_copy.received_at (core_table.index_of core op) op k.held) ts;
        its_operation = refl;
        records = of_core-own c m.records _ refl;
        closed = ap operation_of (get-set_same m.cores c _ core k.at);
      })

  -- another event
  module _ (m : Machine) (s : Invariant m) (k : Ready c op m.cores) where
    abbrev Stays : Answer × Machine → Type 0
    Stays o = Ready c op o.1.cores

    other : (d : ℕ) → d ≢ c → (part : CoreState) → Ready c op (set m.cores d part)
    other d ne part = search (rules, get-set_other)

    step_stays : {S : Type 0} (put : S → Machine) (n : Option ℕ) (done : Step S) →
        IfMakes (λ part. Ready c op (put part).cores) done → Stays (changed m put n done)
    step_stays put n (step.Makes why consumes sends part) makes =
        cond_both (can_post m.config.messages m.mail consumes sends)
        (why, record (put part) { mail = posted m.mail n consumes sends }) (refused m refusal.NetworkFull) Stays
        (λ e. makes) (λ e. k)
    step_stays put n _ makes = k

    -- whatever a part does, if it is another
    any_step : {S : Type 0} (put : S → Machine) → ((part : S) → Ready c op (put part).cores) → (n : Option ℕ)
        (done : Step S) → Stays (changed m put n done)
    any_step put puts n (step.Makes why consumes sends part) =
        step_stays put n (step.Makes why consumes sends part) (puts part)
    any_step put puts n _ = k

    try_stays : (d : ℕ) → d ≢ c → (core : CoreState) (t : Tried) → Stays (tried m d core t)
    try_stays d ne core (Completes p received ts after) = other d ne after
    try_stays d ne core (Does done) = any_step (with_core m d) (other d ne) None done

    -- the core's own cache, where its copy stays
    own : (new : Sets LineCopy) →
        copy_of new (core_table.line_of k.core op) ≡ copy_of k.core.cache (core_table.line_of k.core op) →
        Ready c op (set m.cores c (record (k.core) { cache = new }))
    own new same = record {
      core = record (k.core) { cache = new };
      at = get-set_same m.cores c _ k.core k.at;
      opens = k.opens;
      quiet = k.quiet;
      held = k.held;
      has = same ∙ k.has;
      serves = k.serves;
    }

    some : 0 < length k.core.cache.sets
    some = (core_shape m s c k.core k.at).sets

    off : (line : ℕ) → is_pinned (pinned_line k.core) line ≡ false → core_table.line_of k.core op ≢ line
    off line unpinned e = absurd (let z : eqb (core_table.line_of k.core op) line ≡ true = eq-eqb _ _ e in
        let w : eqb (core_table.line_of k.core op) line ≡ false =
        sym (ap (λ (o : Option Op). is_pinned (option_map (core_table.line_of k.core) o) line) k.opens) ∙ unpinned in
        cc)

    abbrev Makes : Step CoreState → Type 0
    Makes done = IfMakes (λ part. Ready c op (set m.cores c part)) done

    without : (line : ℕ) → is_pinned (pinned_line k.core) line ≡ false →
        Ready c op (set m.cores c (record (k.core) { cache = cache.without_copy k.core.cache line }))
    without line unpinned = own (cache.without_copy k.core.cache line)
        ((drop_now (λ i. i) k.core.cache.sets some line).there (core_table.line_of k.core op) (off line unpinned))

    changes : (line : ℕ) → is_pinned (pinned_line k.core) line ≡ false → (copy old : LineCopy) →
        copy_of k.core.cache line ≡ Some old →
        Ready c op (set m.cores c (record (k.core) { cache = cache.with_changed k.core.cache line copy }))
    changes line unpinned copy old there = own (cache.with_changed k.core.cache line copy)
        ((change_now (λ i. i) k.core.cache.sets some line copy old there).there (core_table.line_of k.core op)
        (off line unpinned))

    no_reply : (line : ℕ) (place : Bool) → (waits_for k.core line && place) ≡ true → ⊥
    no_reply line place has =
        absurd (let z = (and_parts k.core.is_out _ (and_parts (waits_for k.core line) place has).0).0 in
        let w : true ≡ false = sym z ∙ k.quiet in cc)

    by_body : (line : ℕ) (b : Body) → comes_to_core k.core line b ≡ true → (pin : Bool) →
        is_pinned (pinned_line k.core) line ≡ pin → (o : Option LineCopy) → copy_of k.core.cache line ≡ o →
        Makes (reacted (core_table.after_reaction k.core line (on_copy.at_core k.core.lease pin o b)))
    by_body line (body.ShRep y) has pin is o there = absurd (no_reply line _ has)
    by_body line (body.ExRep y) has pin is o there = absurd (no_reply line _ has)
    by_body line (body.RenewRep rts) has pin is o there = absurd (no_reply line _ has)
    by_body line (body.UpgradeRep rts) has pin is o there = absurd (no_reply line _ has)
    by_body line body.FlushReq has true is o there = tt
    by_body line body.FlushReq has false is None there = tt
    by_body line body.FlushReq has false is (Some copy) there = cond_both (is_exclusive copy.state)
        (Returns None (body.FlushRep (on_copy.words_of_copy copy))) CoreDrops
        (λ r. Makes (reacted (core_table.after_reaction k.core line r))) (λ ex. without line is) (λ sh. tt)
    by_body line (body.WbReq until) has true is o there = tt
    by_body line (body.WbReq until) has false is None there = tt
    by_body line (body.WbReq until) has false is (Some copy) there = cond_both (is_exclusive copy.state)
        (on_copy.returned copy (returned_lease copy.wts copy.rts until k.core.lease)) CoreDrops
        (λ r. Makes (reacted (core_table.after_reaction k.core line r)))
        (λ ex. go (returned_lease copy.wts copy.rts until k.core.lease)) (λ sh. tt)
      where
        go : (rts : Option ℕ) → Makes (reacted (core_table.after_reaction k.core line (on_copy.returned copy rts)))
        go None = tt
        go (Some rts) = changes line is (cache.downgraded rts copy) copy there
    by_body line _ has pin is o there = tt

    evicts : (line : ℕ) (o : Option LineCopy) → Makes (copy_evicted (core_table.sent_back k.core line
        (cache.evicted k.core.cache line (pinned_line k.core) o)))
    evicts line None = tt
    evicts line (Some copy) = cond_both (is_pinned (pinned_line k.core) line) _ _
        (λ r. Makes (copy_evicted (core_table.sent_back k.core line r))) (λ pinned. tt)
        (λ unpinned. without line unpinned)

    -- by whether it is this core that takes a step
    if_core : (d : ℕ) (does : CoreState → Answer × Machine) → (d ≢ c → (core : CoreState) → Stays (does core)) →
        (d ≡ c → Stays (does k.core)) → Stays (if_there m (slice_get m.cores d) does)
    if_core d does apart itself = ⊎_elim
        (λ (e : d ≡ c). subst (λ (o : Option CoreState). Stays (if_there m o does))
        (sym (ap (slice_get m.cores) e ∙ k.at)) (itself e))
        (λ (ne : d ≡ c → ⊥). by_core (slice_get m.cores d) ne) (cases_eq d c)
      where
        by_core : (o : Option CoreState) → d ≢ c → Stays (if_there m o does)
        by_core None ne = k
        by_core (Some core) ne = apart ne core

    issue_stays : (d : ℕ) → d ≢ c → (p : Op) (core : CoreState) (o : Option Op) →
        Stays (issued m d p (core_table.issue_to core p o))
    issue_stays d ne p core (Some old) = k
    issue_stays d ne p core None = cond_both (nat_lt core.issued (2 ^ 32 - 1))
        (Ok tt, record core { open_op = Some p; issued = core.issued + 1 }) (Err not_issued.TooMany, core)
        (λ r. Stays (issued m d p r)) (λ few. other d ne _) (λ many. k)

    got : {S : Type 0} (put : S → Machine) (n : ℕ) (has : Bool) (r : Step S) →
        (has ≡ true → Stays (changed m put (Some n) r)) →
        Stays (cond has (changed m put (Some n) r) (refused m refusal.NoSuch))
    got put n has r stays = cond_both has (changed m put (Some n) r) (refused m refusal.NoSuch) Stays stays (λ e. k)

    if_part : {S : Type 0} (o : Option S) (does : S → Answer × Machine) → ((part : S) → Stays (does part)) →
        Stays (if_there m o does)
    if_part None does each = k
    if_part (Some part) does each = each part

    delivered : (n : ℕ) (x : Message) (to : Node) → Stays (deliver_to m n x to)
    delivered n x (node.Core d) = if_core d _
        (λ ne core. got (with_core m d) n (core_has_case core x) (reacted (core_table.core_table core x))
        (λ has. any_step (with_core m d) (other d ne) (Some n) (reacted (core_table.core_table core x))))
        (λ e. got (with_core m d) n (core_has_case k.core x) (reacted (core_table.core_table k.core x))
        (λ has. rw e (step_stays (with_core m c) (Some n) (reacted (core_table.core_table k.core x))
        (by_body x.line x.body (and_right (core_table.is_this_core k.core.number x.to) _ has)
        (is_pinned (pinned_line k.core) x.line) refl (copy_of k.core.cache x.line) refl))))
    delivered n x (node.Bank i) = if_part (slice_get m.banks i) (λ bank. gets m (with_bank m i) n
        (bank_table.bank_has_case bank x) (bank_table.bank_table bank x))
        (λ bank. got (with_bank m i) n (bank_table.bank_has_case bank x) (reacted (bank_table.bank_table bank x))
        (λ has. any_step (with_bank m i) (λ part. k) (Some n) (reacted (bank_table.bank_table bank x))))
    delivered n x (node.Dram i) = if_part (slice_get m.drams i) (λ lines. gets m (with_dram m i) n
        (dram_has_case lines x) (dram_table lines x))
        (λ lines. got (with_dram m i) n (dram_has_case lines x) (reacted (dram_table lines x))
        (λ has. any_step (with_dram m i) (λ part. k) (Some n) (reacted (dram_table lines x))))

    event_stays : (e : Event) → IsAside c e → Stays (on_event m e)
    event_stays (Issue d p) aside = if_core d _ (λ ne core. issue_stays d ne p core core.open_op)
        (λ e. subst (λ (o : Option Op). Stays (issued m d p (core_table.issue_to k.core p o))) (sym k.opens) k)
    event_stays (AttemptOf d) aside = if_core d _ (λ ne core. try_stays d ne core (step.attempt_open core core.open_op))
        (λ e. absurd (aside e))
    event_stays (Deliver n) aside = if_part (at_number n m.mail.messages) _ (λ x. delivered n x x.to)
    event_stays (EvictCache d line) aside = if_core d _
        (λ ne core. any_step (with_core m d) (other d ne) None (copy_evicted (core_table.evict core line)))
        (λ e. rw e (step_stays (with_core m c) None (copy_evicted (core_table.evict k.core line))
        (evicts line (copy_of k.core.cache line))))
    event_stays (EvictBank i line) aside = if_part (slice_get m.banks i) _
        (λ bank. any_step (with_bank m i) (λ part. k) None (step.entry_evicted (bank_table.evict bank line)))
    event_stays (Advance d) aside = if_core d _
        (λ ne core. any_step (with_core m d) (other d ne) None (step.advanced (core_table.advance core)))
        (λ e. absurd (aside e))

    pub ready_stays : (e : Event) → IsAside c e → Ready c op (transition m e).1.cores
    ready_stays e aside = cond_both m.is_stopped (refused m refusal.Stopped) (on_event m e) Stays (λ stopped. k)
        (λ runs. event_stays e aside)

  pub ready_answered : (m : Machine) → Invariant m → Ready c op m.cores → IsAnswered c op m
  ready_answered m s k [] aside = ready_completes m k
  ready_answered m s k (e ∷ events) aside =
      ready_answered (transition m e).1 (any_transition m s e) (ready_stays m s k e aside.0) events aside.1

-- what the delivery of a reply makes of a machine
pub record Replied (m : Machine) (n c : ℕ) : Type 0 where
  pub op : Op
  pub opens : operation_of (slice_get m.cores c) ≡ Some op
  pub delivered : (transition m (Deliver n)).0 ≡ Delivered
  pub ready : Ready c op (transition m (Deliver n)).1.cores

-- a core that waits
pub record Waits (m : Machine) (c : ℕ) : Type 0 where
  pub core : CoreState
  pub at : slice_get m.cores c ≡ Some core
  pub out : core.is_out ≡ true
  pub op : Op
  pub opens : core.open_op ≡ Some op

-- a reply that is in flight after any events
module _ (config : Config) (good : is_good config ≡ true) (opening : FinMap nat_cmp ℕ) (events : List Event)
    (between : AdvancesBetween (at_start config opening) events) where
  abbrev m : Machine
  m = after_all (at_start config opening) events

  s : Invariant m
  s = invariant config opening events good

  module _ (n c : ℕ) (x : Message) (number : at_number n m.mail.messages ≡ Some x) (to : x.to ≡ node.Core c)
      (reply : IsReply x.body) where
    abbrev core : CoreState
    core = (seen m).cores c

    suits : SuitsIn (seen m).cores x
    suits = each_at_number (λ y. SuitsIn (seen m).cores y.1) n m.mail.messages x number
        (events_suit (at_start config opening) (at_start_invariant config opening (fair config good)) tt events between)
        (λ k q. q)

    waits : (line : ℕ) (b : Body) → IsReply b → comes_to_core core line b ≡ true → waits_for core line ≡ true
    waits line (body.ShRep y) is has = (and_parts (waits_for core line) _ has).0
    waits line (body.ExRep y) is has = (and_parts (waits_for core line) _ has).0
    waits line (body.RenewRep rts) is has = (and_parts (waits_for core line) _ has).0
    waits line (body.UpgradeRep rts) is has = (and_parts (waits_for core line) _ has).0
    waits line _ is has = absurd is

    module _ (at : slice_get m.cores c ≡ Some core) (has : core_has_case core x ≡ true) where
      waiting : waits_for core x.line ≡ true
      waiting = waits x.line x.body reply (and_right (core_table.is_this_core core.number x.to) _ has)

      suited : (op : Op) → core.open_op ≡ Some op → Suits op core.pts x.body
      suited op opens = go x.body reply suits
        where
          out : core.is_out ≡ true
          out = (and_parts core.is_out _ waiting).0

          its : core_of x.to ≡ c
          its = ap core_of to

          go : (b : Body) → IsReply b → SuitsBy ((seen m).cores (core_of x.from)) ((seen m).cores (core_of x.to)) b →
              Suits op core.pts b
          go (body.ShRep y) is k = subst (λ (i : ℕ). Reads ((seen m).cores i) y.rts) its k op opens out
          go (body.RenewRep rts) is k = subst (λ (i : ℕ). Reads ((seen m).cores i) rts) its k op opens out
          go (body.ExRep y) is k = tt
          go (body.UpgradeRep rts) is k = tt
          go _ is k = absurd is

      pinned : (o : Option Op) → core.open_op ≡ o → is_pinned (option_map (core_table.line_of core) o) x.line ≡ true
      pinned o opens = sym (ap (λ (i : Option Op). is_pinned (option_map (core_table.line_of core) i) x.line) opens)
          ∙ and_right core.is_out _ waiting

      waits_for_it : (o : Option Op) → core.open_op ≡ o → Waits m c
      waits_for_it None opens = absurd (let z : false ≡ true = pinned None opens in cc)
      waits_for_it (Some op) opens = search (rules, and_parts, waiting)

      replied : m.is_stopped ≡ false → (op : Op) → core.open_op ≡ Some op → Replied m n c
      replied runs op opens = record {
        op = op;
        opens = ap operation_of at ∙ opens;
        delivered = ap (λ (o : Answer × Machine). o.0) happens;
        ready = subst (λ (o : Answer × Machine). Ready c op o.1.cores) (sym happens) (record {
          core = part;
          at = get-set_same m.cores c part core at;
          opens = opens;
          quiet = refl;
          held = t.held;
          has = ap (copy_of t.cache) on_line ∙ t.has;
          serves = t.serves op (suited op opens);
        });
      }
        where
          below : c < config.cores
          below = let z = slice_get_within m.cores c core at in let y = s.core_count in
              let w = ap (λ (f : Config). f.cores) (after_all_same (at_start config opening) events).config in
              omega (arith, z, y, w)

          t : Takes config good opening c below core x
          t = takes config good opening c below (seen m) (reached_history config opening events good) x _
              (bag-taken n m.mail.messages x number) to reply

          part : CoreState
          part = record core { cache = t.cache; is_out = false }

          on_line : core_table.line_of core op ≡ x.line
          on_line = eqb-true (core_table.line_of core op) x.line (pinned (Some op) opens)

          happens : transition m (Deliver n) ≡ changed m (with_core m c) (Some n) (step.Makes Delivered true None part)
          happens = cond-false m.is_stopped (refused m refusal.Stopped) (on_event m (Deliver n)) runs
              ∙ core_acts m c core at (Getting x) (Some n) (step.Makes Delivered true None part) (number, to, has)
              t.done

    found : (core_has_case core x ≡ true) × (slice_get m.cores c ≡ Some core)
    found = by_core (slice_get m.cores c) refl (subst (λ (i : Node). has_case_at m x i ≡ true) to
        (each_at_number (λ y. has_case m y.1 ≡ true) n m.mail.messages x number (messages_find_cases m s) (λ k q. q)))
      where
        by_core : (o : Option CoreState) → slice_get m.cores c ≡ o → takes_case core_has_case o x ≡ true →
            (core_has_case core x ≡ true) × (slice_get m.cores c ≡ Some core)
        by_core None at has = absurd (let z : false ≡ true = has in cc)
        by_core (Some it) at has =
            let here : core ≡ it = get_or_from_slice_get m.cores c it (open_core m.config c) at in (
              ap (λ (k : CoreState). core_has_case k x) here ∙ has,
              at ∙ ap (λ (k : CoreState). Some k) (sym here),
            )

    pub reply_waits : Waits m c
    reply_waits = waits_for_it found.1 found.0 core.open_op refl

    pub reply_comes : m.is_stopped ≡ false → Replied m n c
    reply_comes runs = search (rules, reply_waits, Some_injective, found, replied)

    pub reply_completes : m.is_stopped ≡ false → (op : Op) × (operation_of (slice_get m.cores c) ≡ Some op)
        × ((transition m (Deliver n)).0 ≡ Delivered) × IsAnswered c op (transition m (Deliver n)).1
    reply_completes runs =
        let k = reply_comes runs in
        (k.op, k.opens, k.delivered, ready_answered c k.op _ (any_transition m s (Deliver n)) k.ready)

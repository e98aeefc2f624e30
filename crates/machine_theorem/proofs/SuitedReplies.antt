-- Each request to read and each reply in flight serves the operation of the core that waits: no time is too early, as
-- long as cores advance only between operations.
use Rattle.std.proofs.Common.{ℕ, Bool, true, false, cond, nat_lt, List, Option, subst, arith, le_refl, le_trans, IfSome}
use Rattle.std.proofs.Common.{◌≡◌, ◌≢◌, ◌+◌, ◌-◌, ◌^◌, ◌≤◌, eqb, [], ◌∷◌, ◌++◌, Some, None, Ok, Err, refl, sym, ap, ◌∙◌}
use Rattle.std.specs.List.{slice_get, AllByRecursion as Each}
use Rattle.std.proofs.lemmas.Bool.{cond_both, cond-true, eq-eqb}
use Rattle.std.proofs.lemmas.Option.{get_or_from_slice_get, slice_get_within}
use Rattle.physiological_order.specs.declared.operation.Op.{Op}
use Rattle.physiological_order.specs.declared.operation.Op.TheVariants.{Load, Store, Swap}
use Rattle.network.specs.declared.message.Body.{Body}
use Rattle.network.specs.declared.message.Body.TheVariants as body
use Rattle.network.specs.declared.message.Message.{Message}
use Rattle.network.specs.declared.part.Reaction.{Reaction}
use Rattle.network.specs.declared.message.Node.{Node}
use Rattle.network.specs.declared.message.Node.TheVariants as node
use Rattle.network.specs.NumberedMessages.{at_number, without_number}
use Rattle.timestamp_manager.specs.Lease.{fits}
use Rattle.private_cache.specs.declared.line_copy.LineCopy.{LineCopy}
use Rattle.private_cache.specs.CopyTable as cache
use Rattle.private_cache.specs.CopyTable.{copy_of, is_pinned, place_for}
use Rattle.core_pts.specs.declared.attempt.Attempt.TheVariants as tries
use Rattle.core_pts.specs.declared.attempt.IssueError.TheVariants as not_issued
use Rattle.core_pts.specs.declared.decision.CoreReaction.{CoreReaction}
use Rattle.core_pts.specs.declared.decision.CoreReaction.TheVariants.{Arrives, Grants, Returns}
use Rattle.core_pts.specs.OnCopy as on_copy
use Rattle.core_pts.specs.OnCopy.{serves}
use Rattle.core_pts.specs.CoreTable as core_table
use Rattle.core_pts.specs.CoreTable.{CoreState, core_has_case, pinned_line}
use Rattle.llc_bank.specs.BankTable as bank_table
use Rattle.llc_bank.specs.BankTable.{bank_has_case, core_of}
use Rattle.dram_mts.specs.Table.{dram_has_case, dram_table}
use Rattle.machine_table.specs.declared.event.Answer.{Answer}
use Rattle.machine_table.specs.declared.event.Event.{Event}
use Rattle.machine_table.specs.declared.event.Event.TheVariants.{Issue, Attempt as AttemptOf, Deliver, EvictCache}
use Rattle.machine_table.specs.declared.event.Event.TheVariants.{EvictBank, Advance}
use Rattle.machine_table.specs.declared.event.Refusal.TheVariants as refusal
use Rattle.machine_table.specs.declared.event.Answer.TheVariants as answer
use Rattle.machine_table.specs.Machine.{Machine, operation_of, with_core, with_bank, with_dram}
use Rattle.machine_table.specs.Opening.{open_core}
use Rattle.machine_table.specs.Posted.{can_post, left, posted}
use Rattle.machine_table.specs.Runs.{after_all}
use Rattle.machine_table.specs.Step as step
use Rattle.machine_table.specs.Step.{Step, attempt_open, attempted, advanced, copy_evicted, entry_evicted, reacted}
use Rattle.machine_table.specs.Transition.{changed, deliver_to, gets, if_there, issued, on_event, refused, tried}
use Rattle.machine_table.specs.Transition.{transition}
use Rattle.protocol.specs.Machine as by_line
use Rattle.protocol.proofs.Lemmas.{about, one_if, reachable_blocked, reachable_ok, with_at_cases, with_at_same}
use Rattle.protocol.proofs.Lemmas.{Some_injective}
use Rattle.machine_theorem.specs.Bags.{bag_of, weigh}
use Rattle.machine_theorem.specs.Kept.{Invariant}
use Rattle.machine_theorem.specs.Replies.{IsBetween, AdvancesBetween}
use Rattle.machine_theorem.specs.States.{State, seen}
use Rattle.machine_theorem.specs.View.{body_seen, message_seen, set_up, view}
use Rattle.machine_theorem.proofs.Deliveries.{of_line, line_weighs}
use Rattle.machine_theorem.proofs.Events.{any_transition}
use Rattle.machine_theorem.proofs.Lookups.{each_at_number}
use Rattle.machine_theorem.proofs.PartChanges.{itself, core_put}
use Rattle.machine_theorem.proofs.Parts.{core_shape}
use Rattle.machine_theorem.proofs.SentMessages.{AsksFor, Leases, SentAs, Sends, bank_gets, copy_leaves, core_gets}
use Rattle.machine_theorem.proofs.SentMessages.{dram_gets, line_leaves}

-- while its request is out, the core reads at a time that isn't past this one
abbrev pub Reads : CoreState → ℕ → Type 0
Reads core time = (op : Op) → core.open_op ≡ Some op → core.is_out ≡ true → (a : ℕ) × (op ≡ Load a) × (core.pts ≤ time)

-- the core that a message comes from, or the one that it goes to, reads by the time that the message names
abbrev pub SuitsBy : CoreState → CoreState → Body → Type 0
SuitsBy from to (body.ShReq pts version) = Reads from pts
SuitsBy from to (body.ShRep line) = Reads to line.rts
SuitsBy from to (body.RenewRep rts) = Reads to rts
SuitsBy from to _ = Unit {0}

abbrev pub SuitsIn : (ℕ → CoreState) → Message → Type 0
SuitsIn cores x = SuitsBy (cores (core_of x.from)) (cores (core_of x.to)) x.body

abbrev pub Suited : Machine → Type 0
Suited m = Each (λ y. SuitsIn (seen m).cores y.1) m.mail.messages

-- as cores change
abbrev Eased : (ℕ → CoreState) → (ℕ → CoreState) → Type 0
Eased f g = (d time : ℕ) → Reads (f d) time → Reads (g d) time

eased : (f g : ℕ → CoreState) → Eased f g → (x : Message) → SuitsIn f x → SuitsIn g x
eased f g e x k = go x.body k
  where
    go : (b : Body) → SuitsBy (f (core_of x.from)) (f (core_of x.to)) b →
        SuitsBy (g (core_of x.from)) (g (core_of x.to)) b
    go (body.ShReq pts version) k = e (core_of x.from) pts k
    go (body.ShRep line) k = e (core_of x.to) line.rts k
    go (body.RenewRep rts) k = e (core_of x.to) rts k
    go _ k = tt

quiet_reads : (core : CoreState) → core.is_out ≡ false → (time : ℕ) → Reads core time
quiet_reads core quiet time op opens out = absurd (let z : true ≡ false = sym out ∙ quiet in cc)

pub each_mapped : {X : Type 0} (P Q : X → Type 0) → ((x : X) → P x → Q x) → (xs : List X) → Each P xs → Each Q xs
each_mapped P Q f [] k = tt
each_mapped P Q f (x ∷ xs) k = (f x k.0, each_mapped P Q f xs k.1)

pub each_zipped : {X : Type 0} (P Q R : X → Type 0) → ((x : X) → P x → Q x → R x) → (xs : List X) → Each P xs →
    Each Q xs → Each R xs
each_zipped P Q R f [] p q = tt
each_zipped P Q R f (x ∷ xs) p q = (f x p.0 q.0, each_zipped P Q R f xs p.1 q.1)

module _ (P : ℕ × Message → Type 0) where
  pub each_without : (n : ℕ) (ms : List (ℕ × Message)) → Each P ms → Each P (without_number n ms)
  each_without n [] k = tt
  each_without n (x ∷ xs) k = cond_both (eqb x.0 n) xs (x ∷ without_number n xs) (Each P) (λ here. k.1)
      (λ off. (k.0, each_without n xs k.1))

  pub each_sent : (z : ℕ × Message) (ms : List (ℕ × Message)) → Each P ms → P z → Each P (ms ++ z ∷ [])
  each_sent z [] k p = (p, tt)
  each_sent z (x ∷ xs) k p = (k.0, each_sent z xs k.1 p)

  abbrev pub AnySent : Option Message → Type 0
  AnySent None = Unit {0}
  AnySent (Some q) = (n : ℕ) → P (n, q)

  module _ (m : Machine) (n : Option ℕ) (so : Each P m.mail.messages) where
    pub left_each : Each P (left m.mail n).messages
    left_each = go n
      where
        go : (n : Option ℕ) → Each P (left m.mail n).messages
        go None = so
        go (Some i) = each_without i m.mail.messages so

    pub posted_each : (consumes : Bool) (sends : Option Message) → AnySent sends →
        Each P (posted m.mail n consumes sends).messages
    posted_each true None p = left_each
    posted_each false None p = so
    posted_each true (Some q) p = each_sent (m.mail.next, q) (left m.mail n).messages left_each (p m.mail.next)
    posted_each false (Some q) p = each_sent (m.mail.next, q) m.mail.messages so (p m.mail.next)

-- a message at its own line
pub own_line : (w : by_line.Message → ℕ) (x : Message) → of_line x.line w x ≡ w (message_seen x)
own_line w x = cond-true (eqb x.line x.line) _ 0 (eq-eqb x.line x.line refl)

-- no message weighs anything
none_weighs : (w : by_line.Message → ℕ) (ms : List (ℕ × Message)) → ((l : ℕ) → weigh (of_line l w) (bag_of ms) ≡ 0) →
    Each (λ y. w (message_seen y.1) ≡ 0) ms
none_weighs w [] none = tt
none_weighs w (y ∷ ys) none = (
  let z = none y.1.line in let u = own_line w y.1 in omega (arith, z, u),
  none_weighs w ys (λ l. let z = none l in omega (arith, z)),
)

-- a message that isn't about the core that changes
apart : (c : ℕ) (f g : ℕ → CoreState) → ((d : ℕ) → d ≢ c → f d ≡ g d) → (x : Message) →
    about c (message_seen x) ≡ 0 → SuitsIn f x → SuitsIn g x
apart c f g same x none k = go x.body none k
  where
    at_other : (d : ℕ) → one_if (eqb d c) ≡ 0 → (time : ℕ) → Reads (f d) time → Reads (g d) time
    at_other d z time = subst (λ (core : CoreState). Reads core time)
        (same d (λ e. absurd (let w : one_if (eqb d c) ≡ 1 = ap one_if (eq-eqb d c e) in omega (arith, z, w))))

    go : (b : Body) → about c (body_seen (core_of x.from) (core_of x.to) b) ≡ 0 →
        SuitsBy (f (core_of x.from)) (f (core_of x.to)) b → SuitsBy (g (core_of x.from)) (g (core_of x.to)) b
    go (body.ShReq pts version) z k = at_other (core_of x.from) z pts k
    go (body.ShRep line) z k = at_other (core_of x.to) z line.rts k
    go (body.RenewRep rts) z k = at_other (core_of x.to) z rts k
    go _ z k = tt

later : (core : CoreState) (pts time : ℕ) → pts ≤ time → Reads core pts → Reads core time
later core pts time le k op opens out = let r = k op opens out in (r.0, r.1, le_trans r.2 le)

-- what is sent in answer to a message that suits
sent_suits : (cores : ℕ → CoreState) (asked : Option Message) → IfSome asked (SuitsIn cores) → (q : Message) →
    SentAs asked q.to q.body → SuitsIn cores q
sent_suits cores asked suits q sent = go q.body sent
  where
    leased : (asked : Option Message) → IfSome asked (SuitsIn cores) → (time : ℕ) → Leases asked q.to time →
        Reads (cores (core_of q.to)) time
    leased None suits time k = absurd k
    leased (Some x) suits time k = subst (λ (to : Node). Reads (cores (core_of to)) time) (sym k.0)
        (by_body x.body suits k.1)
      where
        by_body : (b : Body) → SuitsBy (cores (core_of x.from)) (cores (core_of x.to)) b → AsksFor b time →
            Reads (cores (core_of x.from)) time
        by_body (body.ShReq pts version) suits asks = later (cores (core_of x.from)) pts time asks suits
        by_body _ suits asks = absurd asks

    go : (b : Body) → SentAs asked q.to b → SuitsBy (cores (core_of q.from)) (cores (core_of q.to)) b
    go (body.ShReq pts version) k = absurd k
    go (body.ShRep line) k = leased asked suits line.rts k
    go (body.RenewRep rts) k = leased asked suits rts k
    go _ k = tt

module _ (m : Machine) (s : Invariant m) (so : Suited m) where
  abbrev a : State
  a = seen m

  abbrev Stands : Machine → ℕ × Message → Type 0
  Stands n y = SuitsIn (seen n).cores y.1

  -- a step of a part
  abbrev Steps : {S : Type 0} → (S → Machine) → Step S → Type 0
  Steps put (step.Makes why consumes sends part) =
      Each (Stands (put part)) m.mail.messages × AnySent (Stands (put part)) sends
  Steps put _ = Unit {0}

  suited_step : {S : Type 0} (put : S → Machine) (n : Option ℕ) (done : Step S) → Steps put done →
      Suited (changed m put n done).1
  suited_step put n step.Drops k = left_each (Stands m) m n so
  suited_step put n (step.Makes why consumes sends part) k =
      cond_both (can_post m.config.messages m.mail consumes sends)
      (why, record (put part) { mail = posted m.mail n consumes sends }) (refused m refusal.NetworkFull)
      (λ (o : Answer × Machine). Suited o.1)
      (λ e. posted_each (Stands (put part)) m n k.0 consumes sends k.1) (λ e. so)
  suited_step put n _ k = so

  -- a step of a bank or a DRAM, which changes no core
  part_step : {S : Type 0} (put : S → Machine) → ((part : S) → Each (Stands (put part)) m.mail.messages) →
      ((part : S) (q : Message) → SuitsIn a.cores q → SuitsIn (seen (put part)).cores q) → (n : Option ℕ)
      (asked : Option Message) → IfSome asked (SuitsIn a.cores) → (done : Step S) → Sends asked done →
      Suited (changed m put n done).1
  part_step put stand same n asked suits (step.Makes why consumes None part) sent =
      suited_step put n (step.Makes why consumes None part) (stand part, tt)
  part_step put stand same n asked suits (step.Makes why consumes (Some q) part) sent =
      suited_step put n (step.Makes why consumes (Some q) part)
      (stand part, λ i. same part q (sent_suits a.cores asked suits q sent))
  part_step put stand same n asked suits step.Drops sent = suited_step put n step.Drops tt
  part_step put stand same n asked suits _ sent = so

  -- a core
  module _ (c : ℕ) (core : CoreState) (at : slice_get m.cores c ≡ Some core) where
    here : a.cores c ≡ core
    here = get_or_from_slice_get m.cores c core (open_core m.config c) at

    now : (part : CoreState) (d : ℕ) → by_line.with_at a.cores c part d ≡ (seen (with_core m c part)).cores d
    now part = (core_put a m (itself a) c part (slice_get_within m.cores c core at)).cores

    put_eased : (part : CoreState) → ((time : ℕ) → Reads core time → Reads part time) →
        Eased a.cores (seen (with_core m c part)).cores
    put_eased part easier d time r = subst (λ (k : CoreState). Reads k time) (now part d)
        (with_at_cases (λ i k. Reads (a.cores i) time → Reads k time) a.cores c part
        (λ q. easier time (subst (λ (k : CoreState). Reads k time) here q)) (λ i ne q. q) d r)

    eases : (part : CoreState) → ((time : ℕ) → Reads core time → Reads part time) →
        Each (Stands (with_core m c part)) m.mail.messages
    eases part easier = each_mapped (Stands m) (Stands (with_core m c part))
        (λ y. eased a.cores (seen (with_core m c part)).cores (put_eased part easier) y.1) m.mail.messages so

    answered : (part : CoreState) → part.is_out ≡ false → Each (Stands (with_core m c part)) m.mail.messages
    answered part quiet = eases part (λ time r. quiet_reads part quiet time)

    -- it asks
    asked : core.is_out ≡ false → (part : CoreState) → Each (Stands (with_core m c part)) m.mail.messages
    asked quiet part = each_zipped (λ y. about c (message_seen y.1) ≡ 0) (Stands m) (Stands (with_core m c part))
        (λ y none k. apart c a.cores (seen (with_core m c part)).cores
        (λ d ne. with_at_cases (λ i k. i ≢ c → a.cores i ≡ k) a.cores c part (λ n. absurd (n refl)) (λ i n z. refl)
        d ne ∙ now part d) y.1 none k) m.mail.messages
        (none_weighs (about c) m.mail.messages (λ l. sym (line_weighs l (about c) (bag_of m.mail.messages))
        ∙ ((reachable_ok (set_up m.config m.opening) s.kept.shape.some_words (view m.config a)
        s.kept.reached.reachable).lines l).2.asks c
        ∙ ap (λ (b : Bool). by_line.waits (set_up m.config m.opening) l b (a.cores c).open_op)
        (ap (λ (k : CoreState). k.is_out) here ∙ quiet))) so

    asks_suited : core.is_out ≡ false → (op : Op) → core.open_op ≡ Some op → (version : Option ℕ) →
        Suited (tried m c core (attempted core op (Some (core_table.need core.pts op version), core))).1
    asks_suited quiet (Load w) opens version =
        suited_step (with_core m c) None (step.asks core (Load w) (body.ShReq core.pts version)) (
          asked quiet part,
          λ i. subst (λ (k : CoreState). Reads k core.pts) (sym (ap (seen (with_core m c part)).cores number
              ∙ sym (now part c) ∙ with_at_same a.cores c part))
              (λ op opens_it out. (w, Some_injective op (Load w) (sym opens_it ∙ opens), le_refl core.pts)),
        )
      where
        part : CoreState
        part = record core { is_out = true }

        number : core.number ≡ c
        number = (core_shape m s c core at).numbered
    asks_suited quiet (Store w v) opens version =
        suited_step (with_core m c) None (step.asks core (Store w v) (body.ExReq version))
        (asked quiet (record core { is_out = true }), λ i. tt)
    asks_suited quiet (Swap w v) opens version =
        suited_step (with_core m c) None (step.asks core (Swap w v) (body.ExReq version))
        (asked quiet (record core { is_out = true }), λ i. tt)

    -- an attempt
    completed : (op : Op) (copy : LineCopy) (time : Option ℕ) →
        Suited (tried m c core (attempted core op (core_table.completed_at core op copy time))).1
    completed op copy None = so
    completed op copy (Some ts) = answered _ refl

    unserved : (op : Op) → core.open_op ≡ Some op → (version : Option ℕ) →
        Suited (tried m c core (attempted core op (
          Some (cond core.is_out tries.Waiting (core_table.need core.pts op version)),
          core,
        ))).1
    unserved op opens version = cond_both core.is_out tries.Waiting (core_table.need core.pts op version)
        (λ t. Suited (tried m c core (attempted core op (Some t, core))).1) (λ out. so)
        (λ quiet. asks_suited quiet op opens version)

    on_copies : (op : Op) → core.open_op ≡ Some op → (o : Option LineCopy) →
        Suited (tried m c core (attempted core op (core_table.attempt_on core op o))).1
    on_copies op opens None = cond_both core.is_out tries.Waiting _
        (λ t. Suited (tried m c core (attempted core op (Some t, core))).1) (λ out. so)
        (λ quiet. cond_both (place_for core.cache (core_table.line_of core op)) _ tries.NoRoom
        (λ t. Suited (tried m c core (attempted core op (Some t, core))).1)
        (λ place. asks_suited quiet op opens None) (λ full. so))
    on_copies op opens (Some copy) = cond_both (serves op core.pts copy) _ _
        (λ t. Suited (tried m c core (attempted core op t)).1)
        (λ can. completed op copy (on_copy.time_of core.private_write core.pts op copy))
        (λ can. unserved op opens (Some copy.wts))

    attempts : (o : Option Op) → core.open_op ≡ o → Suited (tried m c core (attempt_open core o)).1
    attempts None opens = so
    attempts (Some op) opens = subst (λ (o : Option Op). Suited (tried m c core (attempted core op
        (core_table.attempt_open core o))).1) (sym opens)
        (on_copies op opens (copy_of core.cache (core_table.line_of core op)))

    -- an issue, an advance and an eviction
    idle : core.open_op ≡ None → core.is_out ≡ false
    idle none = sym (ap (λ (k : CoreState). k.is_out) here)
        ∙ (reachable_blocked (set_up m.config m.opening) (view m.config a) s.kept.reached.reachable).idle c
        (ap (λ (k : CoreState). k.open_op) here ∙ none)

    issues : (op : Op) (o : Option Op) → core.open_op ≡ o → Suited (issued m c op (core_table.issue_to core op o)).1
    issues op (Some other) opens = so
    issues op None opens = cond_both (nat_lt core.issued (2 ^ 32 - 1)) (Ok tt, new) (Err not_issued.TooMany, core)
        (λ r. Suited (issued m c op r).1) (λ few. answered new (idle opens)) (λ many. so)
      where
        new : CoreState
        new = record core { open_op = Some op; issued = core.issued + 1 }

    advances : core.open_op ≡ None → (b : Bool) → Suited (changed m (with_core m c) None
        (advanced (cond b (Some tt, record core { pts = core.pts + 1 }) (None, core)))).1
    advances none false = so
    advances none true = suited_step (with_core m c) None
        (step.Makes answer.Advanced false None (record core { pts = core.pts + 1 }))
        (answered (record core { pts = core.pts + 1 }) (idle none), tt)

    -- a message that it gets, or a copy that leaves
    abbrev Easier : Step CoreState → Type 0
    Easier (step.Makes why consumes sends part) = (time : ℕ) → Reads core time → Reads part time
    Easier _ = Unit {0}

    core_moves : (n : Option ℕ) (asked : Option Message) → IfSome asked (SuitsIn a.cores) → (done : Step CoreState) →
        Sends asked done → Easier done → Suited (changed m (with_core m c) n done).1
    core_moves n asked suits (step.Makes why consumes None part) sent easier =
        suited_step (with_core m c) n (step.Makes why consumes None part) (eases part easier, tt)
    core_moves n asked suits (step.Makes why consumes (Some q) part) sent easier =
        suited_step (with_core m c) n (step.Makes why consumes (Some q) part) (
          eases part easier,
          λ i. eased a.cores (seen (with_core m c part)).cores (put_eased part easier) q
              (sent_suits a.cores asked suits q sent),
        )
    core_moves n asked suits step.Drops sent easier = suited_step (with_core m c) n step.Drops tt
    core_moves n asked suits _ sent easier = so

    reacts_easier : (line : ℕ) (r : CoreReaction) → Easier (reacted (core_table.after_reaction core line r))
    reacts_easier line (Arrives copy) = λ time k.
        quiet_reads (record core { cache = cache.with_used core.cache line copy; is_out = false }) refl time
    reacts_easier line (Grants copy) = λ time k.
        quiet_reads (record core { cache = cache.with_changed core.cache line copy; is_out = false }) refl time
    reacts_easier line (Returns kept sent) = λ time k. k
    reacts_easier line _ = tt

    leaves_easier : (line : ℕ) (o : Option LineCopy) → Easier (copy_evicted
        (core_table.sent_back core line (cache.evicted core.cache line (pinned_line core) o)))
    leaves_easier line None = tt
    leaves_easier line (Some copy) = cond_both (is_pinned (pinned_line core) line) _ _
        (λ r. Easier (copy_evicted (core_table.sent_back core line r))) (λ pinned. tt) (λ off time k. k)

  if_found : {X : Type 0} (o : Option X) (does : X → Answer × Machine) → ((x : X) → o ≡ Some x → Suited (does x).1) →
      Suited (if_there m o does).1
  if_found None does each = so
  if_found (Some x) does each = each x refl

  got : {S : Type 0} (put : S → Machine) (n : ℕ) (has : Bool) (r : Option (Reaction × S)) →
      Suited (changed m put (Some n) (reacted r)).1 → Suited (gets m put n has r).1
  got put n has r k = cond_both has (changed m put (Some n) (reacted r)) (refused m refusal.NoSuch)
      (λ (o : Answer × Machine). Suited o.1) (λ e. k) (λ e. so)

  delivered : (n : ℕ) (x : Message) → SuitsIn a.cores x → (to : Node) → Suited (deliver_to m n x to).1
  delivered n x suits (node.Core c) = if_found (slice_get m.cores c) _
      (λ core at. got (with_core m c) n (core_has_case core x) (core_table.core_table core x)
      (core_moves c core at (Some n) (Some x) suits (reacted (core_table.core_table core x)) (core_gets core x)
      (reacts_easier c core at x.line (core_table.decided core x.line x.body))))
  delivered n x suits (node.Bank i) = if_found (slice_get m.banks i) _
      (λ bank at. got (with_bank m i) n (bank_has_case bank x) (bank_table.bank_table bank x)
      (part_step (with_bank m i) (λ part. so) (λ part q k. k) (Some n) (Some x) suits
      (reacted (bank_table.bank_table bank x)) (bank_gets bank x)))
  delivered n x suits (node.Dram i) = if_found (slice_get m.drams i) _
      (λ lines at. got (with_dram m i) n (dram_has_case lines x) (dram_table lines x)
      (part_step (with_dram m i) (λ part. so) (λ part q k. k) (Some n) (Some x) suits
      (reacted (dram_table lines x)) (dram_gets lines x x.body)))

  event_suits : (e : Event) → IsBetween m e → Suited (on_event m e).1
  event_suits (Issue c op) between = if_found (slice_get m.cores c) _ (λ core at. issues c core at op core.open_op refl)
  event_suits (AttemptOf c) between = if_found (slice_get m.cores c) _ (λ core at. attempts c core at core.open_op refl)
  event_suits (Deliver n) between = if_found (at_number n m.mail.messages) _
      (λ x at. delivered n x (each_at_number (Stands m) n m.mail.messages x at so (λ k q. q)) x.to)
  event_suits (EvictCache c line) between =
      if_found (slice_get m.cores c) _ (λ core at. core_moves c core at None None tt
      (copy_evicted (core_table.evict core line)) (copy_leaves core line)
      (leaves_easier c core at line (copy_of core.cache line)))
  event_suits (EvictBank i line) between =
      if_found (slice_get m.banks i) _ (λ bank at. part_step (with_bank m i) (λ part. so) (λ part q k. k)
      None None tt (entry_evicted (bank_table.evict bank line)) (line_leaves bank line))
  event_suits (Advance c) between = if_found (slice_get m.cores c) _ (λ core at. advances c core at
      (sym (ap operation_of at) ∙ between) (fits (core.pts + 1)))

  pub transition_suits : (e : Event) → IsBetween m e → Suited (transition m e).1
  transition_suits e between = cond_both m.is_stopped (refused m refusal.Stopped) (on_event m e)
      (λ (o : Answer × Machine). Suited o.1) (λ stopped. so) (λ runs. event_suits e between)

-- so they do after any events
pub events_suit : (m : Machine) → Invariant m → Suited m → (events : List Event) → AdvancesBetween m events →
    Suited (after_all m events)
events_suit m s so [] between = so
events_suit m s so (e ∷ events) between = events_suit (transition m e).1 (any_transition m s e)
    (transition_suits m s so e between.0) events between.1

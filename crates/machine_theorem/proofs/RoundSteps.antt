-- What a machine makes of the events of a round keeps what rounds keep of recalls.
use Rattle.std.proofs.lemmas.Bool.Decides.{nat_tests}
use Rattle.std.proofs.Common.{◌≡◌, ◌≢◌, ℕ, ◌+◌, ◌-◌, ◌^◌, ◌<◌, ◌≤◌, Bool, true, false, cond, eqb, List, ◌∷◌, zero, suc}
use Rattle.std.proofs.Common.{length, Option, Some, None, Ok, Err, inl, inr, ◌⊎◌, refl, sym, ap, ◌∙◌, subst, ⊎_elim}
use Rattle.std.proofs.Common.{arith, Result, slice_get, nat_cmp, rules}
use Rattle.std.specs.FinMap.{FinMap}
use Rattle.std.proofs.lemmas.Bool.{cond_both, cond-true, eqb-true, lt-ltb}
use Rattle.std.proofs.lemmas.Option.{get_or_from_slice_get, slice_get_within}
use Rattle.physiological_order.specs.declared.operation.Op.{Op}
use Rattle.network.specs.declared.message.Body.{Body}
use Rattle.network.specs.declared.message.Body.TheVariants as body
use Rattle.network.specs.declared.message.Message.{Message}
use Rattle.network.specs.declared.message.Node.{Node}
use Rattle.network.specs.declared.message.Node.TheVariants as node
use Rattle.network.specs.NumberedMessages.{at_number}
use Rattle.network.specs.Routes.{has_route, has_endpoints, is_core_to_bank}
use Rattle.line_sets.specs.SetTable.{has_room}
use Rattle.timestamp_manager.specs.Lease.{fits}
use Rattle.private_cache.specs.declared.line_copy.LineCopy.{LineCopy}
use Rattle.private_cache.specs.CopyTable.{copy_of, is_pinned}
use Rattle.core_pts.specs.declared.attempt.Attempt.TheVariants as tries
use Rattle.core_pts.specs.declared.attempt.IssueError.{IssueError}
use Rattle.core_pts.specs.declared.attempt.IssueError.TheVariants as not_issued
use Rattle.core_pts.specs.declared.decision.CoreReaction.{CoreReaction}
use Rattle.core_pts.specs.declared.decision.CoreReaction.TheVariants.{Returns}
use Rattle.core_pts.specs.OnCopy as on_copy
use Rattle.core_pts.specs.OnCopy.{serves}
use Rattle.core_pts.specs.CoreTable as core_table
use Rattle.core_pts.specs.CoreTable.{CoreState, is_this_core, pinned_line, to_bank}
use Rattle.llc_bank.specs.declared.decision.Decision.{Decision}
use Rattle.llc_bank.specs.declared.decision.Decision.TheVariants.{Grants}
use Rattle.llc_bank.specs.BankTable as bank_table
use Rattle.llc_bank.specs.BankTable.{BankState, core_of, entry_of, is_this_bank}
use Rattle.dram_mts.specs.Table.{dram_case, is_dram}
use Rattle.machine_table.specs.declared.config.Config.{Config}
use Rattle.machine_table.specs.declared.event.Answer.{Answer}
use Rattle.machine_table.specs.declared.event.Answer.TheVariants as answer
use Rattle.machine_table.specs.declared.event.Event.TheVariants as event
use Rattle.machine_table.specs.declared.event.Refusal.TheVariants as refusal
use Rattle.machine_table.specs.Machine.{Machine, with_core, with_bank, with_dram}
use Rattle.machine_table.specs.Opening.{open_bank, open_core}
use Rattle.machine_table.specs.Posted.{can_post, left, posted}
use Rattle.machine_table.specs.Step as step
use Rattle.machine_table.specs.Step.{Step, Tried, Completes, Does, Evicting, attempt_open, attempted, reacted}
use Rattle.machine_table.specs.Step.{entry_evicted, copy_evicted, bank_step}
use Rattle.machine_table.specs.Transition.{changed, if_there, issued, on_event, refused, tried}
use Rattle.machine_table.proofs.Lemmas.{finds}
use Rattle.protocol.specs.Machine as by_line
use Rattle.protocol.specs.Recalls.{recall_to, return_of}
use Rattle.machine_theorem.specs.Bags.{SameBag, bag_of, weigh}
use Rattle.machine_theorem.specs.Cases.{takes}
use Rattle.machine_theorem.specs.Kept.{IsKept, Invariant}
use Rattle.machine_theorem.specs.Moves as moves
use Rattle.machine_theorem.specs.Moves.{with_answer}
use Rattle.machine_theorem.specs.Rounds.{IsMoving, IsRequest}
use Rattle.machine_theorem.specs.States.{State, Same, seen}
use Rattle.machine_theorem.specs.View.{body_seen, line_seen, message_seen, set_up, view}
use Rattle.machine_theorem.proofs.ActiveParts.{IsRecall, core_active, bank_active, dram_active, no_request, no_recall}
use Rattle.machine_theorem.proofs.ActiveParts.{served_tries, needs, recalled_core, pinned_here}
use Rattle.machine_theorem.proofs.Bags.{bag-taken}
use Rattle.machine_theorem.proofs.Routes.{up_ends}
use Rattle.machine_theorem.proofs.CoreDeliveries.{core_delivery}
use Rattle.machine_theorem.proofs.CoreMoves.{Issues, issue_goes, attempt_goes, eviction_goes, advance_goes}
use Rattle.machine_theorem.proofs.Deliveries.{and_right, counts_if, of_line, line_weighs}
use Rattle.machine_theorem.proofs.FoundCases.{Gets, a_core, a_bank, a_dram, gets_it}
use Rattle.machine_theorem.proofs.KeptMoves.{bank_delivered, came, dram_delivered, line_leaves}
use Rattle.machine_theorem.proofs.KeptSteps.{Goes, Tries, Turned, turned_kept}
use Rattle.machine_theorem.proofs.ByParts.{same_by}
use Rattle.machine_theorem.proofs.PartChanges.{itself, core_put, bank_put, dram_put, bag_put, posted_put, issue_put}
use Rattle.machine_theorem.proofs.PartChanges.{completion_put}
use Rattle.machine_theorem.proofs.RecallPairs.{IsHere, Sound, Listed, listed_by}
use Rattle.machine_theorem.proofs.RoundEvents.{IsActive, IsTrying}
use Rattle.machine_theorem.proofs.RoundLines as lines
use Rattle.machine_theorem.proofs.RoundLines.{Alike, good_alike, Settles}
use Rattle.machine_theorem.proofs.RoundTurns as turns
use Rattle.machine_theorem.proofs.RoundTurns.{LacksCopy, attempt_keeps, advance_keeps, leaving_keeps, issue_keeps}
use Rattle.machine_theorem.proofs.RoundTurns.{later}
use Rattle.machine_theorem.proofs.Turns.{Kind, delivering, attempting, advancing, leaving}

-- what a message weighs that may not be there
abbrev weigh_of : (Message → ℕ) → Option Message → ℕ
weigh_of h None = 0
weigh_of h (Some x) = h x

-- which messages of a line are still to be delivered, by what they weigh among all
abbrev pub per_line : ((Message → ℕ) → ℕ) → ℕ → (by_line.Message → ℕ) → ℕ
per_line p l w = p (of_line l w)

module _ (config : Config) (opening : FinMap nat_cmp ℕ) where
  abbrev pub Good : ((Message → ℕ) → ℕ) → State → Type 0
  Good p a = lines.Good (set_up config opening) (per_line p) (view config a)

  abbrev pub Turns : ℕ → State → Type 0
  Turns next a = turns.Turns (set_up config opening) next (view config a)

  alike : (a b : State) → Same a b → Alike (set_up config opening) (view config a) (view config b)
  alike a b k = search (rules, line_weighs, of_line)

  pub good_same : (p : (Message → ℕ) → ℕ) (a b : State) → Same a b → Good p a → Good p b
  good_same p a b k = good_alike (set_up config opening) (per_line p) _ _ (alike a b k)

  pub turns_same : (next : ℕ) (a b : State) → Same a b → Turns next a → Turns next b
  turns_same next a b k = turns.turns_alike (set_up config opening) next _ _ (alike a b k)

-- recalls go to cores, and returns come from them: a part that gets one sends none
module _ (cores banks d : ℕ) (x q : Message) (goes : has_endpoints cores banks x ≡ true)
    (sent : has_endpoints cores banks q ≡ true) (same : x.to ≡ q.from) where
  recall_ends : (from to : Node) (i j : ℕ) (b : Body) → has_route cores banks from to b ≡ true →
      (recall_to d (body_seen i j b) ≡ 0) ⊎ (is_core_to_bank cores banks to from ≡ true)
  recall_ends from to i j body.FlushReq r = inr r
  recall_ends from to i j (body.WbReq until) r = inr r
  recall_ends from to i j _ r = inl refl

  return_ends : (from to : Node) (i j : ℕ) (b : Body) → has_route cores banks from to b ≡ true →
      (return_of d (body_seen i j b) ≡ 0) ⊎ (is_core_to_bank cores banks from to ≡ true)
  return_ends from to i j (body.FlushRep y) r = inr r
  return_ends from to i j (body.WbRep y) r = inr r
  return_ends from to i j _ r = inl refl

  one_recall : (recall_to d (message_seen x) ≡ 0) ⊎ (recall_to d (message_seen q) ≡ 0)
  one_recall = elim (recall_ends x.from x.to (core_of x.from) (core_of x.to) x.body goes) [
    | inl z ↦ inl z
    | inr u ↦ elim (recall_ends q.from q.to (core_of q.from) (core_of q.to) q.body sent) [
      | inl z ↦ inr z
      | inr v ↦ absurd (let k = up_ends cores banks x.to x.from u in let j = up_ends cores banks q.to q.from v in
          let z : node.Core k.core ≡ node.Bank j.bank = sym k.from_core ∙ same ∙ j.to_bank in cc)
    ]
  ]

  one_return : (return_of d (message_seen x) ≡ 0) ⊎ (return_of d (message_seen q) ≡ 0)
  one_return = elim (return_ends x.from x.to (core_of x.from) (core_of x.to) x.body goes) [
    | inl z ↦ inl z
    | inr u ↦ elim (return_ends q.from q.to (core_of q.from) (core_of q.to) q.body sent) [
      | inl z ↦ inr z
      | inr v ↦ absurd (let k = up_ends cores banks x.from x.to u in let j = up_ends cores banks q.from q.to v in
          let z : node.Bank k.bank ≡ node.Core j.core = sym k.to_bank ∙ same ∙ j.from_core in cc)
    ]
  ]

weighs_none : (w : by_line.Message → ℕ) (x : Message) (l : ℕ) → w (message_seen x) ≡ 0 → of_line l w x ≡ 0
weighs_none w x l none = cond_both (eqb x.line l) (w (message_seen x)) 0 (λ n. n ≡ 0) (λ e. none) (λ e. refl)

-- what a step that consumes a message sends is from the part
abbrev SendsFrom : {S : Type 0} → Node → Step S → Type 0
SendsFrom from (step.Makes why true (Some q) part) = from ≡ q.from
SendsFrom from _ = Unit {0}

core_from : (core : CoreState) (line : ℕ) (r : CoreReaction) →
    SendsFrom (node.Core core.number) (reacted (core_table.after_reaction core line r))
core_from core line (Returns kept sent) = refl
core_from core line _ = tt

bank_from : (bank : BankState) (m : Message) (d : Decision) →
    SendsFrom (node.Bank bank.number) (reacted (bank_table.after_decision bank m d))
bank_from bank m (Grants e sent) = refl
bank_from bank m _ = tt

dram_from : (stored : FinMap nat_cmp (List ℕ)) (x : Message) (b : Body) →
    SendsFrom x.to (reacted (dram_case stored x b))
dram_from stored x body.DramLd = refl
dram_from stored x (body.DramSt words) = refl
dram_from stored x _ = tt

-- a delivery, or a bank's eviction, of a state: a message is taken, or none, and one is sent, or none
module _ (config : Config) (opening : FinMap nat_cmp ℕ) (a b : State) (s : IsKept config opening a)
    (t : Turned config opening delivering a b) (taken sent : Option Message)
    (bags : (h : Message → ℕ) → weigh h b.bag + weigh_of h taken ≡ weigh h a.bag + weigh_of h sent)
    (p : (Message → ℕ) → ℕ) where
  abbrev g : by_line.Config
  g = set_up config opening

  settles : (w : ℕ → by_line.Message → ℕ) →
      ((l d : ℕ) → (weigh_of (of_line l (w d)) taken ≡ 0) ⊎ (weigh_of (of_line l (w d)) sent ≡ 0)) → (d : ℕ) →
      Settles g s.shape.some_words refl (view config a) s.reached.reachable (per_line (λ h. weigh_of h taken + p h))
      (per_line p) (view config b) (w d)
  settles w one d l fewer le = search (rules, line_weighs, of_line, taken)

  made : ((l d : ℕ) → (weigh_of (of_line l (recall_to d)) taken ≡ 0)
      ⊎ (weigh_of (of_line l (recall_to d)) sent ≡ 0)) →
      ((l d : ℕ) → (weigh_of (of_line l (return_of d)) taken ≡ 0) ⊎ (weigh_of (of_line l (return_of d)) sent ≡ 0)) →
      Good config opening (λ h. weigh_of h taken + p h) a → Good config opening p b
  made recall back = lines.delivery_keeps g s.shape.some_words refl (view config a) s.reached.reachable (view config b)
      (turned_kept config opening a b s t).reached.reachable t.leads
      (per_line (λ h. weigh_of h taken + p h)) (per_line p) (settles recall_to recall) (settles return_of back)

-- what is in flight after an answer
sends_bag : (b : State) (ms : List Message) (sends : Option Message) (h : Message → ℕ) →
    weigh h (with_answer b ms sends).bag ≡ weigh h ms + weigh_of h sends
sends_bag b ms None h = omega arith
sends_bag b ms (Some q) h = omega arith

module _ (m : Machine) (s : Invariant m) where
  abbrev a : State
  a = seen m

  -- a step of a part that gets a message, or none: what is so of the state stays so
  module _ {S : Type 0} (Q : State → Type 0) (respects : (b d : State) → Same b d → Q b → Q d) (b : State)
      (same : Same b (seen m)) (n : Option ℕ) (put : S → Machine) (puts : S → State)
      (here : (part : S) → Same (puts part) (seen (put part)))
      (counts : (part : S) → (puts part).counts ≡ m.mail.counts) (numbers : m.mail.next < 2 ^ 64 - 1) where
    abbrev rest : List Message
    rest = bag_of (left m.mail n).messages

    abbrev Lasts : Answer × Machine → Type 0
    Lasts o = (o.1.is_stopped ≡ true) ⊎ Q (seen o.1)

    posts : (why : Answer) (consumes : Bool) (sends : Option Message) (part : S) →
        Q (with_answer (puts part) (cond consumes rest b.bag) sends) →
        Lasts (why, record (put part) { mail = posted m.mail n consumes sends })
    posts why consumes sends part so = inr (respects _ _ (posted_put (puts part) (put part) (here part) b.bag rest
        m.mail n same.bag (λ h. refl) (counts part) consumes sends) so)

    can : (sends : Option Message) → can_post m.config.messages m.mail true sends ≡ true
    can None = refl
    can (Some q) = lt-ltb m.mail.next (2 ^ 64 - 1) numbers

    -- if the part keeps its message, it was so before; if it takes it, it becomes so
    happens : {kind : Kind} (X : Step S → Type 0) (done : Step S) → X done →
        Goes m.config m.opening kind b puts rest done → IsActive false done ⊎ Q b →
        (Turned m.config m.opening kind b (record b { bag = rest }) → Q (record b { bag = rest })) →
        ((why : Answer) (sends : Option Message) (part : S) → X (step.Makes why true sends part) →
        Turned m.config m.opening kind b (with_answer (puts part) rest sends) →
        Q (with_answer (puts part) rest sends)) →
        (Q b → (sends : Option Message) (part : S) →
        Turned m.config m.opening kind b (with_answer (puts part) b.bag sends) →
        Q (with_answer (puts part) b.bag sends)) → Lasts (changed m put n done)
    happens X step.Exhausts x goes stays drops takes keeps = inl refl
    happens X (step.Keeps why) x goes (inr so) drops takes keeps = inr (respects b (seen m) same so)
    happens X step.Drops x goes stays drops takes keeps =
        inr (respects _ _ (bag_put b m same rest (left m.mail n) (λ h. refl) same.counts) (drops goes))
    happens X (step.Makes why true sends part) x goes stays drops takes keeps =
        subst Lasts (sym (cond-true (can_post m.config.messages m.mail true sends) _ _ (can sends)))
        (posts why true sends part (takes why sends part x goes))
    happens X (step.Makes why false sends part) x goes (inr so) drops takes keeps =
        cond_both (can_post m.config.messages m.mail false sends)
        (why, record (put part) { mail = posted m.mail n false sends }) (refused m refusal.NetworkFull) Lasts
        (λ e. posts why false sends part (keeps so sends part goes)) (λ e. inr (respects b (seen m) same so))
    happens X _ x goes (inl active) drops takes keeps = absurd active

  module _ (numbers : m.mail.next < 2 ^ 64 - 1) (p : (Message → ℕ) → ℕ) where
    abbrev pub GoodAt : ((Message → ℕ) → ℕ) → Machine → Type 0
    GoodAt q n = Good m.config m.opening q (seen n)

    -- it is so, or the machine stops
    abbrev Keeps : Answer × Machine → Type 0
    Keeps o = (o.1.is_stopped ≡ true) ⊎ GoodAt p o.1

    -- where no message is taken
    sent_alone : (b d : State) → IsKept m.config m.opening b → Good m.config m.opening p b →
        Turned m.config m.opening delivering b d → (sends : Option Message) →
        ((h : Message → ℕ) → weigh h d.bag ≡ weigh h b.bag + weigh_of h sends) → Good m.config m.opening p d
    sent_alone b d k good t sends bags = made m.config m.opening b d k t None sends
        (λ h. let z = bags h in omega (arith, z)) p (λ l d. inl refl) (λ l d. inl refl) (λ l c. let g = good l c in (
          g.0,
          listed_by (set_up m.config m.opening) l c _ _ _ _ _ _ (λ z. omega (arith, z)) (λ z. omega (arith, z)) g.1,
        ))

    -- an eviction of a bank
    pub bank_evicts : (i line : ℕ) → GoodAt p m → Keeps (on_event m (event.EvictBank i line))
    bank_evicts i line good = go (slice_get m.banks i) refl
      where
        go : (o : Option BankState) → slice_get m.banks i ≡ o →
            Keeps (if_there m o (λ bank. changed m (with_bank m i) None (entry_evicted (bank_table.evict bank line))))
        go None at = inr good
        go (Some bank) at =
            subst (λ (z : BankState). Keeps (changed m (with_bank m i) None (bank_step z (Evicting line))))
            (get_or_from_slice_get m.banks i bank (open_bank m.config i) at)
            (happens (Good m.config m.opening p) (good_same m.config m.opening p) a (itself a) None (with_bank m i)
            (moves.with_bank a i) (λ part. bank_put a m (itself a) i part (slice_get_within m.banks i bank at))
            (λ part. refl) numbers (λ done. Unit {0}) (bank_step (a.banks i) (Evicting line)) tt
            (line_leaves m.config m.opening a s.kept i line) (inr good)
            (λ t. sent_alone a _ s.kept good t None (λ h. omega arith))
            (λ why sends part ok t. sent_alone a _ s.kept good t sends
            (sends_bag (moves.with_bank a i part) a.bag sends))
            (λ so sends part t. sent_alone a _ s.kept good t sends (sends_bag (moves.with_bank a i part) a.bag sends)))

    -- a delivery
    module _ (n : ℕ) (x : Message) (number : at_number n m.mail.messages ≡ Some x)
        (good : GoodAt (λ h. h x + p h) m) where
      abbrev others : List Message
      others = bag_of (left m.mail (Some n)).messages

      taken : SameBag a.bag (x ∷ others)
      taken = bag-taken n m.mail.messages x number

      -- the message comes first
      abbrev b : State
      b = record a { bag = x ∷ others }

      b_same : Same a b
      b_same = same_by (λ c. refl) (λ j. refl) (λ j. refl) taken (λ c. refl) refl refl

      b_back : Same b a
      b_back = same_by (λ c. refl) (λ j. refl) (λ j. refl) (λ h. sym (taken h)) (λ c. refl) refl refl

      b_kept : IsKept m.config m.opening b
      b_kept = came m.config m.opening a s.kept x others taken

      good_b : Good m.config m.opening (λ h. h x + p h) b
      good_b = good_same m.config m.opening (λ h. h x + p h) a b b_same good

      abbrev Pair : ((Message → ℕ) → ℕ) → ℕ → ℕ → Type 0
      Pair q l d = Sound (set_up m.config m.opening) l d (line_seen m.config b l) ((a.cores d).open_op)
          × Listed (set_up m.config m.opening) l d (line_seen m.config b l) ((a.cores d).open_op)
          (q (of_line l (recall_to d))) (q (of_line l (return_of d)))

      -- it is still in flight, and weighs nothing
      waits : ((l d : ℕ) → of_line l (recall_to d) x ≡ 0) → ((l d : ℕ) → of_line l (return_of d) x ≡ 0) →
          Good m.config m.opening p b
      waits no_recall no_return l d = let k = good_b l d in grind (arith, nat_tests)

      by_part : {S : Type 0} (put : S → Machine) (puts : S → State)
          (here : (part : S) → Same (puts part) (seen (put part)))
          (counts : (part : S) → (puts part).counts ≡ m.mail.counts) (done : Step S) → SendsFrom x.to done →
          Goes m.config m.opening delivering b puts others done →
          IsActive false done ⊎ Good m.config m.opening p b → Keeps (changed m put (Some n) done)
      by_part {S} put puts here counts done from goes stays =
          happens (Good m.config m.opening p) (good_same m.config m.opening p) b b_back (Some n) put puts here counts
          numbers (SendsFrom x.to) done from goes stays
          (λ t. made m.config m.opening b _ b_kept t (Some x) None (λ h. omega arith) p (λ l d. inr refl)
          (λ l d. inr refl) good_b)
          (λ why sends part from_it t. made m.config m.opening b _ b_kept t (Some x) sends
          (λ h. let z = sends_bag (puts part) others sends h in omega (arith, z)) p
          (one recall_to (λ q e route d. one_recall m.config.cores m.config.banks d x q endpoints route e)
          sends why part from_it t)
          (one return_of (λ q e route d. one_return m.config.cores m.config.banks d x q endpoints route e)
          sends why part from_it t) good_b)
          (λ so sends part t. sent_alone b _ b_kept so t sends (sends_bag (puts part) (x ∷ others) sends))
        where
          endpoints : has_endpoints m.config.cores m.config.banks x ≡ true
          endpoints = b_kept.shape.each_message.0.2

          one : (w : ℕ → by_line.Message → ℕ) → ((q : Message) → x.to ≡ q.from →
              has_endpoints m.config.cores m.config.banks q ≡ true → (d : ℕ) →
              (w d (message_seen x) ≡ 0) ⊎ (w d (message_seen q) ≡ 0)) → (sends : Option Message) (why : Answer)
              (part : S) → SendsFrom x.to (step.Makes why true sends part) →
              Turned m.config m.opening delivering b (with_answer (puts part) others sends) → (l d : ℕ) →
              (of_line l (w d) x ≡ 0) ⊎ (weigh_of (of_line l (w d)) sends ≡ 0)
          one w each None why part from t l d = inr refl
          one w each (Some q) why part from t l d = ⊎_elim
              (λ (z : w d (message_seen x) ≡ 0). inl (weighs_none (w d) x l z))
              (λ (z : w d (message_seen q) ≡ 0). inr (weighs_none (w d) q l z))
              (each q from t.shape.each_message.0.2 d)

      -- a core holds a recall
      held : (c : ℕ) → x.to ≡ node.Core c → IsRecall x.body → is_pinned (pinned_line (a.cores c)) x.line ≡ true →
          Good m.config m.opening p b
      held c to is pinned l d = go (of_line l (recall_to d) x) refl
        where
          k : Pair (λ h. h x + p h) l d
          k = good_b l d

          no_return : of_line l (return_of d) x ≡ 0
          no_return = weighs_none (return_of d) x l (no_recall (return_of d) (λ e. refl) (λ e u. refl) x is)

          here : 1 ≤ of_line l (recall_to d) x → IsHere (set_up m.config m.opening) l ((a.cores d).open_op)
          here some =
              let on = counts_if (eqb x.line l) (recall_to d (message_seen x)) some in
              rw (← recalled_core x is d on.1, to, ← eqb-true x.line l on.0)
              (pinned_here m.config m.opening a s.kept c x.line pinned)

          go : (i : ℕ) → of_line l (recall_to d) x ≡ i → Pair p l d
          go zero e = (
            k.0,
            listed_by (set_up m.config m.opening) l d _ _ _ _ _ _ (λ z. omega (arith, z, e))
                (λ z. let y = no_return in omega (arith, z, y)) k.1,
          )
          go (suc i) e = (
            k.0,
            record {
              recalls_listed = inr (inl (k.0.held
                  (let z = line_weighs l (recall_to d) (x ∷ others) in omega (arith, z, e)) (here (omega (arith, e)))));
              returns_listed = λ q. let z = k.1.returns_listed q in let y = no_return in omega (arith, z, y);
            },
          )

      pub delivery_keeps : Keeps (on_event m (event.Deliver n))
      delivery_keeps = go (gets_it m s n x number)
        where
          go : Gets m n x → Keeps (on_event m (event.Deliver n))
          go (a_core c to at has is) =
              let within = slice_get_within m.cores c (a.cores c) at in
              let below : c < m.config.cores = (let z = s.core_count in omega (arith, within, z)) in
              subst Keeps (sym is)
              (by_part (with_core m c) (moves.with_core b c) (λ part. core_put b m b_back c part within)
              (λ part. refl) _
              (subst (λ (i : Node). SendsFrom i (reacted (core_table.core_table (a.cores c) x)))
              (ap node.Core (s.kept.shape.each_core c).numbered ∙ sym to)
              (core_from (a.cores c) x.line (core_table.decided (a.cores c) x.line x.body)))
              (core_delivery m.config m.opening a x others b_kept c below to has)
              (⊎_elim (λ active. inl active)
              (λ (k : IsRecall x.body × (is_pinned (pinned_line (a.cores c)) x.line ≡ true)). inr (held c to k.0 k.1))
              (core_active false (a.cores c) x.line x.body (is_pinned (pinned_line (a.cores c)) x.line)
              (and_right (is_this_core (a.cores c).number x.to) _ has))))
          go (a_bank j to at has is) =
              let within = slice_get_within m.banks j (a.banks j) at in
              subst Keeps (sym is)
              (by_part (with_bank m j) (moves.with_bank b j) (λ part. bank_put b m b_back j part within)
              (λ part. refl) _
              (subst (λ (i : Node). SendsFrom i (reacted (bank_table.bank_table (a.banks j) x)))
              (ap node.Bank (s.kept.shape.each_bank j).numbered ∙ sym to)
              (bank_from (a.banks j) x (bank_table.decided (a.banks j) x)))
              (bank_delivered m.config m.opening a s.kept j x others taken to has)
              (⊎_elim (λ active. inl active) (λ (is : IsRequest x.body). inr (waits
              (λ l d. weighs_none (recall_to d) x l (no_request (recall_to d) (λ e p v. refl) (λ e v. refl) x is))
              (λ l d. weighs_none (return_of d) x l (no_request (return_of d) (λ e p v. refl) (λ e v. refl) x is))))
              (bank_active (a.banks j) x (a.banks j).lease (a.banks j).mts (core_of x.from)
              (has_room (a.banks j).table (bank_table.set_of (a.banks j) x.line)) false x.from x.body
              (entry_of (a.banks j) x.line) (and_right (is_this_bank (a.banks j).number x.to) _ has))))
          go (a_dram j to at has is) =
              let within = slice_get_within m.drams j (a.drams j) at in
              subst Keeps (sym is)
              (by_part (with_dram m j) (moves.with_dram b j) (λ part. dram_put b m b_back j part within)
              (λ part. refl) _
              (dram_from (a.drams j) x x.body) (dram_delivered m.config m.opening a s.kept j x others taken to has)
              (inl (dram_active false (a.drams j) x x.body (and_right (is_dram x.to) _ has))))

  -- a core's turn
  module _ (numbers : m.mail.next < 2 ^ 64 - 1) where
    abbrev f : by_line.Config
    f = set_up m.config m.opening

    abbrev pub TurnsAt : ℕ → Machine → Type 0
    TurnsAt next n = Turns m.config m.opening next (seen n)

    abbrev Turning : ℕ → Answer × Machine → Type 0
    Turning next o = (o.1.is_stopped ≡ true) ⊎ TurnsAt next o.1

    module _ (c : ℕ) (core : CoreState) (at : slice_get m.cores c ≡ Some core) where
      is_core : a.cores c ≡ core
      is_core = get_or_from_slice_get m.cores c core (open_core m.config c) at

      within : c < length m.cores
      within = slice_get_within m.cores c core at

      below : c < m.config.cores
      below = let z = s.core_count in let y = within in omega (arith, y, z)

      by_turn : (kind : Kind) (next : ℕ) → TurnsAt next m →
          ((d : State) → Turned m.config m.opening kind a d → Turns m.config m.opening next d) →
          (done : Step CoreState) → Goes m.config m.opening kind a (moves.with_core a c) a.bag done →
          Turning next (changed m (with_core m c) None done)
      by_turn kind next so leads done goes =
          happens (Turns m.config m.opening next) (turns_same m.config m.opening next) a (itself a) None (with_core m c)
          (moves.with_core a c) (λ part. core_put a m (itself a) c part within) (λ part. refl) numbers {kind = kind}
          (λ done. Unit {0}) done tt goes (inr so) (λ t. leads _ t) (λ why sends part ok t. leads _ t)
          (λ q sends part t. leads _ t)

      attempts : TurnsAt (c + 1) m → (t : Tried) →
          Tries m.config m.opening (Turned m.config m.opening (attempting c) a) a c a.bag t →
          Turning (c + 1) (tried m c (a.cores c) t)
      attempts so (Completes op received ts after) goes = inr (turns_same m.config m.opening (c + 1) _ _
          (completion_put a m (itself a) c op received ts (a.cores c) after within)
          (attempt_keeps f (view m.config a) _ c goes.leads so))
      attempts so (Does done) goes =
          by_turn (attempting c) (c + 1) so (λ d t. attempt_keeps f (view m.config a) _ c t.leads so) done goes

      issues : (op : Op) → TurnsAt c m → (r : Result (Unit {0}) IssueError × CoreState) →
          Issues m.config m.opening a s.kept c below op r → Turning (c + 1) (issued m c op r)
      issues op so (Err not_issued.Busy, after) goes = inr (later f c (view m.config a) so)
      issues op so (Err not_issued.TooMany, after) goes = inr (later f c (view m.config a) so)
      issues op so (Ok done, after) goes = inr (turns_same m.config m.opening (c + 1) _ _
          (issue_put a m (itself a) c op after within (let y = below in let z = s.lists in omega (arith, y, z)))
          (issue_keeps f (view m.config a) _ c goes.leads so))

      -- where the machine has no room for a line, there is no copy of it
      refuses : (t : Tried) → IsTrying true t → (tried m c (a.cores c) t).0 ≢ answer.Refused refusal.NoRoom
      refuses (Does (step.Keeps why)) active e = absurd active
      refuses (Does (step.Makes why true sends part)) active e =
          cond_both (can_post m.config.messages m.mail true sends) _ (refused m refusal.NetworkFull)
          (λ (o : Answer × Machine). o.0 ≢ answer.Refused refusal.NoRoom) (λ f z. subst IsMoving z active)
          (λ f z. absurd (cc)) e
      refuses (Does (step.Makes why false sends part)) active e =
          cond_both (can_post m.config.messages m.mail false sends) _ (refused m refusal.NetworkFull)
          (λ (o : Answer × Machine). o.0 ≢ answer.Refused refusal.NoRoom) (λ f z. subst IsMoving z active)
          (λ f z. absurd (cc)) e
      refuses _ active e = absurd (cc)

      abbrev Lacks : Type 0
      Lacks = LacksCopy f (view m.config a).lines (view m.config a).cores c

      by_copy : (op : Op) → (a.cores c).open_op ≡ Some op → (o : Option LineCopy) →
          copy_of (a.cores c).cache (core_table.line_of (a.cores c) op) ≡ o →
          (tried m c (a.cores c) (attempted (a.cores c) op (core_table.attempt_on (a.cores c) op o))).0
          ≡ answer.Refused refusal.NoRoom → Lacks
      by_copy op opens None there is = search rules
      by_copy op opens (Some held) there is = absurd (cond_both (serves op (a.cores c).pts held) _ _
          (λ t. (tried m c (a.cores c) (attempted (a.cores c) op t)).0 ≢ answer.Refused refusal.NoRoom)
          (λ can. refuses (attempted (a.cores c) op (core_table.completed_at (a.cores c) op held (time held)))
          (served_tries (a.cores c) op true held (time held)))
          (λ can. cond_both (a.cores c).is_out tries.Waiting _
          (λ t. (tried m c (a.cores c) (attempted (a.cores c) op (Some t, (a.cores c)))).0
          ≢ answer.Refused refusal.NoRoom) (λ out z. absurd (cc))
          (λ out. refuses (attempted (a.cores c) op
          (Some (core_table.need (a.cores c).pts op (Some held.wts)), a.cores c))
          (needs (a.cores c) op (Some held.wts) op))) is)
        where
          time : LineCopy → Option ℕ
          time copy = on_copy.time_of (a.cores c).private_write (a.cores c).pts op copy

      lacks_copy : (o : Option Op) → (a.cores c).open_op ≡ o →
          (tried m c (a.cores c) (attempt_open (a.cores c) o)).0 ≡ answer.Refused refusal.NoRoom → Lacks
      lacks_copy None opens is = absurd (cc)
      lacks_copy (Some op) opens is = by_copy op opens _ refl (sym (ap (λ (o : Option Op).
          (tried m c (a.cores c) (attempted (a.cores c) op (core_table.attempt_open (a.cores c) o))).0) opens) ∙ is)

    if_core : (next c : ℕ) → TurnsAt next m → (does : CoreState → Answer × Machine) →
        ((core : CoreState) → slice_get m.cores c ≡ Some core → Turning next (does (a.cores c))) →
        Turning next (if_there m (slice_get m.cores c) does)
    if_core next c so does each = go (slice_get m.cores c) refl
      where
        go : (o : Option CoreState) → slice_get m.cores c ≡ o → Turning next (if_there m o does)
        go None at = inr so
        go (Some core) at = subst (λ z. Turning next (does z)) (is_core c core at) (each core at)

    pub attempt_turns : (c : ℕ) → TurnsAt (c + 1) m → Turning (c + 1) (on_event m (event.Attempt c))
    attempt_turns c so = if_core (c + 1) c so (λ core. tried m c core (attempt_open core core.open_op))
        (λ core at. attempts c core at so _
        (attempt_goes m.config m.opening a s.kept c (below c core at) (a.cores c).open_op refl))

    pub evict_turns : (c line : ℕ) → TurnsAt (c + 1) m →
        (on_event m (event.Attempt c)).0 ≡ answer.Refused refusal.NoRoom →
        Turning (c + 1) (on_event m (event.EvictCache c line))
    evict_turns c line so full = if_core (c + 1) c so
        (λ core. changed m (with_core m c) None (copy_evicted (core_table.evict core line)))
        (λ core at. let lacks = lacks_copy c core at (a.cores c).open_op refl
        (subst (λ (z : CoreState). (tried m c z (attempt_open z z.open_op)).0 ≡ answer.Refused refusal.NoRoom)
        (sym (is_core c core at))
        (sym (ap (λ (o : Answer × Machine). o.0) (finds m (λ x. tried m c x (attempt_open x x.open_op)) at)) ∙ full)) in
        by_turn c core at (leaving c line) (c + 1) so
        (λ d t. leaving_keeps f (view m.config a) _ c line t.leads lacks so) _
        (eviction_goes m.config m.opening a s.kept c (below c core at) line (copy_of (a.cores c).cache line) refl))

    pub advance_turns : (c next : ℕ) → TurnsAt next m → Turning next (on_event m (event.Advance c))
    advance_turns c next so = if_core next c so
        (λ core. changed m (with_core m c) None (step.advanced (core_table.advance core)))
        (λ core at. by_turn c core at advancing next so
        (λ d t. advance_keeps f (view m.config a) _ next t.leads so) _
        (advance_goes m.config m.opening a s.kept c (below c core at) (fits ((a.cores c).pts + 1))))

    pub issue_turns : (c : ℕ) (op : Op) → TurnsAt c m → Turning (c + 1) (on_event m (event.Issue c op))
    issue_turns c op so = if_core (c + 1) c (later f c (view m.config a) so)
        (λ core. issued m c op (core_table.issue core op))
        (λ core at. issues c core at op so _
        (issue_goes m.config m.opening a s.kept c (below c core at) op (a.cores c).open_op refl))

-- A line that is recalled is brought back, though its owner must be granted it first, or completes its own operation.
use Rattle.std.proofs.Common.{◌≡◌, ◌≢◌, ℕ, suc, ◌+◌, ◌/◌, ◌%◌, ◌<◌, ◌≤◌, max, Bool, true, false, cond, eqb, List, ◌∷◌}
use Rattle.std.proofs.Common.{length, Option, Some, None, ◌⊎◌, inl, inr, refl, sym, ap, ◌∙◌, subst, arith, ⊎_elim}
use Rattle.std.proofs.Common.{le_trans, option_map, rules}
use Rattle.std.proofs.lemmas.Bool.{cases_eq, cond-true, eq-eqb, eqb-true}
use Rattle.physiological_order.specs.declared.operation.Op.{Op}
use Rattle.physiological_order.specs.declared.operation.Op.TheVariants.{Load, Store}
use Rattle.physiological_order.specs.Order.{address, of_core}
use Rattle.network.specs.declared.message.Node.TheVariants as node
use Rattle.network.specs.declared.message.Body.{Body}
use Rattle.network.specs.declared.message.Body.TheVariants as body
use Rattle.network.specs.declared.message.Message.{Message}
use Rattle.network.specs.declared.message.TimedLine.{TimedLine}
use Rattle.llc_bank.specs.declared.entry.Entry.{Entry}
use Rattle.llc_bank.specs.declared.entry.Entry.TheVariants as entry
use Rattle.llc_bank.specs.BankTable.{core_of, entry_of}
use Rattle.private_cache.specs.declared.line_copy.LineCopy.{LineCopy}
use Rattle.private_cache.specs.CopyTable.{copy_of, is_pinned, downgraded}
use Rattle.timestamp_manager.specs.Lease.{returned_lease}
use Rattle.core_pts.specs.declared.decision.CoreReaction.TheVariants.{Returns, TooLate}
use Rattle.core_pts.specs.OnCopy as on_copy
use Rattle.core_pts.specs.OnCopy.{is_exclusive, words_of_copy}
use Rattle.core_pts.specs.CoreTable as core_table
use Rattle.core_pts.specs.CoreTable.{CoreState, pinned_line}
use Rattle.machine_table.specs.declared.event.Answer.TheVariants.{Delivered}
use Rattle.machine_table.specs.Step.{Makes, Does, Getting, core_step, reacted, Evicting}
use Rattle.protocol.specs.Machine as by_line
use Rattle.protocol.specs.Machine.{with_at, tally, waits}
use Rattle.protocol.specs.Recalls.{recall_to, grant_to, return_of, OwnerAnswers}
use Rattle.protocol.proofs.Lemmas.{with_at_same, with_at_other, Some_injective, reachable_blocked, of_core-other, about}
use Rattle.protocol.proofs.Lemmas.{waits_here, waits_there, one_if}
use Rattle.machine_theorem.specs.Bags.{weigh, SameBag}
use Rattle.machine_theorem.specs.States.{State}
use Rattle.machine_theorem.specs.Moves.{with_core, with_answer, Move, core_steps, goes_on}
use Rattle.machine_theorem.specs.View.{body_seen, message_seen, messages_of, core_seen, entry_seen, set_up, line_seen}
use Rattle.machine_theorem.specs.View.{view, copy_or_none}
use Rattle.machine_theorem.proofs.Services.{a_core, IsLate, IsService, leads_late, leads_within}
use Rattle.machine_theorem.proofs.Bags.{as_many}
use Rattle.machine_theorem.proofs.Lookups.{put_now, messages_here}
use Rattle.machine_theorem.proofs.Consistency.{state_consistent, line_counts}
use Rattle.machine_theorem.proofs.Deliveries.{owned_copy, counts_if, of_line, line_weighs, Found, found, found_of}
use Rattle.machine_theorem.proofs.Deliveries.{ToCore, to_core, core_decided, owner_serves, IsReply, Suits, completed}
use Rattle.machine_theorem.proofs.Deliveries.{its_core, served}
use Rattle.machine_theorem.proofs.Ways.{Setting, AsksFor, Stands, Beside, Way, way_after, way_here, kept, unasked}
use Rattle.machine_theorem.proofs.Ways.{asked_still, IsShared, IsGone, by_return, evicts, by_loading, by_storing}
use Rattle.machine_theorem.proofs.Ways.{by_shared, way_then, answered, bank_moves, changed}
use Rattle.machine_theorem.specs.Shape.{IsCore}
use Rattle.machine_theorem.proofs.Taken.{takes}
use Rattle.machine_theorem.specs.Rounds.{IsRequest}

-- The core waits for a reply: its operation is open on the line, and one request is out.
pub record Waits (who : Setting) : Type 0 where
  pub op : Op
  pub is_out : who.K.out ≡ true
  pub opens : who.K.open_op ≡ Some op
  pub on : by_line.line_of (set_up who.config who.opening) (address op) ≡ who.l
  pub one_needed : who.need ≡ 1

module _ (who : Setting) where
  open who use {config, good, opening, n, c, l, K, w}

  abbrev f : by_line.Config
  f = set_up config opening

  abbrev home : ℕ → ℕ
  home h = h % config.banks

  -- a core's step
  module _ (a : State) (st : Stands who a) (o : ℕ) where
    abbrev core : CoreState
    core = a.cores o

    seen_still : (new : CoreState) → (c ≡ o → core_seen new ≡ core_seen core) → core_seen (with_at a.cores o new c) ≡ K
    seen_still new same =
        ⊎_elim
        (λ (e : c ≡ o). ap core_seen (ap (λ (i : ℕ). with_at a.cores o new i) e ∙ with_at_same a.cores o new)
        ∙ same e ∙ sym (ap (λ (i : ℕ). core_seen (a.cores i)) e) ∙ st.core_is)
        (λ (ne : c ≡ o → ⊥). ap core_seen (with_at_other a.cores o new c ne) ∙ st.core_is)
        (cases_eq c o)

    cores_beside : (h : ℕ) (b : State) → b.banks ≡ a.banks → of_core c b.records ≡ of_core c a.records →
        Beside who h a b
    cores_beside h b banks records = search rules

    -- it consumes a message, and answers with another, or not
    core_gets : {h k : ℕ} {Goal : State → Type 0} {sends : Option Message} {new : CoreState} (x : Message)
        (rest : List Message) (taken : SameBag a.bag (x ∷ rest)) → w x ≡ 0 →
        ToCore config opening a (kept who a st) x rest taken → core_of x.to ≡ o →
        (c ≡ o → core_seen new ≡ core_seen core) →
        core_step core (Getting x) ≡ Does (Makes Delivered true sends new) → length a.bag ≤ suc n →
        ((b : State) → b ≡ with_answer (with_core a o new) rest sends → Stands who b → length b.bag ≤ suc n →
        Way who h k Goal b) → Way who h (suc k) Goal a
    core_gets {h = h} {sends = sends} {new = new} x rest taken calm at to same done size go =
        let b : State = with_answer (with_core a o new) rest sends in
        let its = its_core config opening a (kept who a st) x rest taken at o to in
        let move : Move config a b = core_steps o (Getting x) rest (Makes Delivered true sends new) its.0
        (taken, its.1, its.2) done refl in
        let is = answered w (with_core a o new) rest sends in
        let e = as_many a.bag (x ∷ rest) taken in
        let few : length b.bag ≤ suc n = let z = is.few in omega arith in
        way_after who move (λ z. cc) few (cores_beside h b is.banks (ap (of_core c) is.records))
        (go b refl (record {
          reached = goes_on st.reached move;
          core_is = ap (λ (g : ℕ → CoreState). core_seen (g c)) is.cores ∙ seen_still new same;
          asked = le_trans (asked_still who a.bag x rest taken calm st.asked) is.weighs;
        }) few)

  if_one : (d o : ℕ) → 1 ≤ cond (eqb d o) 1 0 → d ≡ o
  if_one d o some = eqb-true d o (counts_if (eqb d o) 1 some).0

  -- a return that is on its way
  pub is_back : (q : Message) (rest : List Message) (o : ℕ) (line : TimedLine) → q.from ≡ node.Core o →
      (q.body ≡ body.FlushRep line) ⊎ (q.body ≡ body.WbRep line) →
      1 ≤ tally (return_of o) (messages_of (q ∷ rest) q.line)
  is_back q rest o line from is = rw (messages_here q rest) (by_body is)
    where
      one : ◌≡◌ {A = ℕ} (cond (eqb (core_of q.from) o) 1 0) 1
      one = cond-true (eqb (core_of q.from) o) 1 0 (eq-eqb (core_of q.from) o (ap core_of from))

      by_body : (q.body ≡ body.FlushRep line) ⊎ (q.body ≡ body.WbRep line) →
          1 ≤ return_of o (message_seen q) + tally (return_of o) (messages_of rest q.line)
      by_body (inl e) = let z : return_of o (message_seen q) ≡ 1 = rw e one in omega arith
      by_body (inr e) = let z : return_of o (message_seen q) ≡ 1 = rw e one in omega arith

  -- the owner, with no operation open on the line, answers the recall
  by_recall : (a : State) → Stands who a → length a.bag ≤ suc n → (h o : ℕ) (held : LineCopy) →
      copy_of (a.cores o).cache h ≡ Some held → is_exclusive held.state ≡ true →
      is_pinned (pinned_line (a.cores o)) h ≡ false →
      1 ≤ tally (recall_to o) (messages_of a.bag h) → Way who h 2 (IsShared who h) a
  by_recall a st size h o held is ex un recall =
      let k = found_of h (recall_to o) a.bag recall in
      rw (← k.line) (go k.message k.rest k.taken (rw k.line is) (rw k.line un) k.message.body refl k.weighs)
    where
      -- the core gives the line back
      gives : (x : Message) (rest : List Message) (taken : SameBag a.bag (x ∷ rest)) (b : Body) → x.body ≡ b →
          (IsRequest b → ⊥) → ToCore config opening a (kept who a st) x rest taken → core_of x.to ≡ o →
          (kept_copy : Option LineCopy) (line : TimedLine) (sent : Body) →
          (sent ≡ body.FlushRep line) ⊎ (sent ≡ body.WbRep line) →
          core_step (a.cores o) (Getting x)
          ≡ Does (reacted (core_table.after_reaction (a.cores o) x.line (Returns kept_copy sent))) →
          Way who x.line 2 (IsShared who x.line) a
      gives x rest taken b e no_ask at to kept_copy line sent back done =
          core_gets a st o x rest taken (unasked who x b e no_ask) at to (λ z. refl) done size
          (λ s same ss less. by_return who s ss less x.line o (rw same (is_back
          (core_table.to_bank (a.cores o) x.line sent) rest o line
          (ap node.Core ((kept who a st).shape.each_core o).numbered) back)))

      go : (x : Message) (rest : List Message) (taken : SameBag a.bag (x ∷ rest)) →
          copy_of (a.cores o).cache x.line ≡ Some held → is_pinned (pinned_line (a.cores o)) x.line ≡ false →
          (b : Body) → x.body ≡ b → 1 ≤ recall_to o (body_seen (core_of x.from) (core_of x.to) b) →
          Way who x.line 2 (IsShared who x.line) a
      go x rest taken copy off body.FlushReq e weighs =
          gives x rest taken body.FlushReq e (λ z. z)
          (to_core config opening a (kept who a st) x rest taken body.FlushReq e (λ f k i. refl) refl)
          (if_one (core_of x.to) o weighs) None (words_of_copy held) (body.FlushRep (words_of_copy held)) (inl refl)
          (core_decided (a.cores o) x body.FlushReq false (Some held)
          (Returns None (body.FlushRep (words_of_copy held))) e off copy (cond-true (is_exclusive held.state) _ _ ex))
      go x rest taken copy off (body.WbReq until) e weighs =
          by_time (returned_lease held.wts held.rts until (a.cores o).lease) refl
        where
          at : ToCore config opening a (kept who a st) x rest taken
          at = to_core config opening a (kept who a st) x rest taken (body.WbReq until) e (λ f k i. refl) refl

          by_time : (rts : Option ℕ) → returned_lease held.wts held.rts until (a.cores o).lease ≡ rts →
              Way who x.line 2 (IsShared who x.line) a
          by_time (Some rts) t =
              let copy' = downgraded rts held in
              gives x rest taken (body.WbReq until) e (λ z. z) at (if_one (core_of x.to) o weighs) (Some copy')
              (words_of_copy copy') (body.WbRep (words_of_copy copy')) (inr refl)
              (core_decided (a.cores o) x (body.WbReq until) false (Some held)
              (Returns (Some copy') (body.WbRep (words_of_copy copy'))) e off copy
              (cond-true (is_exclusive held.state) _ _ ex ∙ ap (on_copy.returned held) t))
          by_time None t =
              let its = its_core config opening a (kept who a st) x rest taken at o (if_one (core_of x.to) o weighs) in
              leads_late (a_core o (Getting x) rest its.0 (λ z. cc) (taken, its.1, its.2)
              (core_decided (a.cores o) x (body.WbReq until) false (Some held) TooLate e off copy
              (cond-true (is_exclusive held.state) _ _ ex ∙ ap (on_copy.returned held) t)))
      go x rest taken copy off _ e weighs = absurd (omega arith)

  pub exclusive_still : (i ts : ℕ) (p : Op) (held : LineCopy) → is_exclusive held.state ≡ true →
      is_exclusive (on_copy.copy_after i ts p held).state ≡ true
  exclusive_still i ts (Load a) held ex = ap (λ (x : LineCopy). is_exclusive x.state)
      (cond-true (is_exclusive held.state) (record held { rts = max ts held.rts }) held ex) ∙ ex
  exclusive_still i ts _ held ex = ex

  module _ (how : Waits who) where
    open how use {op, is_out, opens, on}

    -- the core that waits owns no copy of its line
    pub no_own : (a : State) → Stands who a → (held : LineCopy) → copy_of (a.cores c).cache l ≡ Some held →
        is_exclusive held.state ≡ true → ⊥
    no_own a st held is ex =
        let v = view config a in
        let blocked = (reachable_blocked f v (kept who a st).reached.reachable).blocked c op
        (ap (λ (k : by_line.Core). k.open_op) st.core_is ∙ opens) (ap (λ (k : by_line.Core). k.out) st.core_is ∙
        is_out) in
        let can = subst (λ (i : Option by_line.Copy). by_line.CannotUse op (v.cores c).pts i) (ap copy_or_none is)
        (subst (λ (i : ℕ). by_line.CannotUse op (v.cores c).pts ((v.lines i).copies c)) on blocked) in
        let z : true ≡ false = sym ex ∙ can.0 in cc

    by_owner : (a : State) → Stands who a → length a.bag ≤ suc n → (h o : ℕ) → o < config.cores →
        (held : LineCopy) → copy_of (a.cores o).cache h ≡ Some held → is_exclusive held.state ≡ true →
        1 ≤ tally (recall_to o) (messages_of a.bag h) → Way who h 3 (IsShared who h) a
    by_owner a st size h o below held is ex recall = by_pin (is_pinned (pinned_line (a.cores o)) h) refl
      where
        core : CoreState
        core = a.cores o

        cases : IsCore config o (a.issued o) core
        cases = (kept who a st).shape.each_core o

        completes : (p : Op) → core.open_op ≡ Some p → core_table.line_of core p ≡ h →
            IsLate config a ⊎ ((ts : ℕ) × (move : Move config a (completed a o p held ts)) × IsService move) →
            Way who h 3 (IsShared who h) a
        completes p q here (inl late) = leads_late late
        completes p q here (inr (ts, move, serves)) =
            let b = completed a o p held ts in
            let copy' = on_copy.copy_after (core_table.index_of core p) ts p held in
            let apart : c ≢ o = λ e.
            let same_line : h ≡ l = sym here ∙ ap (λ (k : ℕ). address p / k) cases.line_words
            ∙ ap (λ (i : Op). by_line.line_of f (address i)) (Some_injective p op (sym q
            ∙ ap (λ (i : ℕ). (a.cores i).open_op) (sym e) ∙ ap (λ (k : by_line.Core). k.open_op) st.core_is ∙ opens))
            ∙ on in
            no_own a st held (rw (e, ← same_line) is) ex in
            way_after who move serves size
            (cores_beside a st o h b refl (of_core-other c a.records _ (λ e. apart (sym e))))
            (by_recall b (record {
              reached = goes_on st.reached move;
              core_is = seen_still a st o _ (λ e. absurd (apart e));
              asked = st.asked;
            }) size h o copy'
            (ap (λ (k : CoreState). copy_of k.cache h) (with_at_same a.cores o _)
            ∙ rw (← here) (put_now (λ k. k) core.cache.sets cases.sets (core_table.line_of core p) copy').here)
            (exclusive_still (core_table.index_of core p) ts p held ex)
            (ap (λ (k : CoreState). is_pinned (pinned_line k) h) (with_at_same a.cores o _)) recall)

        by_op : (q : Option Op) → core.open_op ≡ q → is_pinned (option_map (core_table.line_of core) q) h ≡ true →
            Way who h 3 (IsShared who h) a
        by_op None q pinned = absurd (let z : false ≡ true = pinned in cc)
        by_op (Some p) q pinned =
            let here = eqb-true (core_table.line_of core p) h pinned in
            completes p q here (served config a o below p held q (rw here is) (owner_serves core.pts held ex p) _ refl)

        by_pin : (b : Bool) → is_pinned (pinned_line core) h ≡ b → Way who h 3 (IsShared who h) a
        by_pin false off = leads_within (by_recall a st size h o held is ex off recall) (omega arith)
        by_pin true pinned = by_op core.open_op refl pinned

    -- no grant of a line goes to the core that waits: its request is still out
    pub not_granted : (a : State) → Stands who a → (h : ℕ) (x : Message) (rest : List Message) → SameBag a.bag
        (x ∷ rest) →
        x.line ≡ h → w x ≡ 0 → 1 ≤ about c (message_seen x) → ⊥
    not_granted a st h x rest taken line calm some = by_line' (cases_eq h l)
      where
        weight : Message → ℕ
        weight = of_line h (about c)

        total : weigh weight a.bag ≡ waits f h K.out K.open_op
        total = sym (line_weighs h (about c) a.bag) ∙ (line_counts config opening a (kept who a st) h).2 c
            ∙ ap (λ (k : by_line.Core). waits f h k.out k.open_op) st.core_is

        expected : waits f h K.out K.open_op ≡ waits f h true (Some op)
        expected = rw (is_out, opens)

        one : 1 ≤ weight x
        one = rw (eq-eqb x.line h line) some

        q : Found w rest
        q = found w rest (let z = asked_still who a.bag x rest taken calm st.asked in omega arith)

        asks : (b : Body) → IsRequest b → (from to : ℕ) → from ≡ c → 1 ≤ about c (body_seen from to b)
        asks (body.ShReq pts version) ask from to e = let z = ap one_if (eq-eqb from c e) in omega arith
        asks (body.ExReq version) ask from to e = let z = ap one_if (eq-eqb from c e) in omega arith
        asks _ ask from to e = absurd ask

        request : AsksFor c l q.message
        request = who.w_asks q.message q.weighs

        by_line' : (h ≡ l) ⊎ (h ≡ l → ⊥) → ⊥
        by_line' (inl e) =
            let two : 1 ≤ weight q.message = rw (eq-eqb q.message.line h (request.line ∙ sym e))
            (asks q.message.body request.asks (core_of q.message.from) (core_of q.message.to)
            (ap core_of request.from)) in
            let s1 = taken weight in
            let s2 = q.taken weight in
            let z : waits f h true (Some op) ≡ 1 =
            subst (λ (i : ℕ). waits f i true (Some op) ≡ 1) (on ∙ sym e) (waits_here f op) in
            omega (arith, total, expected, one, two, s1, s2, z)
        by_line' (inr ne) =
            let s1 = taken weight in
            let z : waits f h true (Some op) ≡ 0 = waits_there f h op (λ e. ne (e ∙ on)) in
            omega (arith, total, expected, one, s1, z)

    -- the grant comes to its core
    by_grant : (a : State) → Stands who a → length a.bag ≤ suc n → (h o : ℕ) → o < config.cores →
        1 ≤ tally (grant_to o) (messages_of a.bag h) → 1 ≤ tally (recall_to o) (messages_of a.bag h) →
        Way who h 4 (IsShared who h) a
    by_grant a st size h o below grant recall =
        let k = found_of h (grant_to o) a.bag grant in
        rw (← k.line) (go k.message k.rest k.taken (rw k.line recall) k.message.body refl k.weighs)
      where
        granted : (x : Message) (rest : List Message) (taken : SameBag a.bag (x ∷ rest)) (b : Body) → x.body ≡ b →
            (IsRequest b → ⊥) → 1 ≤ tally (recall_to o) (messages_of a.bag x.line) →
            ToCore config opening a (kept who a st) x rest taken → core_of x.to ≡ o →
            ((from to : ℕ) → about to (body_seen from to b) ≡ one_if (eqb to to)) →
            ((from to : ℕ) → recall_to o (body_seen from to b) ≡ 0) → IsReply b → ((p : Op) (pts : ℕ) → Suits p pts b) →
            Way who x.line 4 (IsShared who x.line) a
        granted x rest taken b e no_ask recalled at to reply off replies suits =
            let its = its_core config opening a (kept who a st) x rest taken at o to in
            let t = takes config good opening o below a st.reached x rest taken its.1 (rw e replies) in
            let calm = unasked who x b e no_ask in
            let about_it : 1 ≤ about (core_of x.to) (message_seen x) =
            (let z = ap (λ (d : Body). about (core_of x.to) (body_seen (core_of x.from) (core_of x.to) d)) e
            ∙ reply (core_of x.from) (core_of x.to) ∙ ap one_if (eq-eqb (core_of x.to) (core_of x.to) refl) in
            omega arith) in
            core_gets a st o x rest taken calm at to
            (λ z. absurd (not_granted a st x.line x rest taken refl calm (rw (z, ← to) about_it))) t.done size
            (λ s same sb less. by_owner s sb less x.line o below t.held
            (rw same (ap (λ (k : CoreState). copy_of k.cache x.line) (with_at_same a.cores o _) ∙ t.has))
            (t.serves (Store 0 0) (rw e (suits _ _)))
            (rw same (let i = line_weighs x.line (recall_to o) a.bag in
            let j = line_weighs x.line (recall_to o) rest in
            let m = taken (of_line x.line (recall_to o)) in
            let zero_is : of_line x.line (recall_to o) x ≡ 0 =
            rw (eq-eqb x.line x.line refl, e) (off (core_of x.from) (core_of x.to)) in omega arith)))

        go : (x : Message) (rest : List Message) (taken : SameBag a.bag (x ∷ rest)) →
            1 ≤ tally (recall_to o) (messages_of a.bag x.line) → (b : Body) → x.body ≡ b →
            1 ≤ grant_to o (body_seen (core_of x.from) (core_of x.to) b) → Way who x.line 4 (IsShared who x.line) a
        go x rest taken recalled (body.ExRep line) e weighs =
            granted x rest taken (body.ExRep line) e (λ z. z) recalled
            (to_core config opening a (kept who a st) x rest taken (body.ExRep line) e (λ f' k i. refl) refl)
            (if_one (core_of x.to) o weighs) (λ from to. refl) (λ from to. refl) tt (λ p pts. tt)
        go x rest taken recalled (body.UpgradeRep rts) e weighs =
            granted x rest taken (body.UpgradeRep rts) e (λ z. z) recalled
            (to_core config opening a (kept who a st) x rest taken (body.UpgradeRep rts) e (λ f' k i. refl) refl)
            (if_one (core_of x.to) o weighs) (λ from to. refl) (λ from to. refl) tt (λ p pts. tt)
        go x rest taken recalled _ e weighs = absurd (omega arith)

    pub owner_below : (a : State) → Stands who a → (h o : ℕ) → entry_of (a.banks (home h)) h ≡ Some
        (entry.Recalling o) →
        o < config.cores
    owner_below a st h o is = ((kept who a st).shape.each_bank (home h)).owners h (entry.Recalling o) is

    pub by_recalling : (a : State) → Stands who a → length a.bag ≤ suc n → (h o : ℕ) →
        entry_of (a.banks (home h)) h ≡ Some (entry.Recalling o) → Way who h 4 (IsShared who h) a
    by_recalling a st size h o is = go (subst (OwnerAnswers (line_seen config a h)) (ap entry_seen is)
        ((state_consistent config opening a (kept who a st)).recalls h))
      where
        go : OwnerAnswers (line_seen config a h) (by_line.Recalling o) → Way who h 4 (IsShared who h) a
        go (inl back) = leads_within (by_return who a st size h o back) (omega arith)
        go (inr (recall, inl owns_it)) =
            let k = owned_copy (copy_of (a.cores o).cache h) owns_it in
            leads_within (by_owner a st size h o (owner_below a st h o is) k.0 k.1 k.2 recall) (omega arith)
        go (inr (recall, inr grant)) = by_grant a st size h o (owner_below a st h o is) grant recall

    pub by_exclusive : (a : State) → Stands who a → length a.bag ≤ n → (h o : ℕ) →
        entry_of (a.banks (home h)) h ≡ Some (entry.Exclusive o) → Way who h 5 (IsShared who h) a
    by_exclusive a st size h o is =
        bank_moves who a st h (Evicting h) a.bag refl (evicts who a st h _ is)
        (changed who a st h (entry.Recalling o) _ is) st.asked size
        (λ b same sb less now. by_recalling b sb less h o now)

    -- whatever the entry is, the line leaves
    pub emptied : (a : State) → Stands who a → length a.bag ≤ n → (h : ℕ) → Way who h 8 (IsGone who h) a
    emptied a st size h = by_entry (entry_of (a.banks (home h)) h) refl
      where
        shared : {j : ℕ} → Way who h j (IsShared who h) a → j + 3 ≤ 8 → Way who h 8 (IsGone who h) a
        shared way le = way_then who way (λ b x. by_shared who b x.stands x.few h x.goal) le

        by_entry : (e : Option Entry) → entry_of (a.banks (home h)) h ≡ e → Way who h 8 (IsGone who h) a
        by_entry None is = way_here who st size is
        by_entry (Some entry.Loading) is = shared (by_loading who a st (omega arith) h is) (omega arith)
        by_entry (Some (entry.Shared dirty line)) is =
            leads_within (by_shared who a st size h (dirty, line, is)) (omega arith)
        by_entry (Some (entry.Exclusive o)) is = shared (by_exclusive a st size h o is) (omega arith)
        by_entry (Some (entry.Recalling o)) is = shared (by_recalling a st (omega arith) h o is) (omega arith)
        by_entry (Some entry.Storing) is = leads_within (by_storing who a st (omega arith) h is) (omega arith)

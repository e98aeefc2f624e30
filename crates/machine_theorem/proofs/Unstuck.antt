-- Nothing is stuck: services complete the open operation of any core, in every reached state, or a time doesn't fit.
use Rattle.std.proofs.Common.{⊎_elim, ◌≡◌, ◌≢◌, ℕ, suc, ◌+◌, ◌/◌, ◌%◌, ◌<◌, ◌≤◌, Bool, true, false, ◌&&◌, cond, eqb}
use Rattle.std.proofs.Common.{leb, List, ◌∷◌, length, Option, Some, None, ◌⊎◌, inl, inr, refl, sym, ap, ◌∙◌, subst}
use Rattle.std.proofs.Common.{arith, le_trans, le_refl, nat_cmp, is_some, mod-lt, rules}
use Rattle.std.specs.FinMap.{FinMap}
use Rattle.std.proofs.lemmas.Bool.{and_parts, cases_Bool, or_parts, or_right, cond-true, eq-eqb, ne_eqb, eqb-true}
use Rattle.std.proofs.lemmas.Bool.{lt-ltb, ltb-false, leb-true, le-leb}
use Rattle.physiological_order.specs.declared.operation.Op.{Op}
use Rattle.physiological_order.specs.declared.operation.Op.TheVariants.{Load}
use Rattle.physiological_order.specs.Order.{address, of_core}
use Rattle.network.specs.declared.message.Node.{Node}
use Rattle.network.specs.declared.message.Node.TheVariants as node
use Rattle.network.specs.declared.message.Body.{Body}
use Rattle.network.specs.declared.message.Body.TheVariants as body
use Rattle.network.specs.declared.message.Message.{Message}
use Rattle.network.specs.declared.message.TimedLine.{TimedLine}
use Rattle.network.specs.Mail.{counted}
use Rattle.line_sets.specs.Order.{is_there, without}
use Rattle.line_sets.specs.SetTable.{Sets, set_at, has_room}
use Rattle.line_sets.proofs.Lemmas.{length-without_there, length-drop_line, set_at-set_same}
use Rattle.private_cache.specs.declared.line_copy.LineCopy.{LineCopy}
use Rattle.private_cache.specs.declared.cache.CacheError.TheVariants as not_left
use Rattle.private_cache.specs.CopyTable as cache
use Rattle.private_cache.specs.CopyTable.{copy_of, is_pinned, place_for}
use Rattle.core_pts.specs.OnCopy as on_copy
use Rattle.core_pts.specs.OnCopy.{is_exclusive, words_of_copy}
use Rattle.core_pts.specs.CoreTable as core_table
use Rattle.core_pts.specs.CoreTable.{CoreState, pinned_line, comes_to_core}
use Rattle.llc_bank.specs.declared.entry.Entry.{Entry}
use Rattle.llc_bank.specs.BankTable.{BankState, core_of, entry_of, comes_to_bank, is_core}
use Rattle.dram_mts.specs.Table.{comes_to_dram}
use Rattle.machine_table.specs.declared.config.Config.{Config}
use Rattle.machine_table.specs.declared.event.Answer.TheVariants.{Evicted, Requested}
use Rattle.machine_table.specs.SetUp.{is_good}
use Rattle.machine_table.specs.Step as step
use Rattle.machine_table.specs.Step.{Makes, Does, Completes, Attempting, Evicting, core_step, attempted, record_of}
use Rattle.protocol.specs.Machine as by_line
use Rattle.protocol.specs.Machine.{tally}
use Rattle.protocol.proofs.Lemmas.{with_at_same, of_core-own, about, waits_here, one_if}
use Rattle.machine_theorem.specs.Bags.{weigh, SameBag}
use Rattle.machine_theorem.specs.States.{State}
use Rattle.machine_theorem.specs.Moves.{with_core, Move, core_steps, Reached, goes_on}
use Rattle.machine_theorem.specs.View.{body_seen, core_seen, messages_of, set_up}
use Rattle.machine_theorem.specs.Kept.{IsKept}
use Rattle.machine_theorem.proofs.Services as defined
use Rattle.machine_theorem.proofs.Services.{IsService, IsLate, EndsWithin, leads_after, leads_for, leads_here}
use Rattle.machine_theorem.proofs.Services.{leads_late, leads_on, leads_wider, leads_within}
use Rattle.machine_theorem.proofs.Lookups.{drop_now}
use Rattle.machine_theorem.proofs.ReachedStates.{reached_kept}
use Rattle.machine_theorem.proofs.Openings.{fair}
use Rattle.machine_theorem.proofs.SetSizes.{Fits}
use Rattle.machine_theorem.proofs.Sizes.{reached_sized, first_there}
use Rattle.machine_theorem.proofs.Deliveries.{attempt_as, OfLine, found_of, counts_if, to_bank, to_core, IsReply, Suits}
use Rattle.machine_theorem.proofs.Deliveries.{suits_replies, comes, completed, its_core, served}
use Rattle.machine_theorem.proofs.Ways.{AsksFor, Setting, returned}
use Rattle.machine_theorem.proofs.Recalled.{is_back}
use Rattle.machine_theorem.proofs.Replies.{reply_comes, Answered, Replied}
use Rattle.machine_theorem.proofs.Taken.{taken}
use Rattle.machine_theorem.proofs.Consistency.{line_counts}
use Rattle.machine_theorem.specs.Rounds.{IsRequest}

module _ (config : Config) (good : is_good config ≡ true) (opening : FinMap nat_cmp ℕ) (c : ℕ)
    (below : c < config.cores) (op : Op) where
  abbrev f : by_line.Config
  f = set_up config opening

  abbrev l : ℕ
  l = by_line.line_of f (address op)

  kept : (a : State) → Reached config opening a → IsKept config opening a
  kept a r = reached_kept config opening good a r

  -- the line of the operation, as the core works it out
  its_line : (a : State) → Reached config opening a → core_table.line_of (a.cores c) op ≡ l
  its_line a r = ap (λ (k : ℕ). address op / k) ((kept a r).shape.each_core c).line_words

  abbrev Ends : ℕ → ℕ → State → Type 0
  Ends most k a = EndsWithin config most k c op a

  -- nothing of the core is completed first
  completes_later : (a b d : State) → of_core c b.records ≡ of_core c a.records → defined.Completes c op b d →
      defined.Completes c op a d
  completes_later a b d same x = search rules

  ends_after : {most k : ℕ} {a b : State} (move : Move config a b) → IsService move → length b.bag ≤ most →
      of_core c b.records ≡ of_core c a.records → Ends most k b → Ends most (suc k) a
  ends_after {a = a} {b = b} move is few same e =
      leads_after move is few (leads_for e (λ d x. completes_later a b d same x))

  -- the core's own copy serves the operation
  by_copy : (most : ℕ) (a : State) → Reached config opening a → length a.bag ≤ most →
      (a.cores c).open_op ≡ Some op → (held : LineCopy) → copy_of (a.cores c).cache l ≡ Some held →
      on_copy.serves op (a.cores c).pts held ≡ true → Ends most 1 a
  by_copy most a r size opens held is serves =
      go (served config a c below op held opens (rw (its_line a r) is) serves _ refl)
    where
      go : IsLate config a ⊎ ((ts : ℕ) × (move : Move config a (completed a c op held ts)) × IsService move) →
          Ends most 1 a
      go (inl late) = leads_late late
      go (inr (ts, move, is)) = leads_after move is size (leads_here (record {
        completion = record_of c (length a.records) (a.cores c) op
            (on_copy.received_at (core_table.index_of (a.cores c) op) op held) ts;
        its_operation = refl;
        records = of_core-own c a.records _ refl;
        closed = ap (λ (k : CoreState). k.open_op) (with_at_same a.cores c _);
      }))

  -- what is asked for by a reader at such a time, or by a writer
  abbrev asked_by : (ℕ → Bool) → Body → ℕ
  asked_by reads (body.ShReq pts version) = cond (reads pts) 1 0
  asked_by reads (body.ExReq version) = 1
  asked_by reads _ = 0

  asked_by_asks : (reads : ℕ → Bool) (b : Body) → 1 ≤ asked_by reads b → IsRequest b
  asked_by_asks reads (body.ShReq pts version) some = tt
  asked_by_asks reads (body.ExReq version) some = tt
  asked_by_asks reads _ some = absurd (omega arith)

  -- a message of the core about the line weighs that
  abbrev is_from : Node → Bool
  is_from (node.Core d) = eqb d c
  is_from _ = false

  abbrev weight : (ℕ → Bool) → Message → ℕ
  weight reads m = cond (eqb m.line l && is_from m.from) (asked_by reads m.body) 0

  weight_asks : (reads : ℕ → Bool) (m : Message) → 1 ≤ weight reads m → AsksFor c l m
  weight_asks reads m some =
      let k = counts_if (eqb m.line l && is_from m.from) (asked_by reads m.body) some in
      let its = and_parts (eqb m.line l) (is_from m.from) k.0 in
      record {
        line = eqb-true m.line l its.0;
        from = from_core m.from its.1;
        asks = asked_by_asks reads m.body k.1;
      }
    where
      from_core : (from : Node) → is_from from ≡ true → from ≡ node.Core c
      from_core (node.Core d) e = ap node.Core (eqb-true d c e)
      from_core _ e = absurd (cc)

  weighs_own : (reads : ℕ → Bool) (m : Message) → m.line ≡ l → m.from ≡ node.Core c →
      weight reads m ≡ asked_by reads m.body
  weighs_own reads m line from = cond-true (eqb m.line l && is_from m.from) (asked_by reads m.body) 0
      (ap (λ (p : Bool). p && is_from m.from) (eq-eqb m.line l line) ∙ ap is_from from ∙ eq-eqb c c refl)

  -- what the operation needs at this time
  abbrev is_load : Op → Bool
  is_load (Load a) = true
  is_load _ = false

  abbrev enough : ℕ → ℕ → Bool
  enough pts p = is_load op && leb pts p

  reads_long : (pts p : ℕ) → enough pts p ≡ true → (a : ℕ) × (op ≡ Load a) × (pts ≤ p)
  reads_long pts p some =
      let its = and_parts (is_load op) (leb pts p) some in
      let load = a_load op its.0 in (load.0, load.1, leb-true pts p its.1)
    where
      a_load : (p : Op) → is_load p ≡ true → (a : ℕ) × (p ≡ Load a)
      a_load (Load a) e = (a, refl)
      a_load _ e = absurd (cc)

  -- the core as it is, with its requests by what they ask for
  abbrev asking : (n need : ℕ) → State → (ℕ → Bool) → Setting
  asking n need a reads = record {
    config = config;
    good = good;
    opening = opening;
    n = n;
    c = c;
    l = l;
    need = need;
    K = core_seen (a.cores c);
    w = weight reads;
    w_asks = weight_asks reads;
  }

  bring : (n : ℕ) (a : State) → Reached config opening a → length a.bag ≤ n → (a.cores c).open_op ≡ Some op →
      (a.cores c).is_out ≡ true → (reads : ℕ → Bool) → 1 ≤ weigh (weight reads) a.bag → (S : Body → Type 0) →
      ((p : ℕ) → reads p ≡ true → (x : TimedLine) → p ≤ x.rts → S (body.ShRep x) × S (body.RenewRep x.rts)) →
      ((x : TimedLine) → S (body.ExRep x)) × ((rts : ℕ) → S (body.UpgradeRep rts)) →
      Answered (asking n 1 a reads) S 14 a
  bring n a r size opens out reads asked S shared owner =
      reply_comes (asking n 1 a reads)
      (record { op = op; is_out = out; opens = opens; on = refl; one_needed = refl }) S
      (λ m some p version e x le. shared p (read m p version e
      (counts_if (eqb m.line l && is_from m.from) (asked_by reads m.body) some).1) x le)
      (λ m some version e. owner) a (record { reached = r; core_is = refl; asked = asked }) size
    where
      read : (m : Message) (p : ℕ) (version : Option ℕ) → m.body ≡ body.ShReq p version → 1 ≤ asked_by reads m.body →
          reads p ≡ true
      read m p version e some = (counts_if (reads p) 1 (rw e at some)).0

  -- a core that waits for what its operation needs
  by_enough : (n : ℕ) (a : State) → Reached config opening a → length a.bag ≤ n → (a.cores c).open_op ≡ Some op →
      (a.cores c).is_out ≡ true → 1 ≤ weigh (weight (enough (a.cores c).pts)) a.bag → Ends (suc n) 16 a
  by_enough n a r size opens out asked =
      leads_on (bring n a r size opens out (enough pts) asked (Suits op pts)
      (λ p some x le. let z = reads_long pts p some in
      ((z.0, z.1, le_trans z.2 le), (z.0, z.1, le_trans z.2 le))) (λ x. tt, λ rts. tt))
      (λ b x. leads_for (replied b x.0) (λ d y. completes_later a b d x.1 y)) (omega arith)
    where
      pts : ℕ
      pts = (a.cores c).pts

      replied : (b : State) → Replied (asking n 1 a (enough pts)) (Suits op pts) b → Ends (suc n) 2 b
      replied b x =
          let t = taken config good opening c below op b x.reached x.reply x.rest x.taken x.to
          (suits_replies op pts _ x.suits) in
          let same_time : (b.cores c).pts ≡ pts = ap (λ (i : by_line.Core). i.pts) x.core_is in
          let less = t.fewer in
          let size' = x.few in
          ends_after t.move t.is (omega arith) (ap (of_core c) t.records)
          (by_copy (suc n) t.to t.reached (omega arith)
          (t.opens ∙ ap (λ (i : by_line.Core). i.open_op) x.core_is ∙ opens) t.held
          (subst (λ (i : ℕ). copy_of (t.to.cores c).cache i ≡ Some t.held) x.line t.has)
          (rw t.time (t.serves (rw same_time x.suits))))

  -- a core that asks
  module _ (n : ℕ) (a : State) (r : Reached config opening a) (size : length a.bag ≤ n)
      (opens : (a.cores c).open_op ≡ Some op) (quiet : (a.cores c).is_out ≡ false) where
    abbrev core : CoreState
    core = a.cores c

    asks_for : (b : Body) → core_step core Attempting ≡ Does (step.asks core op b) →
        1 ≤ asked_by (enough core.pts) b → Ends (suc (suc n)) 17 a
    asks_for b done enough' =
        let q = core_table.to_bank core (core_table.line_of core op) b in
        let new : CoreState = record core { is_out = true } in
        let s : State = record (with_core a c new) { bag = q ∷ a.bag; counts = counted a.counts b } in
        let move : Move config a s = core_steps c Attempting a.bag (Makes Requested false (Some q) new) below refl done
        refl in
        let now = with_at_same a.cores c new in
        let own : weight (enough core.pts) q ≡ asked_by (enough core.pts) b =
        weighs_own (enough core.pts) q (its_line a r) (ap node.Core ((kept a r).shape.each_core c).numbered) in
        ends_after move (λ z. cc) (omega arith) refl
        (by_enough (suc n) s (goes_on r move) (omega arith) (ap (λ (k : CoreState). k.open_op) now ∙ opens)
        (ap (λ (k : CoreState). k.is_out) now)
        (rw now (omega (arith, own, enough'))))

    -- by what it needs
    needs : (version : Option ℕ) → core_step core Attempting
        ≡ attempted core op (Some (core_table.need core.pts op version), core) → Ends (suc (suc n)) 17 a
    needs version done = by_kind op refl
      where
        by_kind : (p : Op) → op ≡ p → Ends (suc (suc n)) 17 a
        by_kind (Load x) e = asks_for (body.ShReq core.pts version)
            (done ∙ ap (λ (p : Op). attempted core op (Some (core_table.need core.pts p version), core)) e)
            (let z : enough core.pts core.pts ≡ true = rw (e, le-leb core.pts core.pts (le_refl _)) in
            rw z (omega arith))
        by_kind _ e = asks_for (body.ExReq version)
            (done ∙ ap (λ (p : Op). attempted core op (Some (core_table.need core.pts p version), core)) e)
            (omega arith)

    with_held : (held : LineCopy) → copy_of core.cache (core_table.line_of core op) ≡ Some held →
        Ends (suc (suc n)) 17 a
    with_held held is = ⊎_elim
        (λ (serves : on_copy.serves op core.pts held ≡ true). leads_within
        (by_copy (suc (suc n)) a r (omega arith) opens held (rw (its_line a r) at is) serves) (omega arith))
        (λ (serves : on_copy.serves op core.pts held ≡ false).
        needs (Some held.wts) (rw (serves, quiet) at (attempt_as core op opens (Some held) is)))
        (cases_Bool (on_copy.serves op core.pts held))

    with_place : copy_of core.cache (core_table.line_of core op) ≡ None →
        place_for core.cache (core_table.line_of core op) ≡ true → Ends (suc (suc n)) 17 a
    with_place is place = needs None (rw (quiet, place) at (attempt_as core op opens None is))

  -- one whose copy needs a place first
  module _ (n : ℕ) (a : State) (r : Reached config opening a) (size : length a.bag ≤ n)
      (opens : (a.cores c).open_op ≡ Some op) (quiet : (a.cores c).is_out ≡ false) where
    abbrev that_core : CoreState
    that_core = a.cores c

    abbrev its : ℕ
    its = core_table.line_of that_core op

    -- the set is full: another copy leaves
    module _ (v : ℕ) (held : LineCopy) (is : copy_of that_core.cache v ≡ Some held)
        (apart : v ≢ its) (gone : copy_of that_core.cache its ≡ None)
        (place : place_for (cache.without_copy that_core.cache v) its ≡ true) where
      abbrev left : CoreState
      left = record that_core { cache = cache.without_copy that_core.cache v }

      abbrev back : Message
      back = core_table.to_bank that_core v (body.FlushRep (words_of_copy held))

      off : is_pinned (pinned_line that_core) v ≡ false
      off = rw opens (ne_eqb its v (λ e. apart (sym e)))

      evicts : core_step that_core (Evicting v)
          ≡ Does (Makes Evicted false (cond (is_exclusive held.state) (Some back) None) left)
      evicts = search (rules, off)

      gone_still : copy_of left.cache its ≡ None
      gone_still = (drop_now (λ k. k) that_core.cache.sets ((kept a r).shape.each_core c).sets v).there
          its (λ e. apart (sym e)) ∙ gone

      -- the core is as the copy left it
      placed : (b : State) → Reached config opening b → length b.bag ≤ n → b.cores c ≡ left → Ends (suc (suc n)) 17 b
      placed b reached few now =
          with_place n b reached few (rw now opens) (rw now quiet) (rw now gone_still) (rw now place)

      by_state : (b : Bool) → is_exclusive held.state ≡ b → Ends (suc (suc n)) 19 a
      by_state false sh =
          let s : State = record (with_core a c left) { bag = a.bag } in
          let move : Move config a s = core_steps c (Evicting v) a.bag (Makes Evicted false None left) below refl
          (rw sh at evicts) refl in
          leads_within (ends_after move (λ z. cc) (omega arith) refl
          (placed s (goes_on r move) size (with_at_same a.cores c left))) (omega arith)
      by_state true ex =
          let s : State = record (with_core a c left) { bag = back ∷ a.bag; counts = counted a.counts back.body } in
          let move : Move config a s = core_steps c (Evicting v) a.bag (Makes Evicted false (Some back) left) below refl
          (rw ex at evicts) refl in
          let who = asking n 0 s (λ p. true) in
          let back_is = is_back who back a.bag c (words_of_copy held)
          (ap node.Core ((kept a r).shape.each_core c).numbered) (inl refl) in
          ends_after move (λ z. cc) (omega arith) refl
          (leads_on (leads_wider (returned who s
          (record { reached = goes_on r move; core_is = refl; asked = omega arith }) (omega arith) v c back_is)
          (omega arith))
          (λ b x. leads_for (placed b x.stands.reached x.few
          (ap (λ (g : ℕ → CoreState). g c) x.goal.1 ∙ with_at_same a.cores c left))
          (λ d y. completes_later s b d x.beside.records y)) (omega arith))

    -- a copy that can leave
    without_place : copy_of that_core.cache its ≡ None → place_for that_core.cache its ≡ false → Ends (suc (suc n)) 19 a
    without_place gone full = by_victim v.0 v.1 (copy_of that_core.cache v.0) refl
      where
        i : ℕ
        i = cache.set_of that_core.cache its

        fits : Fits config.sets config.ways (λ k. k) that_core.cache
        fits = (reached_sized config good opening a r).caches c

        -- what is in the set is in the cache
        has : (h : ℕ) → is_there (set_at that_core.cache.sets i) h ≡ true → is_some (copy_of that_core.cache h) ≡ true
        has h there = rw (fits.homes i h there) there

        v : (h : ℕ) × (is_there (set_at that_core.cache.sets i) h ≡ true)
        v = first_there (set_at that_core.cache.sets i)
            (let le = ltb-false (length (set_at that_core.cache.sets i)) that_core.cache.ways
            (or_parts (is_there (set_at that_core.cache.sets i) its) _ full).1 in
            let some = (fair config good).some_ways in
            let ways = fits.as_many_ways in omega (arith, le, some, ways))

        by_victim : (h : ℕ) → is_there (set_at that_core.cache.sets i) h ≡ true → (o : Option LineCopy) →
            copy_of that_core.cache h ≡ o → Ends (suc (suc n)) 19 a
        by_victim h there None is = absurd (let z : true ≡ false = sym (has h there) ∙ ap is_some is in cc)
        by_victim h there (Some held) is =
            by_state h held is (λ e. let z : true ≡ false = rw (e, gone) at (sym (has h there)) in cc) gone
            (or_right (is_there (set_at without_h.sets (cache.set_of without_h its)) its) _ room)
            (is_exclusive held.state) refl
          where
            without_h : Sets LineCopy
            without_h = cache.without_copy that_core.cache h

            j : ℕ
            j = cache.set_of that_core.cache h

            fewer : length (set_at without_h.sets (cache.set_of without_h its))
                ≡ length (without (set_at that_core.cache.sets j) h)
            fewer = ap (λ (k : ℕ). length (set_at without_h.sets k)) (ap (λ (m : ℕ). its % m)
                (length-drop_line that_core.cache.sets j h) ∙ sym (fits.homes i h there))
                ∙ ap length (set_at-set_same that_core.cache.sets j (without (set_at that_core.cache.sets j) h)
                (mod-lt h ((kept a r).shape.each_core c).sets))

            room : has_room without_h (cache.set_of without_h its) ≡ true
            room =
                let le = fits.sizes j in
                let e = fewer in
                let lt = length-without_there (set_at that_core.cache.sets j) h (ap is_some is) in
                lt-ltb _ that_core.cache.ways (omega (arith, le, e, lt))

    -- a core whose request isn't out
    quiet_ends : Ends (suc (suc n)) 19 a
    quiet_ends = by_held (copy_of that_core.cache its) refl
      where
        by_held : (o : Option LineCopy) → copy_of that_core.cache its ≡ o → Ends (suc (suc n)) 19 a
        by_held (Some held) is = leads_within (with_held n a r size opens quiet held is) (omega arith)
        by_held None gone = ⊎_elim
            (λ (place : place_for that_core.cache its ≡ true).
            leads_within (with_place n a r size opens quiet gone place) (omega arith))
            (λ (full : place_for that_core.cache its ≡ false). without_place gone full)
            (cases_Bool (place_for that_core.cache its))

  -- once a reply is taken, whatever it brought
  once_taken : (n : ℕ) (a : State) → Reached config opening a → length a.bag ≤ n → (a.cores c).open_op ≡ Some op →
      (x : Message) (rest : List Message) → SameBag a.bag (x ∷ rest) → x.to ≡ node.Core c → IsReply x.body →
      Ends (suc (suc n)) 20 a
  once_taken n a r size opens x rest same to reply =
      let t = taken config good opening c below op a r x rest same to reply in
      let less = t.fewer in
      ends_after t.move t.is (omega arith) (ap (of_core c) t.records)
      (quiet_ends n t.to t.reached (omega arith) (t.opens ∙ opens) t.quiet)

  -- a core whose request is out
  by_waiting : (n : ℕ) (a : State) → Reached config opening a → length a.bag ≤ n → (a.cores c).open_op ≡ Some op →
      (a.cores c).is_out ≡ true → Ends (suc (suc n)) 34 a
  by_waiting n a r size opens out = go x.message x.rest x.taken x.line x.message.body refl x.weighs
    where
      s : IsKept config opening a
      s = kept a r

      one : tally (about c) (messages_of a.bag l) ≡ 1
      one = rw (out, opens) at ((line_counts config opening a s l).2 c) ∙ waits_here f op

      x : OfLine l (about c) a.bag
      x = found_of l (about c) a.bag (omega (arith, one))

      one_is : (d : ℕ) → 1 ≤ one_if (eqb d c) → d ≡ c
      one_is d some = eqb-true d c (is_one (eqb d c) some)
        where
          is_one : (b : Bool) → 1 ≤ one_if b → b ≡ true
          is_one true some = refl
          is_one false some = absurd (omega arith)

      -- the request is out
      asked : (m : Message) (rest : List Message) → SameBag a.bag (m ∷ rest) → m.line ≡ l → (b : Body) → m.body ≡ b →
          ((core : CoreState) (line : ℕ) → core_table.comes_to_core core line b ≡ false) → comes_to_dram b ≡ false →
          ((from : Node) (e : Option Entry) → comes_to_bank from b e ≡ is_core from) →
          1 ≤ one_if (eqb (core_of m.from) c) → 1 ≤ asked_by (λ p. true) b → Ends (suc (suc n)) 34 a
      asked m rest same line b e no_core no_dram by of some =
          leads_on (leads_wider (bring n a r size opens out (λ p. true)
          (let z = same (weight (λ p. true)) in let y = weighs_own (λ p. true) m line (its_own m.from refl is) in
          let x : 1 ≤ asked_by (λ p. true) m.body = rw e some in omega arith)
          IsReply (λ p i y le. (tt, tt)) (λ y. tt, λ rts. tt)) (omega arith))
          (λ d y. leads_for (once_taken n d y.0.reached y.0.few
          (ap (λ (i : by_line.Core). i.open_op) y.0.core_is ∙ opens) y.0.reply y.0.rest y.0.taken y.0.to y.0.suits)
          (λ i z. completes_later a d i y.1 z)) (omega arith)
        where
          is : is_core m.from ≡ true
          is = sym (by m.from _)
              ∙ comes config opening a s m rest same (to_bank config opening a s m rest same b e no_core no_dram) b e

          its_own : (from : Node) → m.from ≡ from → is_core m.from ≡ true → m.from ≡ node.Core c
          its_own (node.Core d) e is = e ∙ ap node.Core (sym (ap core_of e) ∙ one_is (core_of m.from) of)
          its_own (node.Bank b) e is = absurd (let z : false ≡ true = sym (ap is_core e) ∙ is in cc)
          its_own (node.Dram b) e is = absurd (let z : false ≡ true = sym (ap is_core e) ∙ is in cc)

      -- the reply is
      replied : (m : Message) (rest : List Message) → SameBag a.bag (m ∷ rest) → (b : Body) → m.body ≡ b →
          ((from : Node) (bank : BankState) (line : ℕ) → comes_to_bank from b (entry_of bank line) ≡ false) →
          comes_to_dram b ≡ false → 1 ≤ one_if (eqb (core_of m.to) c) → IsReply b → Ends (suc (suc n)) 34 a
      replied m rest same b e no_bank no_dram of reply =
          let at = to_core config opening a s m rest same b e no_bank no_dram in
          let its = its_core config opening a s m rest same at c (one_is (core_of m.to) of) in
          leads_within (once_taken n a r size opens m rest same its.1 (rw e reply)) (omega arith)

      go : (m : Message) (rest : List Message) → SameBag a.bag (m ∷ rest) → m.line ≡ l → (b : Body) → m.body ≡ b →
          1 ≤ about c (body_seen (core_of m.from) (core_of m.to) b) → Ends (suc (suc n)) 34 a
      go m rest same line (body.ShReq pts version) e some =
          asked m rest same line _ e (λ k i. refl) refl (λ g i. refl) some (omega arith)
      go m rest same line (body.ExReq version) e some =
          asked m rest same line _ e (λ k i. refl) refl (λ g i. refl) some (omega arith)
      go m rest same line (body.ShRep y) e some = replied m rest same _ e (λ g k i. refl) refl some tt
      go m rest same line (body.ExRep y) e some = replied m rest same _ e (λ g k i. refl) refl some tt
      go m rest same line (body.RenewRep rts) e some = replied m rest same _ e (λ g k i. refl) refl some tt
      go m rest same line (body.UpgradeRep rts) e some = replied m rest same _ e (λ g k i. refl) refl some tt
      go m rest same line _ e some = absurd (omega arith)

  pub ends_within_34 : (a : State) → Reached config opening a → (a.cores c).open_op ≡ Some op →
      Ends (length a.bag + 2) 34 a
  ends_within_34 a r opens = subst (λ (most : ℕ). Ends most 34 a) two (⊎_elim
      (λ (out : (a.cores c).is_out ≡ true). by_waiting (length a.bag) a r (le_refl _) opens out)
      (λ (quiet : (a.cores c).is_out ≡ false). leads_within (quiet_ends (length a.bag) a r (le_refl _) opens quiet)
      (omega arith)) (cases_Bool (a.cores c).is_out))
    where
      two : suc (suc (length a.bag)) ≡ length a.bag + 2
      two = omega arith

-- The moves of a core keep the invariant: issues, attempts, evictions and advances.
use Rattle.std.proofs.Common.{◌≡◌, ◌≢◌, ℕ, ◌+◌, ◌-◌, ◌%◌, ◌/◌, ◌<◌, ◌≤◌, Bool, true, false, cond, eqb, List, [], ◌∷◌}
use Rattle.std.proofs.Common.{◌++◌, length, Option, Some, None, refl, sym, ap, ◌∙◌, subst, arith, ⊎_elim, length-append}
use Rattle.std.proofs.Common.{rules}
use Rattle.std.specs.Prelude.{Result, Ok, Err}
use Rattle.std.specs.Ordering.{nat_cmp}
use Rattle.std.specs.FinMap.{FinMap}
use Rattle.std.specs.List.{AllByRecursion as Each}
use Rattle.std.proofs.lemmas.Bool.{cases_Bool, cond_both, eq-eqb}
use Rattle.std.proofs.Math.Nat.{mod-lt}
use Rattle.physiological_order.specs.declared.operation.Op.{Op}
use Rattle.physiological_order.specs.declared.operation.Op.TheVariants.{Load}
use Rattle.physiological_order.specs.declared.operation.Record.{Record}
use Rattle.physiological_order.specs.Order.{address, of_core}
use Rattle.network.specs.declared.message.Body.{Body}
use Rattle.network.specs.declared.message.Body.TheVariants as body
use Rattle.network.specs.declared.message.Message.{Message}
use Rattle.network.specs.declared.message.Node.TheVariants as node
use Rattle.network.specs.declared.counts.Counts.{Counts}
use Rattle.network.specs.Mail.{counted}
use Rattle.private_cache.specs.declared.line_copy.LineCopy.{LineCopy}
use Rattle.private_cache.specs.CopyTable as cache
use Rattle.line_sets.specs.SetTable.{Sets}
use Rattle.private_cache.specs.CopyTable.{copy_of, place_for, with_used, without_copy}
use Rattle.core_pts.specs.declared.attempt.Attempt.{Attempt}
use Rattle.core_pts.specs.declared.attempt.IssueError.{IssueError}
use Rattle.core_pts.specs.declared.attempt.IssueError.TheVariants as not_issued
use Rattle.core_pts.specs.CoreTable as core_table
use Rattle.core_pts.specs.CoreTable.{CoreState, to_bank, pinned_line, is_pinned, completed_at}
use Rattle.core_pts.specs.OnCopy.{is_exclusive, serves, time_of, received_at, copy_after, words_of_copy}
use Rattle.machine_table.specs.declared.config.Config.{Config}
use Rattle.machine_table.specs.Step as step
use Rattle.machine_table.specs.Step.{record_of}
use Rattle.protocol.specs.Machine as by_line
use Rattle.protocol.specs.Machine.{version_of, IsPinned, CannotUse, to_write, complete, evict_shared, evict_exclusive}
use Rattle.protocol.specs.Machine.{Copy, Line, ShReq, ExReq, line_of, with_at, Asks, to_read, Uses, issue, advance, ask}
use Rattle.protocol.proofs.Lemmas.{with_at_same, with_at_other, with_at_cases, with_at_id, reachable_ok}
use Rattle.protocol.proofs.Lemmas.{reachable_blocked, Some_injective}
use Rattle.machine_theorem.specs.States.{State}
use Rattle.machine_theorem.specs.Moves.{with_core}
use Rattle.machine_theorem.specs.View.{copy_seen, copy_or_none, body_seen, messages_of, copy_in, core_seen, set_up}
use Rattle.machine_theorem.specs.View.{view}
use Rattle.machine_theorem.specs.Shape.{IsCore, GoesHome, HasShape}
use Rattle.machine_theorem.specs.Kept.{IsKept}
use Rattle.machine_theorem.proofs.KeptSteps.{Turned, Goes, Tries}
use Rattle.machine_theorem.proofs.Lookups.{IsNow, put_now, drop_now, messages_here, messages_there}
use Rattle.machine_theorem.proofs.Turns.{line_same, Leads, issuing, attempting, advancing, leaving, by_turn, Moves}
use Rattle.machine_theorem.proofs.Turns.{core_turn, core_alone, core_move}
use Rattle.machine_theorem.proofs.Routes.{GoesUp, core_and_bank}
use Rattle.machine_theorem.proofs.Rooms.{place-without, place-there}
use Rattle.machine_theorem.proofs.OnCopies.{serves_uses, serves_not, serves_clash}
use Rattle.machine_theorem.proofs.ByParts.{core_by, shape_by}

-- turns of an operation, by its line
-- a core completes its operation on a line, with the next record
abbrev completed_on : by_line.Machine → (c l place : ℕ) → Op → Copy → Option ℕ → ℕ → by_line.Machine
completed_on n c l place op new received ts = record n {
  cores = with_at n.cores c (record { pts = ts; open_op = None; out = false });
  lines = with_at n.lines l (record (n.lines l) { copies = with_at ((n.lines l).copies) c (Some new) });
  records = n.records ++ record {
    core = c;
    place = place;
    op = op;
    received = received;
    ts = ts;
    number = length n.records;
  } ∷ [];
}

complete_at : (f : by_line.Config) (n : by_line.Machine) (c l place : ℕ) (op : Op) (copy new : Copy)
    (received : Option ℕ) (ts : ℕ) → line_of f (address op) ≡ l → length (of_core c n.records) ≡ place →
    (n.cores c).open_op ≡ Some op → (n.cores c).out ≡ false → (n.lines l).copies c ≡ Some copy →
    Uses f (n.cores c).pts copy op received ts new →
    Leads f (attempting c) n (completed_on n c l place op new received ts)
complete_at f n c l place op copy new received ts on count opens quiet is u =
    rw (← on, ← count) (by_turn (complete {m = n} c op copy new received ts opens quiet (rw on is) u))

ask_at : (f : by_line.Config) (n : by_line.Machine) (c l : ℕ) (op : Op) (y : Line) → line_of f (address op) ≡ l →
    (n.cores c).open_op ≡ Some op → (n.cores c).out ≡ false → Asks c (n.cores c).pts op (n.lines l) y →
    Leads f (attempting c) n (record n {
      cores = with_at n.cores c (record (n.cores c) { out = true });
      lines = with_at n.lines l y;
    })
ask_at f n c l op y on opens quiet a = rw (← on) (by_turn (ask {m = n} c op y opens quiet (rw on a)))

-- the request of an operation
reads : (c pts a : ℕ) (x : Line) (version : Option ℕ) (y : Option Copy) → x.copies c ≡ y → CannotUse (Load a) pts y →
    version_of y ≡ version → Asks c pts (Load a) x (record x { messages = ShReq c pts version ∷ x.messages })
reads c pts a x version y is cannot v = rw (← v, ← is) (to_read {x = x} a (rw is cannot))

writes : (c pts : ℕ) (op : Op) (x : Line) (version : Option ℕ) (y : Option Copy) → x.copies c ≡ y →
    CannotUse op pts y → version_of y ≡ version →
    Asks c pts op x (record x { messages = ExReq c version ∷ x.messages })
writes c pts op x version y is cannot v = rw (← v, ← is) (to_write {op = op} {x = x} (rw is cannot))

module _ (config : Config) (opening : FinMap nat_cmp ℕ) (a : State) (s : IsKept config opening a) (c : ℕ)
    (below : c < config.cores) where
  abbrev core : CoreState
  core = a.cores c

  abbrev f : by_line.Config
  f = set_up config opening

  abbrev v : by_line.Machine
  v = view config a

  pub is : IsCore config c (a.issued c) core
  is = s.shape.each_core c

  -- a part beyond the cores is another one
  apart : (j : ℕ) → config.cores ≤ j → j ≢ c
  apart j le e = omega (arith, le, e, below)

  -- the core's time, operation, request and cache are these; where its request is out, the copy that it brings has a
  -- place
  abbrev pub HasRoom : Option Op → Bool → Sets LineCopy → Type 0
  HasRoom open_op is_out kept = (op : Op) → open_op ≡ Some op → is_out ≡ true →
      place_for kept (core_table.line_of core op) ≡ true

  module _ (pts : ℕ) (open_op : Option Op) (is_out : Bool) (kept : Sets LineCopy) (some : 0 < length kept.sets)
      (room : HasRoom open_op is_out kept) where
    abbrev new : CoreState
    new = record core { pts = pts; open_op = open_op; is_out = is_out; cache = kept }

    is_core : IsCore config c (a.issued c) new
    is_core = core_by is.numbered is.banks is.line_words is.lease is.private_write some is.count room

    -- and so are the messages, records and counts
    pub shape : (bag : List Message) (rs : List Record) (counts : Counts) → Each (GoesHome config) bag →
        HasShape config opening (record a { cores = with_at a.cores c new; bag = bag; records = rs; counts = counts })
    shape bag rs counts each = search (rules, shape_by, with_at_cases, is_core, with_at_other, apart)

  -- a message to the bank of a line goes home
  pub home : (l : ℕ) (b : Body) → GoesUp b → GoesHome config (to_bank core l b)
  home l b up = search (rules, is, mod-lt, shape, core_and_bank)

  -- it is sent, among these messages
  pub sent : (l : ℕ) (b : Body) (bag : List Message) →
      body_seen c 0 b ∷ messages_of bag l ≡ messages_of (to_bank core l b ∷ bag) l
  sent l b bag = ap (λ (k : ℕ). body_seen k 0 b ∷ messages_of bag l) (sym is.numbered)
      ∙ sym (messages_here (to_bank core l b) bag)

  -- no request is out where no operation is open
  idle : core.open_op ≡ None → core.is_out ≡ false
  idle none = (reachable_blocked f v s.reached.reachable).idle c none

  pub off_line : (l : ℕ) → is_pinned (pinned_line core) l ≡ false → (op : Op) → core.open_op ≡ Some op →
      core_table.line_of core op ≢ l
  off_line l off op opens q = search (rules, eqb, eq-eqb)

  pub unpinned : (l : ℕ) → is_pinned (pinned_line core) l ≡ false → IsPinned f v.cores l c → ⊥
  unpinned l off p = off_line l off p.0 p.1 (ap (λ (k : ℕ). address p.0 / k) is.line_words ∙ p.2)

  -- a core is given an operation
  abbrev pub Issues : Op → Result (Unit {0}) IssueError × CoreState → Type 0
  Issues op (Err why, after) = Unit {0}
  Issues op (Ok done, after) =
      Turned config opening (issuing c) a
      (record (with_core a c after) { issued = with_at a.issued c (a.issued c ++ op ∷ []) })

  issues_go : (op : Op) → core.open_op ≡ None → (b : Bool) →
      Issues op (cond b (Ok tt, record core { open_op = Some op; issued = core.issued + 1 })
      (Err not_issued.TooMany, core))
  issues_go op none false = tt
  issues_go op none true =
      let new : CoreState = record core { open_op = Some op; issued = core.issued + 1 } in
      let more = a.issued c ++ op ∷ [] in
      record {
        shape = shape_by s.shape.some_words s.shape.some_banks
            (with_at_cases (λ j y. IsCore config j (with_at a.issued c more j) y) a.cores c new
            (rw (with_at_same a.issued c more) (core_by is.numbered is.banks is.line_words is.lease is.private_write
            is.sets (let k = is.count in let n = length-append (a.issued c) (op ∷ []) in omega arith)
            (λ p o q. absurd (let z : true ≡ false = sym q ∙ idle none in cc))))
            (λ j ne. rw (with_at_other a.issued c more j ne) (s.shape.each_core j)))
            s.shape.each_bank s.shape.each_message
            (λ j le. with_at_other a.cores c new j (apart j le) ∙ s.shape.cores_beyond j le)
            s.shape.banks_beyond s.shape.drams_beyond
            (λ j le. with_at_other a.issued c more j (apart j le) ∙ s.shape.lists_beyond j le);
        leads = core_alone config opening a c new (with_at a.issued c more) refl (by_turn (issue {m = v} c op none));
      }

  pub issue_goes : (op : Op) (o : Option Op) → core.open_op ≡ o → Issues op (core_table.issue_to core op o)
  issue_goes op (Some other) e = tt
  issue_goes op None e = issues_go op e _

  -- a core's time goes on
  pub advance_goes : (b : Bool) → Goes config opening advancing a (with_core a c) a.bag
      (step.advanced (cond b (Some tt, record core { pts = core.pts + 1 }) (None, core)))
  advance_goes false = tt
  advance_goes true =
      let new : CoreState = record core { pts = core.pts + 1 } in
      record {
        shape = shape (core.pts + 1) core.open_op core.is_out core.cache is.sets is.room a.bag a.records a.counts
            s.shape.each_message;
        leads = core_alone config opening a c new a.issued refl (by_turn (advance {m = v} c));
      }

  -- an attempt
  module _ (op : Op) (opens : core.open_op ≡ Some op) where
    abbrev l : ℕ
    l = core_table.line_of core op

    abbrev Attempts : Option Attempt × CoreState → Type 0
    Attempts tries = Tries config opening (Turned config opening (attempting c) a) a c a.bag
        (step.attempted core op tries)

    on : line_of f (address op) ≡ l
    on = ap (λ (k : ℕ). address op / k) (sym is.line_words)

    -- the place of the next record is how many of the core's operations are completed
    count : length (of_core c a.records) ≡ core.issued - 1
    count =
        let k = rw opens at ((reachable_ok f s.shape.some_words v s.reached.reachable).cores c).opened in
        let n = k.0 in let i = is.count in omega arith

    -- an operation that its copy serves has no request out
    quiet : (copy : LineCopy) → copy_of core.cache l ≡ Some copy → serves op core.pts copy ≡ true → core.is_out ≡ false
    quiet copy there can = ⊎_elim
        (λ (o : core.is_out ≡ true). absurd (serves_clash op core.pts copy can
        (rw (on, there) at ((reachable_blocked f v s.reached.reachable).blocked c op opens o))))
        (λ (o : core.is_out ≡ false). o) (cases_Bool core.is_out)

    completed_goes : (copy : LineCopy) → copy_of core.cache l ≡ Some copy → serves op core.pts copy ≡ true →
        (time : Option ℕ) → time_of core.private_write core.pts op copy ≡ time →
        Attempts (completed_at core op copy time)
    completed_goes copy there can None t = tt
    completed_goes copy there can (Some ts) t =
        let i = core_table.index_of core op in
        let used = copy_after i ts op copy in
        let new : CoreState =
        record core { pts = ts; open_op = None; is_out = false; cache = with_used core.cache l used } in
        let y : Line = record (v.lines l) { copies = with_at ((v.lines l).copies) c (Some (copy_seen used)) } in
        let rs = a.records ++ record_of c (length a.records) core op (received_at i op copy) ts ∷ [] in
        let now = put_now (λ k. k) core.cache.sets is.sets l used in
        let uses : Uses f core.pts (copy_seen copy) op (received_at i op copy) ts (copy_seen used) =
        rw is.line_words (serves_uses f core.pts copy op ts can (rw is.private_write at t)) in
        record {
          shape = shape ts None false (with_used core.cache l used) now.some
              (λ p o q. absurd (let z : ◌≡◌ {A = Option Op} None (Some p) = o in cc)) a.bag rs a.counts
              s.shape.each_message;
          leads = core_turn config opening a c new l y (core_seen new) a.bag rs
              (ap (λ (o : Option Copy). record (v.lines l) { copies = with_at ((v.lines l).copies) c o })
              (sym (ap copy_or_none now.here))) refl (λ k ne. ap copy_or_none (now.there k ne)) (λ k ne. refl)
              (complete_at f v c l (core.issued - 1) op (copy_seen copy) (copy_seen used) (received_at i op copy) ts
              on count opens (quiet copy there can) (ap copy_or_none there) uses);
        }

    -- a request is sent
    requested_goes : (b : Body) → GoesUp b → place_for core.cache l ≡ true → core.is_out ≡ false →
        Asks c core.pts op (v.lines l) (record (v.lines l) { messages = body_seen c 0 b ∷ messages_of a.bag l }) →
        Goes config opening (attempting c) a (with_core a c) a.bag (step.asks core op b)
    requested_goes b up place out asks =
        let q = to_bank core l b in
        let new : CoreState = record core { is_out = true } in
        let y : Line = record (v.lines l) { messages = body_seen c 0 b ∷ messages_of a.bag l } in
        record {
          shape = shape core.pts core.open_op true core.cache is.sets
              (λ p o r. rw (← Some_injective op p (sym opens ∙ o)) place) (q ∷ a.bag) a.records (counted a.counts b)
              (home l b up, s.shape.each_message);
          leads = core_turn config opening a c new l y (core_seen new) (q ∷ a.bag) a.records
              (line_same _ _ refl (λ d. ap (λ (g : ℕ → Option Copy). g d)
              (sym (with_at_id ((v.lines l).copies) c (copy_in core l) refl))) (sent l b a.bag) refl) refl
              (λ k ne. refl) (messages_there q a.bag)
              (ask_at f v c l op y on opens out asks);
        }

    need_goes : (version : Option ℕ) (o : Option LineCopy) → copy_of core.cache l ≡ o → version_of (copy_or_none o) ≡
        version → place_for core.cache l ≡ true → core.is_out ≡ false → CannotUse op core.pts (copy_or_none o) →
        Attempts (Some (core_table.need core.pts op version), core)
    need_goes version o there ver place out cannot = by_op op refl cannot
      where
        copy : (v.lines l).copies c ≡ copy_or_none o
        copy = ap copy_or_none there

        by_op : (p : Op) → op ≡ p → CannotUse p core.pts (copy_or_none o) →
            Attempts (Some (core_table.need core.pts p version), core)
        by_op (Load w) e can = requested_goes (body.ShReq core.pts version) (λ cores banks from to. refl) place out
            (subst (λ (p : Op). Asks c core.pts p (v.lines l) (record (v.lines l) {
              messages = ShReq c core.pts version ∷ messages_of a.bag l;
            })) (sym e) (reads c core.pts w (v.lines l) version (copy_or_none o) copy can ver))
        by_op _ e can = requested_goes (body.ExReq version) (λ cores banks from to. refl) place out
            (writes c core.pts op (v.lines l) version (copy_or_none o) copy cannot ver)

    attempt_on_goes : (o : Option LineCopy) → copy_of core.cache l ≡ o → Attempts (core_table.attempt_on core op o)
    attempt_on_goes None there =
        cond_both core.is_out _ _ (λ r. Attempts (Some r, core)) (λ out. tt)
        (λ out. cond_both (place_for core.cache l) _ _ (λ r. Attempts (Some r, core))
        (λ place. need_goes None None there refl place out tt) (λ place. tt))
    attempt_on_goes (Some copy) there =
        cond_both (serves op core.pts copy) _ _ Attempts (λ can. completed_goes copy there can _ refl)
        (λ no_use. cond_both core.is_out _ _ (λ r. Attempts (Some r, core)) (λ out. tt)
        (λ out. need_goes (Some copy.wts) (Some copy) there refl (place-there core.cache l copy there) out
        (serves_not op core.pts copy no_use)))

  pub attempt_goes : (o : Option Op) → core.open_op ≡ o →
      Tries config opening (Turned config opening (attempting c) a) a c a.bag (step.attempt_open core o)
  attempt_goes None e = tt
  attempt_goes (Some op) e = rw e (attempt_on_goes op e (copy_of core.cache (core_table.line_of core op)) refl)

  -- a copy leaves
  pub eviction_goes : (l : ℕ) (o : Option LineCopy) → copy_of core.cache l ≡ o →
      Goes config opening (leaving c l) a (with_core a c) a.bag (step.copy_evicted
      (core_table.sent_back core l (cache.evicted core.cache l (pinned_line core) o)))
  eviction_goes l None there = tt
  eviction_goes l (Some copy) there =
      cond_both (is_pinned (pinned_line core) l) _ _
      (λ r. Goes config opening (leaving c l) a (with_core a c) a.bag
      (step.copy_evicted (core_table.sent_back core l r))) (λ p. tt)
      (λ off. by_state off (is_exclusive copy.state) refl)
    where
      new : CoreState
      new = record core { cache = without_copy core.cache l }

      now : IsNow (λ k. k) core.cache.sets (without_copy core.cache l).sets l None
      now = drop_now (λ k. k) core.cache.sets is.sets l

      gone : is_pinned (pinned_line core) l ≡ false → (bag : List Message) (counts : Counts) →
          Each (GoesHome config) bag →
          HasShape config opening (record a { cores = with_at a.cores c new; bag = bag; counts = counts })
      gone off bag counts =
          shape core.pts core.open_op core.is_out (without_copy core.cache l) now.some
          (λ p o q. place-without core.cache is.sets l (core_table.line_of core p) (off_line l off p o)
          (is.room p o q)) bag a.records counts

      -- these messages follow the copy
      left : (front : List by_line.Message) (bag : List Message) → front ≡ messages_of bag l →
          ((k : ℕ) → k ≢ l → messages_of a.bag k ≡ messages_of bag k) →
          Moves config opening a (Some c) l (v.mts (l % config.banks)) (record (v.lines l) {
            copies = with_at ((v.lines l).copies) c None;
            messages = front;
          }) → Leads f (leaving c l) v (view config (record a { cores = with_at a.cores c new; bag = bag }))
      left front bag front_is others move =
          core_move config opening a (Some c) c new l None front bag refl (sym (ap copy_or_none now.here))
          (λ k ne. ap copy_or_none (now.there k ne)) front_is others move

      by_state : is_pinned (pinned_line core) l ≡ false → (b : Bool) → is_exclusive copy.state ≡ b →
          Goes config opening (leaving c l) a (with_core a c) a.bag (step.copy_evicted (
            Ok (cond b (Some (to_bank core l (body.FlushRep (words_of_copy copy)))) None),
            new,
          ))
      by_state off true ex =
          let sent_back = body.FlushRep (words_of_copy copy) in
          let back = to_bank core l sent_back in
          record {
            shape = gone off (back ∷ a.bag) (counted a.counts sent_back)
                (home l sent_back (λ cores banks from to. refl), s.shape.each_message);
            leads = left _ (back ∷ a.bag) (sent l sent_back a.bag) (messages_there back a.bag)
                (evict_exclusive c (copy_seen copy) (unpinned l off) (ap copy_or_none there) ex, refl);
          }
      by_state off false sh = record {
        shape = gone off a.bag a.counts s.shape.each_message;
        leads = left (messages_of a.bag l) a.bag refl (λ k ne. refl)
            (evict_shared c (copy_seen copy) (unpinned l off) (ap copy_or_none there) sh, refl);
      }

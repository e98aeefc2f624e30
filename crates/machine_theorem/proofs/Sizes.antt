-- Every reached state's sets have their sizes.
use Rattle.std.proofs.Common.{◌≡◌, ◌≢◌, ℕ, ◌+◌, ◌/◌, ◌%◌, ◌<◌, ◌≤◌, Bool, true, false, ◌||◌, cond, eqb, List, [], ◌∷◌}
use Rattle.std.proofs.Common.{length, set, length-set, Option, Some, None, refl, sym, ap, ◌∙◌, arith, inl, inr, rules}
use Rattle.std.proofs.Common.{length-append, replicate, is_some, mod-lt, ltb-true, eq-eqb, ne_eqb, eqb-true, nat_cmp}
use Rattle.std.proofs.lemmas.List.{length-replicate}
use Rattle.std.proofs.lemmas.Bool.{cases_eq, cases_Bool, cond_both, eqb-false, and_parts}
use Rattle.line_sets.specs.Order.{find, is_there, put_last, put_in_place, without, IsDistinct}
use Rattle.line_sets.specs.SetTable.{Sets, set_at, put, put_within, drop_line, has_room, has_place}
use Rattle.line_sets.proofs.Lemmas.{set_at-set_same, set_at-set_other, length-put_in_place, length-without_le}
use Rattle.line_sets.proofs.Lemmas.{length-without_there, find-put_last_other, find-put_in_place_other}
use Rattle.line_sets.proofs.Lemmas.{find-without_other, IsDistinct-put_last, IsDistinct-without}
use Rattle.std.specs.FinMap.{FinMap}
use Rattle.std.specs.Prelude.{Result, Ok, Err}
use Rattle.physiological_order.specs.declared.operation.Op.{Op}
use Rattle.network.specs.declared.message.Node.{Node}
use Rattle.network.specs.declared.message.Node.TheVariants as node
use Rattle.network.specs.declared.message.TimedLine.{TimedLine}
use Rattle.network.specs.declared.message.Message.{Message}
use Rattle.network.specs.declared.message.Body.{Body}
use Rattle.network.specs.declared.message.Body.TheVariants as body
use Rattle.private_cache.specs.declared.line_copy.LineCopy.{LineCopy}
use Rattle.private_cache.specs.declared.cache.CacheError.TheVariants as not_left
use Rattle.core_pts.specs.declared.attempt.Attempt.{Attempt}
use Rattle.core_pts.specs.declared.attempt.Attempt.TheVariants as tries
use Rattle.private_cache.specs.CopyTable as cache
use Rattle.private_cache.specs.CopyTable.{copy_of, place_for, is_pinned}
use Rattle.core_pts.specs.declared.decision.CoreReaction.{CoreReaction}
use Rattle.core_pts.specs.declared.decision.CoreReaction.TheVariants as on_core
use Rattle.core_pts.specs.OnCopy as on_copy
use Rattle.core_pts.specs.CoreTable as core_table
use Rattle.core_pts.specs.CoreTable.{CoreState, core_has_case, comes_to_core, waits_for, is_this_core}
use Rattle.llc_bank.specs.declared.entry.Entry.{Entry}
use Rattle.llc_bank.specs.declared.entry.Entry.TheVariants as entry
use Rattle.llc_bank.specs.declared.decision.Decision.{Decision}
use Rattle.llc_bank.specs.declared.decision.Decision.TheVariants as decision
use Rattle.llc_bank.specs.declared.decision.Eviction.{Eviction}
use Rattle.llc_bank.specs.declared.decision.Eviction.TheVariants as eviction
use Rattle.llc_bank.specs.OnEntry as on_entry
use Rattle.llc_bank.specs.BankTable as bank_table
use Rattle.llc_bank.specs.BankTable.{BankState, entry_of}
use Rattle.machine_table.specs.declared.config.Config.{Config}
use Rattle.core_pts.specs.declared.attempt.IssueError.{IssueError}
use Rattle.timestamp_manager.specs.Lease as lease
use Rattle.machine_table.specs.Step as step
use Rattle.machine_table.specs.Step.{Step, Makes, Drops, Tried, Completes, Does, Act, message_of, core_step, bank_step}
use Rattle.machine_table.specs.Step.{reacted, entry_evicted, copy_evicted, attempted}
use Rattle.protocol.specs.Machine.{with_at}
use Rattle.protocol.proofs.Lemmas.{with_at_cases}
use Rattle.machine_theorem.specs.States.{State}
use Rattle.machine_theorem.specs.Moves as moves
use Rattle.machine_theorem.specs.Moves.{AreBeside, StepsTo, Move, issues, completes, core_steps, bank_steps, dram_steps}
use Rattle.machine_theorem.specs.Moves.{Reached, opens, goes_on, same}
use Rattle.machine_theorem.proofs.SetSizes.{Fits, IsSized}
use Rattle.machine_table.specs.SetUp.{is_good}
use Rattle.machine_theorem.proofs.DramOpening.{get_replicate}
use Rattle.machine_theorem.proofs.Openings.{Fair, fair}

-- a line that is put in place
IsDistinct-put_in_place : {X : Type 0} (ps : List (ℕ × X)) (line : ℕ) (x : X) → IsDistinct ps →
    IsDistinct (put_in_place ps line x)
IsDistinct-put_in_place [] line x d = tt
IsDistinct-put_in_place (p ∷ ps) line x d =
    cond_both (eqb p.0 line) ((line, x) ∷ ps) (p ∷ put_in_place ps line x) IsDistinct
    (λ e. (rw (eqb-true p.0 line e) at d.0, d.1))
    (λ e. (
      ap is_some (find-put_in_place_other ps line p.0 x (eqb-false p.0 line e)) ∙ d.0,
      IsDistinct-put_in_place ps line x d.1,
    ))

module _ {X : Type 0} (n ways : ℕ) (some : 0 < n) (home : ℕ → ℕ) (table : Sets X) (fits : Fits n ways home table)
    (line : ℕ) where
  abbrev its_set : ℕ
  its_set = home line % length table.sets

  -- the line's set is another list, of no more lines than ways, and no line but this one is new
  rewritten : (ps : List (ℕ × X)) → length ps ≤ table.ways → IsDistinct ps →
      ((k : ℕ) → k ≢ line → find ps k ≡ find (set_at table.sets its_set) k) →
      Fits n ways home (record table { sets = set table.sets its_set ps })
  rewritten ps few distinct others = record {
    as_many_sets = length-set table.sets its_set ps ∙ fits.as_many_sets;
    as_many_ways = fits.as_many_ways;
    distinct = of_each (λ j. IsDistinct) distinct fits.distinct;
    sizes = of_each (λ j xs. length xs ≤ table.ways) few fits.sizes;
    homes = λ j k. rw (length-set table.sets its_set ps)
        (of_each (λ j xs. is_there xs k ≡ true → home k % length table.sets ≡ j) (here k) (λ j. fits.homes j k) j);
  }
    where
      -- what holds of this list, and of the set of any number, does so of each set
      of_each : (P : ℕ → List (ℕ × X) → Type 0) → P its_set ps → ((j : ℕ) → P j (set_at table.sets j)) → (j : ℕ) →
          P j (set_at (set table.sets its_set ps) j)
      of_each P own each j = elim (cases_eq j its_set) [
        | inl e ↦
            let within = mod-lt (home line) (rw fits.as_many_sets some) in
            rw (e, set_at-set_same table.sets its_set ps within) own
        | inr ne ↦ rw (set_at-set_other table.sets its_set j ps ne) (each j)
      ]

      here : (k : ℕ) → is_there ps k ≡ true → home k % length table.sets ≡ its_set
      here k there = grind arith

  abbrev old : List (ℕ × X)
  old = set_at table.sets its_set

  pub fits-put : (x : X) → has_place table its_set line ≡ true → Fits n ways home
      (record table { sets = put table.sets its_set line x })
  fits-put x place = rewritten (put_last old line x)
      (let k = length-append (without old line) ((line, x) ∷ []) in let m = fewer in omega arith)
      (IsDistinct-put_last old line x (fits.distinct its_set))
      (λ k n. find-put_last_other old line k x n)
    where
      fewer : length (without old line) < table.ways
      fewer = elim (cases_Bool (is_there old line)) [
        | inl there ↦
            let a = length-without_there old line there in let b = fits.sizes its_set in omega arith
        | inr missing ↦
            let room = ltb-true (length old) table.ways (rw missing at place) in
            let a = length-without_le old line in omega arith
      ]

  pub fits-change : (x : X) → Fits n ways home (record table { sets = put_within table.sets its_set line x })
  fits-change x = search (rules, rewritten, length-put_in_place, IsDistinct-put_in_place, find-put_in_place_other)

  pub fits-drop : Fits n ways home (record table { sets = drop_line table.sets its_set line })
  fits-drop = search (rules, rewritten, length-without_le, IsDistinct-without, find-without_other)

-- what holds of the part that a step makes
abbrev Made : {S : Type 0} → (S → Type 0) → Step S → Type 0
Made P (Makes answer consumes sends part) = P part
Made P _ = Unit {0}

-- a bank
abbrev BankFits : Config → BankState → Type 0
BankFits config bank = Fits config.bank_sets config.bank_ways (λ line. line / bank.banks) bank.table

module _ (config : Config) (some : 0 < config.bank_sets) (bank : BankState) (fits : BankFits config bank) where
  module _ (line : ℕ) where
    abbrev room : Bool
    room = has_room bank.table (bank_table.set_of bank line)

    bank_used : (e : Entry) → (is_some (entry_of bank line) || room) ≡ true →
        BankFits config (bank_table.with_used bank line e)
    bank_used e place =
        fits-put config.bank_sets config.bank_ways some (λ line. line / bank.banks) bank.table fits line e place

    bank_changed : (e : Entry) → BankFits config (bank_table.with_changed bank line e)
    bank_changed e =
        fits-change config.bank_sets config.bank_ways some (λ line. line / bank.banks) bank.table fits line e

    bank_without : BankFits config (bank_table.without_entry bank line)
    bank_without = fits-drop config.bank_sets config.bank_ways some (λ line. line / bank.banks) bank.table fits line

    evicted_fits : (e : Eviction) → Made (BankFits config) (entry_evicted (bank_table.after_eviction bank line e))
    evicted_fits (eviction.Drops rts) = bank_without
    evicted_fits (eviction.Stores rts words) = bank_changed entry.Storing
    evicted_fits (eviction.AsksBack owner) = bank_changed (entry.Recalling owner)
    evicted_fits _ = tt

  module _ (m : Message) where
    -- what a decision writes has a place, where an entry is this one
    abbrev Placed : Option Entry → Decision → Type 0
    Placed e d = entry_of bank m.line ≡ e → Made (BankFits config) (reacted (bank_table.after_decision bank m d))

    asked : (o : ℕ) (e : Option Entry) (until : Option ℕ) → Placed e (on_entry.asked_back o until)
    asked o e None is = tt
    asked o e (Some until) is = bank_changed m.line (entry.Recalling o)

    leased : (dirty : Bool) (line : TimedLine) (e : Entry) (lease : Option (ℕ × Bool)) →
        Placed (Some e) (on_entry.leased dirty line lease)
    leased dirty line e None is = tt
    leased dirty line e (Some lease) is = bank_used m.line _ (rw is refl)

    loaded : Placed None (on_entry.loaded (room m.line))
    loaded is = cond_both (room m.line) decision.Loads decision.Waits (Placed None)
        (λ free e. bank_used m.line entry.Loading (rw (is, free) refl)) (λ full e. tt) is

    given : (line : TimedLine) (e : Option Entry) → Placed e (on_entry.given_back line e)
    given line (Some (entry.Exclusive o)) is = bank_changed m.line (entry.Shared true line)
    given line (Some (entry.Recalling o)) is = bank_changed m.line (entry.Shared true line)
    given line _ is = tt

    decided_fits : (core : ℕ) (e : Option Entry) (b : Body) →
        Placed e (on_entry.at_bank bank.lease bank.mts (room m.line) core e b)
    decided_fits core None (body.ShReq pts version) = loaded
    decided_fits core (Some (entry.Shared dirty line)) (body.ShReq pts version) =
        leased dirty line (entry.Shared dirty line) _
    decided_fits core (Some (entry.Exclusive o)) (body.ShReq pts version) = asked o (Some (entry.Exclusive o)) _
    decided_fits core (Some e) (body.ShReq pts version) = λ is. tt
    decided_fits core None (body.ExReq version) = loaded
    decided_fits core (Some (entry.Shared dirty line)) (body.ExReq version) =
        λ is. bank_used m.line (entry.Exclusive core) (rw is refl)
    decided_fits core (Some (entry.Exclusive o)) (body.ExReq version) = λ is. bank_changed m.line (entry.Recalling o)
    decided_fits core (Some e) (body.ExReq version) = λ is. tt
    decided_fits core e (body.FlushRep line) = given line e
    decided_fits core e (body.WbRep line) = given line e
    decided_fits core (Some entry.Loading) (body.DramLdRep words) = λ is. bank_changed m.line _
    decided_fits core (Some entry.Storing) body.DramStRep = λ is. bank_without m.line
    decided_fits core e _ = λ is. tt

  bank_fits : (act : Act) → Made (BankFits config) (bank_step bank act)
  bank_fits (step.Getting m) = decided_fits m (bank_table.core_of m.from) (entry_of bank m.line) m.body refl
  bank_fits (step.Evicting line) = evicted_fits line (on_entry.evicted (entry_of bank line))
  bank_fits _ = tt

-- a core
abbrev CoreFits : Config → CoreState → Type 0
CoreFits config core = Fits config.sets config.ways (λ line. line) core.cache

abbrev TriedFits : Config → Tried → Type 0
TriedFits config (Completes op received ts after) = CoreFits config after
TriedFits config (Does done) = Made (CoreFits config) done

module _ (config : Config) (some : 0 < config.sets) (core : CoreState) (fits : CoreFits config core) where
  cache_used : (line : ℕ) (copy : LineCopy) → place_for core.cache line ≡ true →
      Fits config.sets config.ways (λ line. line) (cache.with_used core.cache line copy)
  cache_used line copy place = fits-put config.sets config.ways some (λ line. line) core.cache fits line copy place

  cache_changed : (line : ℕ) (copy : LineCopy) →
      Fits config.sets config.ways (λ line. line) (cache.with_changed core.cache line copy)
  cache_changed line copy = fits-change config.sets config.ways some (λ line. line) core.cache fits line copy

  cache_without : (line : ℕ) → Fits config.sets config.ways (λ line. line) (cache.without_copy core.cache line)
  cache_without line = fits-drop config.sets config.ways some (λ line. line) core.cache fits line

  attempt_fits : (op : Op) → TriedFits config (attempted core op (core_table.attempt_open core (Some op)))
  attempt_fits op = go (copy_of core.cache (core_table.line_of core op)) refl
    where
      unchanged : (a : Attempt) → TriedFits config (attempted core op (Some a, core))
      unchanged (tries.Completed received ts) = fits
      unchanged (tries.NeedShared pts version) = fits
      unchanged (tries.NeedExclusive version) = fits
      unchanged _ = tt

      served : (copy : LineCopy) → copy_of core.cache (core_table.line_of core op) ≡ Some copy → (ts : Option ℕ) →
          TriedFits config (attempted core op (core_table.completed_at core op copy ts))
      served copy is None = tt
      served copy is (Some ts) =
          cache_used (core_table.line_of core op) (on_copy.copy_after (core_table.index_of core op) ts op copy)
          (rw is refl)

      go : (o : Option LineCopy) → copy_of core.cache (core_table.line_of core op) ≡ o →
          TriedFits config (attempted core op (core_table.attempt_on core op o))
      go None is = unchanged (core_table.attempt_without core op)
      go (Some copy) is =
          cond_both (on_copy.serves op core.pts copy)
          (core_table.completed_at core op copy (on_copy.time_of core.private_write core.pts op copy))
          (Some (core_table.attempt_unserved core op copy.wts), core) (λ r. TriedFits config (attempted core op r))
          (λ e. served copy is _) (λ e. unchanged (core_table.attempt_unserved core op copy.wts))

  eviction_fits : (line : ℕ) (pinned : Option ℕ) (o : Option LineCopy) →
      Made (CoreFits config) (copy_evicted (core_table.sent_back core line (cache.evicted core.cache line pinned o)))
  eviction_fits line pinned None = tt
  eviction_fits line pinned (Some copy) =
      cond_both (is_pinned pinned line) (Err not_left.Pinned, core.cache) (Ok copy, cache.without_copy core.cache line)
      (λ r. Made (CoreFits config) (copy_evicted (core_table.sent_back core line r))) (λ e. tt)
      (λ e. cache_without line)

  module _ (line : ℕ) where
    abbrev Reacts : CoreReaction → Type 0
    Reacts r = Made (CoreFits config) (reacted (core_table.after_reaction core line r))

    with_copy : (change : LineCopy → LineCopy) (o : Option LineCopy) → Reacts (on_copy.with_copy change o)
    with_copy change None = tt
    with_copy change (Some copy) = cache_changed line (change copy)

    returned : (copy : LineCopy) (o : Option ℕ) → Reacts (on_copy.returned copy o)
    returned copy None = tt
    returned copy (Some rts) = cache_changed line (cache.downgraded rts copy)

    flushed : (o : Option LineCopy) → Reacts (on_copy.flushed o)
    flushed None = tt
    flushed (Some copy) =
        cond_both (on_copy.is_exclusive copy.state) _ on_core.Drops Reacts (λ e. cache_without line) (λ e. tt)

    written_back : (until : ℕ) (o : Option LineCopy) → Reacts (on_copy.written_back core.lease until o)
    written_back until None = tt
    written_back until (Some copy) =
        cond_both (on_copy.is_exclusive copy.state) _ on_core.Drops Reacts (λ e. returned copy _) (λ e. tt)

    held_or : (r : CoreReaction) → Reacts r →
        Reacts (cond (is_pinned (core_table.pinned_line core) line) on_core.Holds r)
    held_or r k = cond_both (is_pinned (core_table.pinned_line core) line) on_core.Holds r Reacts (λ e. tt) (λ e. k)

    reaction_fits : (b : Body) → comes_to_core core line b ≡ true → Reacts (core_table.decided core line b)
    reaction_fits (body.ShRep x) comes = cache_used line _ ((and_parts (waits_for core line) _ comes).1)
    reaction_fits (body.ExRep x) comes = cache_used line _ ((and_parts (waits_for core line) _ comes).1)
    reaction_fits (body.RenewRep rts) comes = with_copy (cache.renewed rts) (copy_of core.cache line)
    reaction_fits (body.UpgradeRep rts) comes = with_copy (cache.upgraded rts) (copy_of core.cache line)
    reaction_fits body.FlushReq comes = held_or _ (flushed (copy_of core.cache line))
    reaction_fits (body.WbReq until) comes = held_or _ (written_back until (copy_of core.cache line))
    reaction_fits _ comes = tt

  core_fits : (act : Act) (bag rest : List Message) (to : Node) →
      AreBeside bag to (core_has_case core) (message_of act) rest → TriedFits config (core_step core act)
  core_fits step.Attempting bag rest to beside = go core.open_op refl
    where
      go : (o : Option Op) → core.open_op ≡ o → TriedFits config (step.attempt_open core o)
      go None e = tt
      go (Some op) e = grind (arith, attempt_fits op)
  core_fits (step.Getting m) bag rest to beside =
      reaction_fits m.line m.body ((and_parts (is_this_core core.number m.to) _ beside.2).1)
  core_fits (step.Evicting line) bag rest to beside =
      eviction_fits line (core_table.pinned_line core) (copy_of core.cache line)
  core_fits step.Advancing bag rest to beside =
      cond_both (lease.fits (core.pts + 1)) _ (None, core) (λ r. Made (CoreFits config) (step.advanced r)) (λ e. fits)
      (λ e. tt)

-- a state
module _ (config : Config) (f : Fair config) (a : State) (sized : IsSized config a) where
  core_put : (c : ℕ) (core : CoreState) → CoreFits config core → (d : ℕ) → CoreFits config (with_at a.cores c core d)
  core_put c core k = with_at_cases (λ d y. CoreFits config y) a.cores c core k (λ d ne. sized.caches d)

  bank_put : (b : ℕ) (bank : BankState) → BankFits config bank → (d : ℕ) → BankFits config (with_at a.banks b bank d)
  bank_put b bank k = with_at_cases (λ d y. BankFits config y) a.banks b bank k (λ d ne. sized.banks d)

  sized_by : {b : State} → ((d : ℕ) → CoreFits config (b.cores d)) → ((d : ℕ) → BankFits config (b.banks d)) →
      IsSized config b
  sized_by cores banks = record { caches = cores; banks = banks }

  answer_sized : (new : State) → IsSized config new → (rest : List Message) (sends : Option Message) →
      IsSized config (moves.with_answer new rest sends)
  answer_sized new k rest None = sized_by k.caches k.banks
  answer_sized new k rest (Some message) = sized_by k.caches k.banks

  steps_sized : {S : Type 0} (put : S → State) (P : S → Type 0) → ((part : S) → P part → IsSized config (put part)) →
      (rest : List Message) (done : Step S) (b : State) → Made P done → StepsTo a put rest done b → IsSized config b
  steps_sized put P keeps rest Drops b k to = rw to (sized_by sized.caches sized.banks)
  steps_sized put P keeps rest (Makes answer consumes sends part) b k to =
      rw to (answer_sized (put part) (keeps part k) (cond consumes rest a.bag) sends)
  steps_sized put P keeps rest _ b k to = absurd to

  any : {S : Type 0} (done : Step S) → Made (λ part. Unit {0}) done
  any (Makes answer consumes sends part) = tt
  any _ = tt

  move_sized : (b : State) → Move config a b → IsSized config b
  move_sized b (issues c op core below is) =
      sized_by (core_put c core (rw is at (issued (a.cores c).open_op))) sized.banks
    where
      issued : (o : Option Op) → CoreFits config (core_table.issue_to (a.cores c) op o).1
      issued (Some other) = sized.caches c
      issued None = cond_both {A = Result (Unit {0}) IssueError × CoreState} _ _ _ (λ r. CoreFits config r.1)
          (λ e. sized.caches c) (λ e. sized.caches c)
  move_sized b (completes c op received ts core below is) =
      sized_by (core_put c core (rw is at (core_fits config f.some_sets (a.cores c) (sized.caches c) step.Attempting
      a.bag a.bag (node.Core c) refl))) sized.banks
  move_sized b (core_steps c act rest done below beside is to) =
      steps_sized (moves.with_core a c) (CoreFits config) (λ part k. sized_by (core_put c part k) sized.banks) rest done
      b (rw is at (core_fits config f.some_sets (a.cores c) (sized.caches c) act a.bag rest (node.Core c) beside)) to
  move_sized b (bank_steps i act rest done below beside is to) =
      steps_sized (moves.with_bank a i) (BankFits config) (λ part k. sized_by sized.caches (bank_put i part k)) rest
      done b (rw is at (bank_fits config f.some_bank_sets (a.banks i) (sized.banks i) act)) to
  move_sized b (dram_steps i act rest done below beside is to) =
      steps_sized (moves.with_dram a i) (λ part. Unit {0}) (λ part k. sized_by sized.caches sized.banks) rest done b
      (any done) to

module _ (config : Config) (good : is_good config ≡ true) (opening : FinMap nat_cmp ℕ) where
  empties : {X : Type 0} (home : ℕ → ℕ) (ways n : ℕ) →
      Fits n ways home (record { ways = ways; sets = replicate {A = List (ℕ × X)} n [] })
  empties {X} home ways n = record {
    as_many_sets = length-replicate n [];
    as_many_ways = refl;
    distinct = λ i. rw (get_replicate {X = List (ℕ × X)} n i []) tt;
    sizes = λ i. rw (get_replicate {X = List (ℕ × X)} n i []) (omega arith);
    homes = λ i line. rw (get_replicate {X = List (ℕ × X)} n i []) (λ there. absurd (cc));
  }

  pub reached_sized : (a : State) → Reached config opening a → IsSized config a
  reached_sized a opens = record {
    caches = λ c. empties (λ line. line) config.ways config.sets;
    banks = λ b. empties (λ line. line / config.banks) config.bank_ways config.bank_sets;
  }
  reached_sized b (goes_on {a} r move) = move_sized config (fair config good) a (reached_sized a r) b move
  reached_sized b (same {a} r e) = grind (arith, reached_sized a r)

-- distinct lines that are all among others are no more than these
lines_within : {X Y : Type 0} (ps : List (ℕ × X)) (qs : List (ℕ × Y)) → IsDistinct ps →
    ((k : ℕ) → is_there ps k ≡ true → is_there qs k ≡ true) → length ps ≤ length qs
lines_within [] qs d among = omega arith
lines_within (p ∷ ps) qs d among =
    let fewer = length-without_there qs p.0 (among p.0 (rw (eq-eqb p.0 p.0 refl) refl)) in
    let le = lines_within ps (without qs p.0) d.1 (λ k there.
    let ne : k ≢ p.0 = λ e. let z : true ≡ false = sym there ∙ ap (is_there ps) e ∙ d.0 in cc in
    ap is_some (find-without_other qs p.0 k ne) ∙ among k (rw (ne_eqb p.0 k (λ e. ne (sym e))) there)) in
    omega arith

-- and fewer, if one of these is missing
pub lines_fewer : {X Y : Type 0} (ps : List (ℕ × X)) (qs : List (ℕ × Y)) (h : ℕ) → IsDistinct ps →
    is_there qs h ≡ true → ((k : ℕ) → is_there ps k ≡ true → (is_there qs k ≡ true) × (k ≢ h)) → length ps < length qs
lines_fewer ps qs h d there among =
    let fewer = length-without_there qs h there in
    let le = lines_within ps (without qs h) d (λ k i.
    ap is_some (find-without_other qs h k (among k i).1) ∙ (among k i).0) in
    omega arith

-- a line that is there, where there are any
pub first_there : {X : Type 0} (ps : List (ℕ × X)) → 0 < length ps → (h : ℕ) × (is_there ps h ≡ true)
first_there [] some = absurd (omega arith)
first_there (p ∷ ps) some = (p.0, rw (eq-eqb p.0 p.0 refl) refl)

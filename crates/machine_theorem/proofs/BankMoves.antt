-- The moves of a bank and of a DRAM keep the invariant.
use Rattle.std.proofs.Common.{◌≡◌, ◌≢◌, ℕ, ◌%◌, ◌/◌, ◌<◌, ◌≤◌, max, Bool, true, false, List, ◌∷◌, Option, Some, None}
use Rattle.std.proofs.Common.{refl, sym, ap, ◌∙◌, subst, arith, ⊎_elim, nat_cmp, IsPermutation, mod-lt}
use Rattle.std.specs.FinMap.{FinMap, insert}
use Rattle.std.specs.List.{AllByRecursion as Each}
use Rattle.std.proofs.lemmas.List.Sorted.{IsPermutation-refl}
use Rattle.std.proofs.lemmas.Bool.{and_parts, cases_eq, lt-ltb, eq-eqb}
use Rattle.network.specs.declared.counts.Counts.{Counts}
use Rattle.network.specs.declared.message.Node.{Node}
use Rattle.network.specs.declared.message.Node.TheVariants as node
use Rattle.network.specs.declared.message.Body.{Body}
use Rattle.network.specs.declared.message.Body.TheVariants as body
use Rattle.network.specs.declared.message.Message.{Message}
use Rattle.network.specs.declared.message.TimedLine.{TimedLine}
use Rattle.network.specs.declared.part.Reaction.{Reaction}
use Rattle.network.specs.declared.part.Reaction.TheVariants.{Done, HeldAfter}
use Rattle.network.specs.Mail.{counted}
use Rattle.network.specs.Routes.{is_core_to_bank, is_bank_to_dram, has_route}
use Rattle.line_sets.specs.SetTable.{Sets, has_room}
use Rattle.llc_bank.specs.declared.entry.Entry.{Entry}
use Rattle.llc_bank.specs.declared.entry.Entry.TheVariants as entry
use Rattle.llc_bank.specs.OnEntry as on_entry
use Rattle.llc_bank.specs.BankTable as bank_table
use Rattle.llc_bank.specs.BankTable.{BankState, core_of, entry_of, with_used, with_changed, without_entry, from_bank}
use Rattle.llc_bank.specs.BankTable.{to_dram, is_this_bank, comes_to_bank, bank_has_case, after_eviction}
use Rattle.dram_mts.specs.Lines.{words_of}
use Rattle.dram_mts.specs.Table.{dram_has_case, is_dram, comes_to_dram, answer_to, dram_case, dram_table}
use Rattle.machine_table.specs.declared.config.Config.{Config}
use Rattle.machine_table.specs.Step.{reacted, entry_evicted}
use Rattle.protocol.specs.Machine as by_line
use Rattle.protocol.specs.Machine.{Shared, Absent, Loading, Recalling, DramLd, DramStRep, with_at, IsPinned}
use Rattle.protocol.specs.Machine.{evict_clean, evict_dirty, flush_starts, dram_loads, dram_stores}
use Rattle.protocol.proofs.Lemmas.{with_at_other, with_at_cases}
use Rattle.machine_theorem.specs.States.{State}
use Rattle.machine_theorem.specs.Moves.{with_bank, with_dram, with_answer}
use Rattle.machine_theorem.specs.View.{timed, entry_seen, body_seen, message_seen, messages_of, set_up, line_seen, view}
use Rattle.machine_theorem.specs.Shape.{IsBank, IsHome, GoesHome, IsOwnedBelow}
use Rattle.machine_theorem.specs.Kept.{IsKept}
use Rattle.machine_theorem.proofs.KeptSteps.{Turned, Goes}
use Rattle.machine_theorem.proofs.Lookups.{IsNow, put_now, change_now, drop_now, messages_here, messages_there}
use Rattle.machine_theorem.proofs.Turns as turns
use Rattle.machine_theorem.proofs.Routes.{GoesDown, both, core_and_bank, up_ends}
use Rattle.machine_theorem.proofs.OnEntries.{AtRequest, IsFor, bank_goes}
use Rattle.machine_theorem.proofs.DramWords.{words-insert_same, words-insert_other}
use Rattle.machine_theorem.proofs.ByParts.{bank_by, shape_by}

abbrev IsOwnedIf : ℕ → Option Entry → Type 0
IsOwnedIf cores None = Unit {0}
IsOwnedIf cores (Some e) = IsOwnedBelow cores e

for_below : (cores c : ℕ) → c < cores → (e : Entry) → IsFor c e → IsOwnedBelow cores e
for_below cores c lt (entry.Exclusive o) own = rw own lt
for_below cores c lt (entry.Recalling o) own = rw own lt
for_below cores c lt _ own = tt

-- the bank of a line
module _ (config : Config) (opening : FinMap nat_cmp ℕ) (a : State) (s : IsKept config opening a) (l : ℕ) where
  abbrev b : ℕ
  b = l % config.banks

  abbrev bank : BankState
  bank = a.banks b

  is : IsBank config b bank
  is = s.shape.each_bank b

  -- a part beyond the banks is another one
  pub apart : (j : ℕ) → config.banks ≤ j → j ≢ b
  apart j le e = let lt = mod-lt l s.shape.some_banks in omega (arith, le, e, lt)

  -- what is sent about the line goes home
  home : (to : Node) (sent : Body) → IsHome b to → has_route config.cores config.banks
      (node.Bank bank.number) to sent ≡ true → GoesHome config (from_bank bank l to sent)
  home to sent h route = (is.numbered, h, route)

  below : bank.number < config.banks
  below = rw is.numbered (mod-lt l s.shape.some_banks)

  -- to the DRAM behind the bank, and to a core
  back : is_bank_to_dram config.banks (node.Bank bank.number) (node.Dram bank.number) ≡ true
  back = both _ _ (lt-ltb bank.number config.banks below) (eq-eqb bank.number bank.number refl)

  down : (owner : ℕ) → owner < config.cores → is_core_to_bank config.cores config.banks (node.Core owner)
      (node.Bank bank.number) ≡ true
  down owner lt = core_and_bank config.cores config.banks owner bank.number lt below

  abbrev own_set : ℕ → ℕ
  own_set k = k / bank.banks

  -- the bank, its entry of the line, and the messages, after a transition
  step : (time : ℕ) (table : Sets Entry) (o : Option Entry) (front : List by_line.Message) (bag : List Message)
      (counts : Counts) → IsNow own_set bank.table.sets table.sets l o → IsOwnedIf config.cores o →
      front ≡ messages_of bag l → ((k : ℕ) → k ≢ l → messages_of a.bag k ≡ messages_of bag k) →
      Each (GoesHome config) bag →
      turns.Moves config opening a None l time
      (record (line_seen config a l) { entry = entry_seen o; messages = front }) →
      Turned config opening turns.delivering a (record a {
        banks = with_at a.banks b (record bank { mts = time; table = table });
        bag = bag;
        counts = counts;
      })
  step time table o front bag counts now owned bags others each move =
      let new : BankState = record bank { mts = time; table = table } in
      record {
        shape = shape_by s.shape.some_words s.shape.some_banks s.shape.each_core
            (with_at_cases (λ j y. IsBank config j y) a.banks b new
            (bank_by is.numbered is.banks is.lease now.some
            (λ k ne. now.there k (λ q. ne (ap (λ (j : ℕ). j % config.banks) q)) ∙ is.own k ne)
            (λ k y i. ⊎_elim
            (λ (q : k ≡ l). subst (IsOwnedIf config.cores) (sym now.here ∙ rw q at i) owned)
            (λ (ne : k ≡ l → ⊥). is.owners k y (sym (now.there k ne) ∙ i))
            (cases_eq k l)))
            (λ j ne. s.shape.each_bank j))
            each s.shape.cores_beyond
            (λ j le. with_at_other a.banks b new j (apart j le) ∙ s.shape.banks_beyond j le)
            s.shape.drams_beyond s.shape.lists_beyond;
        leads = turns.bank_turn config opening a new l (entry_seen o) front bag (sym (ap entry_seen now.here)) bags
            now.there others move;
      }

  -- a message is sent, with these in flight before it
  step_sent : (time : ℕ) (table : Sets Entry) (o : Option Entry) (bag : List Message) (q : Message) → q.line ≡ l →
      GoesHome config q → IsNow own_set bank.table.sets table.sets l o → IsOwnedIf config.cores o →
      ((k : ℕ) → k ≢ l → messages_of a.bag k ≡ messages_of bag k) → Each (GoesHome config) bag →
      turns.Moves config opening a None l time
      (record (line_seen config a l) { entry = entry_seen o; messages = message_seen q ∷ messages_of bag l }) →
      Turned config opening turns.delivering a (with_answer (with_bank a b
      (record bank { mts = time; table = table })) bag (Some q))
  step_sent time table o bag q line goes now owned others each =
      step time table o (message_seen q ∷ messages_of bag l) (q ∷ bag) (counted a.counts q.body) now owned
      (rw (← line) (sym (messages_here q bag)))
      (λ k ne. others k ne ∙ messages_there q bag k (λ w. ne (w ∙ line))) (goes, each)

  -- an entry leaves, or is recalled for that
  pub entry_goes : (o : Option Entry) → entry_of bank l ≡ o →
      Goes config opening turns.delivering a (with_bank a b) a.bag
      (entry_evicted (after_eviction bank l (on_entry.evicted o)))
  entry_goes (Some (entry.Shared false line)) e =
      step (max bank.mts line.rts) (without_entry bank l).table None (messages_of a.bag l) a.bag a.counts
      (drop_now own_set bank.table.sets is.sets l) tt refl (λ k ne. refl) s.shape.each_message
      (evict_clean (timed line) (ap entry_seen e), refl)
  entry_goes (Some (entry.Shared true line)) e =
      step_sent (max bank.mts line.rts) (with_changed bank l entry.Storing).table (Some entry.Storing) a.bag
      (to_dram bank l (body.DramSt line.words)) refl
      (home (node.Dram bank.number) (body.DramSt line.words) is.numbered back)
      (change_now own_set bank.table.sets is.sets l entry.Storing (entry.Shared true line) e) tt (λ k ne. refl)
      s.shape.each_message (evict_dirty (timed line) (ap entry_seen e), refl)
  entry_goes (Some (entry.Exclusive o)) e =
      let owned = is.owners l (entry.Exclusive o) e in
      step_sent bank.mts (with_changed bank l (entry.Recalling o)).table (Some (entry.Recalling o)) a.bag
      (from_bank bank l (node.Core o) body.FlushReq) refl (home (node.Core o) body.FlushReq tt (down o owned))
      (change_now own_set bank.table.sets is.sets l (entry.Recalling o) (entry.Exclusive o) e) owned (λ k ne. refl)
      s.shape.each_message (flush_starts o (ap entry_seen e), refl)
  entry_goes _ e = tt

-- a message is delivered that comes first in the bag
module _ (config : Config) (opening : FinMap nat_cmp ℕ) (before : State) (message : Message) (rest : List Message)
    (s : IsKept config opening (record before { bag = message ∷ rest })) where
  abbrev a : State
  a = record before { bag = message ∷ rest }

  abbrev l : ℕ
  l = message.line

  abbrev home_bank : ℕ
  home_bank = message.line % config.banks

  others : (k : ℕ) → k ≢ message.line → messages_of a.bag k ≡ messages_of rest k
  others k ne = sym (messages_there message rest k ne)

  goes_home : GoesHome config message
  goes_home = s.shape.each_message.0

  -- its bank
  abbrev here : BankState
  here = a.banks home_bank

  of : IsBank config home_bank here
  of = is config opening a s l

  abbrev place : ℕ → ℕ
  place k = k / here.banks

  abbrev Reacts : Option (Reaction × BankState) → Type 0
  Reacts o = Goes config opening turns.delivering a (with_bank a home_bank) rest (reacted o)

  abbrev Leads : by_line.Entry → List by_line.Message → Type 0
  Leads e ms = turns.Moves config opening a None l here.mts (record (line_seen config a l) { entry = e; messages = ms })

  loads : Leads Loading (DramLd ∷ messages_of a.bag l) →
      Reacts (Some (HeldAfter (to_dram here l body.DramLd), with_used here l entry.Loading))
  loads =
      step_sent config opening a s l here.mts (with_used here l entry.Loading).table (Some entry.Loading) a.bag
      (to_dram here l body.DramLd) refl
      (home config opening a s l (node.Dram here.number) body.DramLd of.numbered (back config opening a s l))
      (put_now place here.table.sets of.sets l entry.Loading) tt (λ k ne. refl) s.shape.each_message

  recalls : (owner : ℕ) (sent : Body) → GoesDown sent → entry_of here l ≡ Some (entry.Exclusive owner) →
      Leads (Recalling owner) (body_seen 0 owner sent ∷ messages_of a.bag l) →
      Reacts (Some (HeldAfter (from_bank here l (node.Core owner) sent), with_changed here l (entry.Recalling owner)))
  recalls owner sent goes there =
      let owned = of.owners l (entry.Exclusive owner) there in
      step_sent config opening a s l here.mts (with_changed here l (entry.Recalling owner)).table
      (Some (entry.Recalling owner)) a.bag (from_bank here l (node.Core owner) sent) refl
      (home config opening a s l (node.Core owner) sent tt
      (goes config.cores config.banks (node.Bank here.number) (node.Core owner)
      ∙ down config opening a s l owner owned))
      (change_now place here.table.sets of.sets l (entry.Recalling owner) (entry.Exclusive owner) there) owned
      (λ k ne. refl) s.shape.each_message

  grants : (e : Entry) (sent : Body) → GoesDown sent → IsFor (core_of message.from) e →
      is_core_to_bank config.cores config.banks message.from message.to ≡ true → Leads (entry_seen (Some e))
      (body_seen 0 (core_of message.from) sent ∷ messages_of rest l) →
      Reacts (Some (Done (Some (from_bank here l message.from sent)), with_used here l e))
  grants e sent goes own up =
      let ends = up_ends config.cores config.banks message.from message.to up in
      let route : is_core_to_bank config.cores config.banks message.from (node.Bank here.number) ≡ true =
      rw ends.from_core (down config opening a s l ends.core ends.some_core) in
      let some : core_of message.from < config.cores = rw ends.from_core ends.some_core in
      step_sent config opening a s l here.mts (with_used here l e).table (Some e) rest
      (from_bank here l message.from sent) refl
      (home config opening a s l message.from sent goes_home.0
      (goes config.cores config.banks (node.Bank here.number) message.from ∙ route))
      (put_now place here.table.sets of.sets l e) (for_below config.cores (core_of message.from) some e own) others
      s.shape.each_message.1

  becomes : (dirty : Bool) (line : TimedLine) (old : Entry) → entry_of here l ≡ Some old →
      Leads (Shared dirty (timed line)) (messages_of rest l) →
      Reacts (Some (Done None, with_changed here l (entry.Shared dirty line)))
  becomes dirty line old there =
      step config opening a s l here.mts (with_changed here l (entry.Shared dirty line)).table
      (Some (entry.Shared dirty line)) (messages_of rest l) rest a.counts
      (change_now place here.table.sets of.sets l (entry.Shared dirty line) old there) tt refl others
      s.shape.each_message.1

  leaves : Leads Absent (messages_of rest l) → Reacts (Some (Done None, without_entry here l))
  leaves =
      step config opening a s l here.mts (without_entry here l).table None (messages_of rest l) rest a.counts
      (drop_now place here.table.sets of.sets l) tt refl others s.shape.each_message.1

  came : IsPermutation (messages_of a.bag l)
      (body_seen (core_of message.from) (core_of message.to) message.body ∷ messages_of rest l)
  came = rw (messages_here message rest) (IsPermutation-refl _)

  came_as : (c : Body) → message.body ≡ c → IsPermutation (messages_of a.bag l)
      (body_seen (core_of message.from) (core_of message.to) c ∷ messages_of rest l)
  came_as c e = grind arith

  abbrev Up : Type 0
  Up = is_core_to_bank config.cores config.banks message.from message.to ≡ true

  up : (c : Body) → has_route config.cores config.banks message.from message.to c ≡ true → AtRequest Up c
  up (body.ShReq pts version) route = route
  up (body.ExReq version) route = route
  up _ route = tt

  -- to the bank of its line
  pub bank_delivery : core_of message.to ≡ 0 → bank_has_case here message ≡ true →
      Reacts (bank_table.bank_table here message)
  bank_delivery to has =
      let room = has_room here.table (bank_table.set_of here l) in
      grind (
        arith,
        bank_goes config.lease (IsPinned (set_up config opening) (view config a).cores l) here.mts
            (line_seen config a l) (messages_of rest l) (core_of message.from) here message Up Reacts refl tt tt
            loads recalls grants becomes leaves room message.body (and_parts (is_this_bank here.number message.to)
            (comes_to_bank message.from message.body (entry_of here l)) has).1 (up message.body goes_home.2)
            (subst (λ (k : ℕ). IsPermutation (messages_of a.bag l) (body_seen (core_of message.from) k message.body
            ∷ messages_of rest l)) to came),
      )

  -- to the DRAM behind it
  abbrev lines : FinMap nat_cmp (List ℕ)
  lines = a.drams home_bank

  answered : (new : FinMap nat_cmp (List ℕ)) (reply : Body) → has_route config.cores config.banks message.to
      message.from reply ≡ true → ((k : ℕ) → k ≢ l → words_of new k ≡ words_of lines k) →
      turns.Moves config opening a None l ((view config a).mts home_bank) (record (line_seen config a l) {
        dram = words_of new l;
        messages = body_seen (core_of message.to) (core_of message.from) reply ∷ messages_of rest l;
      }) →
      Goes config opening turns.delivering a (with_dram a home_bank) rest
      (reacted (Some (Done (Some (answer_to message reply)), new)))
  answered new reply route there move =
      let q = answer_to message reply in
      record {
        shape = shape_by s.shape.some_words s.shape.some_banks s.shape.each_core s.shape.each_bank
            ((goes_home.1, goes_home.0, route), s.shape.each_message.1) s.shape.cores_beyond
            s.shape.banks_beyond
            (λ j le. with_at_other a.drams home_bank new j (apart config opening a s l j le)
            ∙ s.shape.drams_beyond j le)
            s.shape.lists_beyond;
        leads = turns.dram_turn config opening a new l
            (body_seen (core_of message.to) (core_of message.from) reply ∷ messages_of rest l) (q ∷ rest)
            (sym (messages_here q rest)) there (λ k ne. others k ne ∙ messages_there q rest k ne) move;
      }

  dram_delivered : (c : Body) → message.body ≡ c → comes_to_dram c ≡ true →
      Goes config opening turns.delivering a (with_dram a home_bank) rest (reacted (dram_case lines message c))
  dram_delivered body.DramLd e has =
      answered lines (body.DramLdRep (words_of lines l)) (rw e at goes_home.2) (λ k ne. refl)
      (dram_loads (messages_of rest l) (came_as body.DramLd e), refl)
  dram_delivered (body.DramSt ws) e has =
      answered (insert lines l ws) body.DramStRep (rw e at goes_home.2) (λ k ne. words-insert_other lines l k ws ne)
      (rw (words-insert_same lines l ws) (dram_stores ws (messages_of rest l) (came_as (body.DramSt ws) e), refl))
  dram_delivered _ e has = absurd (let z : false ≡ true = has in cc)

  pub dram_delivery : dram_has_case lines message ≡ true →
      Goes config opening turns.delivering a (with_dram a home_bank) rest (reacted (dram_table lines message))
  dram_delivery has =
      dram_delivered message.body refl (and_parts (is_dram message.to) (comes_to_dram message.body) has).1

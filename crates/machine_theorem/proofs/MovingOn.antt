-- A round changes a machine that can send a message, if a core has an operation open: by the entry of its line, a
-- request that waits leads to a message, an attempt or an eviction that its part does something with.
use Rattle.std.proofs.Common.{◌≡◌, ℕ, ◌/◌, ◌%◌, ◌≤◌, Bool, true, false, ◌||◌, eqb, List, [], ◌∷◌, length, Option, Some}
use Rattle.std.proofs.Common.{None, inl, inr, ◌⊎◌, refl, sym, ap, ◌∙◌, subst, ◌<◌, ◌-◌, ◌^◌, ⊎_elim, arith, slice_get}
use Rattle.std.specs.Prelude.{option_map, is_some, not}
use Rattle.std.specs.Ordering.{nat_cmp}
use Rattle.std.specs.FinMap.{FinMap}
use Rattle.std.proofs.lemmas.Bool.{cases_eq, cond-true, cond-false, eq-eqb, ne_eqb, ltb-false, or_parts}
use Rattle.std.proofs.lemmas.Option.{get_or_from_slice_get}
use Rattle.physiological_order.specs.declared.operation.Op.{Op}
use Rattle.physiological_order.specs.Order.{address}
use Rattle.network.specs.declared.message.Message.{Message}
use Rattle.network.specs.declared.message.Node.TheVariants as node
use Rattle.network.specs.NumberedMessages.{IsRising, at_number}
use Rattle.line_sets.specs.Order.{find, is_there}
use Rattle.line_sets.specs.SetTable.{set_at, has_room}
use Rattle.private_cache.specs.declared.line_copy.LineCopy.{LineCopy}
use Rattle.private_cache.specs.CopyTable as cache
use Rattle.private_cache.specs.CopyTable.{copy_of, is_pinned, place_for, victim_for}
use Rattle.core_pts.specs.OnCopy as on_copy
use Rattle.core_pts.specs.declared.attempt.Attempt.{Attempt}
use Rattle.core_pts.specs.declared.attempt.Attempt.TheVariants as tried
use Rattle.core_pts.specs.CoreTable as core_table
use Rattle.core_pts.specs.CoreTable.{CoreState, pinned_line}
use Rattle.llc_bank.specs.declared.entry.Entry.{Entry}
use Rattle.llc_bank.specs.declared.entry.Entry.TheVariants as entry
use Rattle.llc_bank.specs.Settled.{is_settled}
use Rattle.llc_bank.specs.OnEntry as on_entry
use Rattle.llc_bank.specs.OnEntry.{at_bank}
use Rattle.llc_bank.specs.BankTable as bank_table
use Rattle.llc_bank.specs.BankTable.{BankState, core_of, entry_of, is_this_bank}
use Rattle.dram_mts.specs.Table.{is_dram}
use Rattle.machine_table.specs.declared.event.Answer.TheVariants.{Held, Refused}
use Rattle.machine_table.specs.declared.event.Refusal.TheVariants as refusal
use Rattle.machine_table.specs.Machine.{Machine, operation_of, with_core, with_bank, with_dram}
use Rattle.machine_table.specs.declared.config.Config.{Config}
use Rattle.machine_table.specs.declared.event.Event.{Event}
use Rattle.machine_table.specs.SetUp.{is_good}
use Rattle.machine_table.specs.Runs.{after_all}
use Rattle.machine_table.specs.Opening.{at_start, open_core}
use Rattle.machine_table.specs.Step.{Step, Keeps, Does, attempt_open, attempted, entry_evicted, reacted}
use Rattle.protocol.specs.Machine as by_line
use Rattle.protocol.specs.Machine.{tally}
use Rattle.protocol.specs.Recalls.{recall_to, grant_to, return_of, OwnerAnswers}
use Rattle.protocol.proofs.Lemmas.{reachable_ok, about, load, loading, store, storing, waits_here}
use Rattle.machine_theorem.specs.Bags.{bag_of}
use Rattle.machine_theorem.specs.Kept.{Invariant}
use Rattle.machine_theorem.specs.Rounds.{IsRequest, MovesOn}
use Rattle.machine_theorem.specs.States.{seen}
use Rattle.machine_theorem.specs.View.{message_seen, messages_of, entry_seen, line_in, set_up, view, copy_in}
use Rattle.machine_theorem.proofs.ActiveParts.{IsRecall, core_active, copy_active, served_tries, quiet_tries, pinned_op}
use Rattle.machine_theorem.proofs.ActiveParts.{bank_active, request_active, load_active, held_without, entry_active}
use Rattle.machine_theorem.proofs.ActiveParts.{dram_active, all_pass, chosen_there, no_request, no_recall}
use Rattle.machine_theorem.proofs.ActiveParts.{recalled_core}
use Rattle.machine_theorem.proofs.Consistency.{consistent}
use Rattle.machine_theorem.proofs.Deliveries.{and_right, found_of, owned_copy, serving_attempt, owner_serves}
use Rattle.machine_theorem.proofs.FoundCases.{Gets, a_core, a_bank, a_dram, gets_it}
use Rattle.machine_theorem.proofs.Events.{invariant}
use Rattle.machine_theorem.proofs.Histories.{reached_history}
use Rattle.machine_theorem.proofs.Openings.{Fair, fair as fair_set_up}
use Rattle.machine_theorem.proofs.ServiceEvents.{number_in, rising_after}
use Rattle.machine_theorem.proofs.SetUps.{after_all_same}
use Rattle.machine_theorem.proofs.Sizes.{reached_sized}
use Rattle.machine_theorem.proofs.RoundEvents.{CanSend, IsActive, IsTrying, attempt_moves, copy_moves, delivery_moves}
use Rattle.machine_theorem.proofs.RoundEvents.{line_moves}
use Rattle.machine_theorem.proofs.SetSizes.{IsSized, Fits}
use Rattle.machine_table.specs.Transition.{on_event, changed}
use Rattle.machine_table.specs.declared.event.Event.TheVariants.{Deliver}

-- a message of a line that weighs something, with its number
record Sent (m : Machine) (h : ℕ) (w : by_line.Message → ℕ) : Type 0 where
  number : ℕ
  message : Message
  at : at_number number m.mail.messages ≡ Some message
  line : message.line ≡ h
  weighs : 1 ≤ w (message_seen message)

sent : (m : Machine) → IsRising 0 m.mail.messages m.mail.next → (h : ℕ) (w : by_line.Message → ℕ) →
    1 ≤ tally w (messages_of (bag_of m.mail.messages) h) → Sent m h w
sent m rising h w some =
    let k = found_of h w (bag_of m.mail.messages) some in
    let n = number_in m rising (bag_of m.mail.messages) (λ g. refl) k.message k.rest k.taken in
    record { number = n.number; message = k.message; at = n.at; line = k.line; weighs = k.weighs }

-- a message that may stay as it is
pub data Stays (m : Machine) (n : ℕ) (x : Message) : Type 0 where
  a_request : (b : ℕ) → x.to ≡ node.Bank b → slice_get m.banks b ≡ Some ((seen m).banks b) → on_event m (Deliver n)
      ≡ changed m (with_bank m b) (Some n) (reacted (bank_table.bank_table ((seen m).banks b) x)) →
      IsRequest x.body → Stays m n x
  a_recall : (c : ℕ) → x.to ≡ node.Core c → slice_get m.cores c ≡ Some ((seen m).cores c) →
      is_pinned (pinned_line ((seen m).cores c)) x.line ≡ true → IsRecall x.body → Stays m n x

module _ {more : Bool} (m : Machine) (able : CanSend more m) (s : Invariant m)
    (rising : IsRising 0 m.mail.messages m.mail.next) where
  abbrev bag : List Message
  bag = bag_of m.mail.messages

  abbrev home : ℕ → ℕ
  home h = h % m.config.banks

  -- each message in flight changes the machine, or may stay
  pub message_moves : (n : ℕ) (x : Message) → at_number n m.mail.messages ≡ Some x → MovesOn m ⊎ Stays m n x
  message_moves n x number = go (gets_it m s n x number)
    where
      go : Gets m n x → MovesOn m ⊎ Stays m n x
      go (a_core c to at has is) = let core = (seen m).cores c in ⊎_elim
          (λ active. inl (delivery_moves m able n x number (with_core m c) _ is active))
          (λ (held : IsRecall x.body × (is_pinned (pinned_line core) x.line ≡ true)).
          inr (a_recall c to at held.1 held.0))
          (core_active more core x.line x.body (is_pinned (pinned_line core) x.line)
          (and_right (core_table.is_this_core core.number x.to) _ has))
      go (a_bank b to at has is) = let bank = (seen m).banks b in ⊎_elim
          (λ active. inl (delivery_moves m able n x number (with_bank m b) _ is active))
          (λ (request : IsRequest x.body). inr (a_request b to at is request))
          (bank_active bank x bank.lease bank.mts (core_of x.from) (has_room bank.table (bank_table.set_of bank x.line))
          more x.from x.body (entry_of bank x.line) (and_right (is_this_bank bank.number x.to) _ has))
      go (a_dram b to at has is) = inl (delivery_moves m able n x number (with_dram m b) _ is
          (dram_active more ((seen m).drams b) x x.body (and_right (is_dram x.to) _ has)))

  -- so a message of a kind that is neither a request nor a recall changes it
  pub light_moves : (w : by_line.Message → ℕ) →
      ((c pts : ℕ) (version : Option ℕ) → w (by_line.ShReq c pts version) ≡ 0) →
      ((c : ℕ) (version : Option ℕ) → w (by_line.ExReq c version) ≡ 0) → ((c : ℕ) → w (by_line.FlushReq c) ≡ 0) →
      ((c until : ℕ) → w (by_line.WbReq c until) ≡ 0) → (h : ℕ) → 1 ≤ tally w (messages_of bag h) → MovesOn m
  light_moves w sh ex flush wb h some =
      ⊎_elim (λ (moves : MovesOn m). moves) stays (message_moves k.number k.message k.at)
    where
      k : Sent m h w
      k = sent m rising h w some

      stays : Stays m k.number k.message → MovesOn m
      stays (a_request b to at reacts is) =
          absurd (let z = no_request w sh ex k.message is in let y = k.weighs in omega (arith, z, y))
      stays (a_recall c to at pinned is) =
          absurd (let z = no_recall w flush wb k.message is in let y = k.weighs in omega (arith, z, y))

  -- what the invariant counts of a line
  abbrev f : by_line.Config
  f = set_up m.config m.opening

  loads : (h : ℕ) → tally load (messages_of bag h) ≡ loading (line_in m h).entry
  loads h = ((reachable_ok f s.kept.shape.some_words (view m.config (seen m)) s.kept.reached.reachable).lines h).2.loads

  stores : (h : ℕ) → tally store (messages_of bag h) ≡ storing (line_in m h).entry
  stores h =
      ((reachable_ok f s.kept.shape.some_words (view m.config (seen m)) s.kept.reached.reachable).lines h).2.stores

  pub asks : (h c : ℕ) → tally (about c) (messages_of bag h)
      ≡ by_line.waits f h ((seen m).cores c).is_out ((seen m).cores c).open_op
  asks h = ((reachable_ok f s.kept.shape.some_words (view m.config (seen m)) s.kept.reached.reachable).lines h).2.asks

  -- the owner's operation on its own line is completed
  pub owner_moves : (c : ℕ) → slice_get m.cores c ≡ Some ((seen m).cores c) → (h : ℕ) →
      by_line.owns (copy_in ((seen m).cores c) h) ≡ 1 →
      is_pinned (pinned_line ((seen m).cores c)) h ≡ true → MovesOn m
  owner_moves c at h owns pinned =
      let core = (seen m).cores c in
      let copy = owned_copy (copy_of core.cache h) owns in
      let op = pinned_op core h pinned in
      attempt_moves m able c core at op.0 op.1 (subst (IsTrying more) (sym (serving_attempt core op.0 copy.0 op.1
      (subst (λ (i : ℕ). copy_of core.cache i ≡ Some copy.0) (sym op.2) copy.1)
      (owner_serves core.pts copy.0 copy.2 op.0)))
      (served_tries core op.0 more copy.0 (on_copy.time_of core.private_write core.pts op.0 copy.0)))

  -- a line that is recalled
  recalled_moves : (h o : ℕ) → OwnerAnswers (line_in m h) (by_line.Recalling o) → MovesOn m
  recalled_moves h o (inl back) =
      light_moves (return_of o) (λ c pts v. refl) (λ c v. refl) (λ c. refl) (λ c u. refl) h back
  recalled_moves h o (inr (recall, inr grant)) =
      light_moves (grant_to o) (λ c pts v. refl) (λ c v. refl) (λ c. refl) (λ c u. refl) h grant
  recalled_moves h o (inr (recall, inl owns)) =
      ⊎_elim (λ (moves : MovesOn m). moves) stays (message_moves k.number k.message k.at)
    where
      k : Sent m h (recall_to o)
      k = sent m rising h (recall_to o) recall

      stays : Stays m k.number k.message → MovesOn m
      stays (a_request b to at reacts is) = absurd
          (let z = no_request (recall_to o) (λ c pts v. refl) (λ c v. refl) k.message is in
          let y = k.weighs in omega (arith, z, y))
      stays (a_recall c to at pinned is) =
          let same : c ≡ o = sym (ap core_of to) ∙ recalled_core k.message is o k.weighs in
          owner_moves c at h (subst (λ (i : ℕ). by_line.owns (copy_in ((seen m).cores i) h) ≡ 1) (sym same) owns)
          (subst (λ (i : ℕ). is_pinned (pinned_line ((seen m).cores c)) i ≡ true) k.line pinned)

  -- nothing is under way for a line of a bank, or something changes
  settled : (b h : ℕ) (e : Entry) → entry_of ((seen m).banks b) h ≡ Some e → MovesOn m ⊎ (is_settled e ≡ true)
  settled b h e is = go e is
    where
      at_home : home h ≡ b
      at_home = ⊎_elim (λ (e : home h ≡ b). e)
          (λ (ne : home h ≡ b → ⊥). absurd (let z = sym ((s.kept.shape.each_bank b).own h ne) ∙ is in cc))
          (cases_eq (home h) b)

      -- the entry, by lines
      seen_is : (i : Entry) → entry_of ((seen m).banks b) h ≡ Some i → (line_in m h).entry ≡ entry_seen (Some i)
      seen_is i is = ap entry_seen (ap (λ (k : ℕ). entry_of ((seen m).banks k) h) at_home ∙ is)

      go : (i : Entry) → entry_of ((seen m).banks b) h ≡ Some i → MovesOn m ⊎ (is_settled i ≡ true)
      go (entry.Shared dirty line) is = inr refl
      go (entry.Exclusive owner) is = inr refl
      go entry.Loading is =
          inl (light_moves load (λ c pts v. refl) (λ c v. refl) (λ c. refl) (λ c u. refl) h
          (let z = loads h ∙ ap loading (seen_is entry.Loading is) in omega (arith, z)))
      go entry.Storing is =
          inl (light_moves store (λ c pts v. refl) (λ c v. refl) (λ c. refl) (λ c u. refl) h
          (let z = stores h ∙ ap storing (seen_is entry.Storing is) in omega (arith, z)))
      go (entry.Recalling owner) is =
          inl (recalled_moves h owner (subst (OwnerAnswers (line_in m h)) (seen_is (entry.Recalling owner) is)
          ((consistent m s).recalls h)))

module _ (m : Machine) (able : CanSend true m) (s : Invariant m) (rising : IsRising 0 m.mail.messages m.mail.next)
    (sized : IsSized m.config (seen m)) (fair : Fair m.config) where
  -- a request finds its bank
  module _ (n : ℕ) (x : Message) (number : at_number n m.mail.messages ≡ Some x) (b : ℕ) (to : x.to ≡ node.Bank b)
      (at : slice_get m.banks b ≡ Some ((seen m).banks b)) (delivered : on_event m (Deliver n)
      ≡ changed m (with_bank m b) (Some n) (reacted (bank_table.bank_table ((seen m).banks b) x)))
      (is : IsRequest x.body) where
    abbrev bank : BankState
    bank = (seen m).banks b

    abbrev i : ℕ
    i = bank_table.set_of bank x.line

    fits : Fits m.config.bank_sets m.config.bank_ways (λ line. line / bank.banks) bank.table
    fits = sized.banks b

    abbrev Reacts : Bool → Option Entry → Step BankState
    Reacts room e = reacted (bank_table.after_decision bank x
        (at_bank bank.lease bank.mts room (core_of x.from) e x.body))

    -- it has no room for the line: another line leaves
    room_moves : entry_of bank x.line ≡ None → has_room bank.table i ≡ false → MovesOn m
    room_moves gone full = ⊎_elim (λ (moves : MovesOn m). moves) leaves
        (all_pass is_settled (MovesOn m) (set_at bank.table.sets i) (fits.distinct i)
        (λ h e found. settled m able s rising b h e
        (sym (ap (λ (k : ℕ). find (set_at bank.table.sets k) h)
        (sym (fits.homes i h (ap is_some found)))) ∙ found)))
      where
        leaves : bank_table.all_settled (set_at bank.table.sets i) ≡ true → MovesOn m
        leaves all = by_entry (entry_of bank v.0) refl
          where
            v : (v : ℕ) × (bank_table.chosen (set_at bank.table.sets i) ≡ Some v)
                × (is_there (set_at bank.table.sets i) v ≡ true)
            v = chosen_there (set_at bank.table.sets i)
                (let le = ltb-false (length (set_at bank.table.sets i)) bank.table.ways full in
                let some = fair.some_bank_ways in let ways = fits.as_many_ways in omega (arith, le, some, ways)) all

            there : is_some (entry_of bank v.0) ≡ true
            there = subst (λ (k : ℕ). is_there (set_at bank.table.sets k) v.0 ≡ true) (sym (fits.homes i v.0 v.2)) v.2

            held : reacted (bank_table.bank_table bank x) ≡ Keeps Held
            held = ap (λ (r : Bool). Reacts r (entry_of bank x.line)) full ∙ ap (Reacts false) gone
                ∙ held_without bank x bank.lease bank.mts (core_of x.from) x.body is

            makes : bank_table.make_room bank x.line ≡ Some v.0
            makes = cond-false (is_some (entry_of bank x.line) || has_room bank.table i
                || not (bank_table.all_settled (set_at bank.table.sets i))) None _
                (rw (gone, full, all) refl) ∙ v.1

            by_entry : (e : Option Entry) → entry_of bank v.0 ≡ e → MovesOn m
            by_entry None e = absurd (let z : false ≡ true = sym (ap is_some e) ∙ there in cc)
            by_entry (Some e) found = ⊎_elim (λ (moves : MovesOn m). moves)
                (λ (calm : is_settled e ≡ true).
                line_moves m able n x number b bank to at
                (delivered ∙ ap (changed m (with_bank m b) (Some n)) held) v.0 is makes
                (subst (λ (o : Option Entry). IsActive true (entry_evicted (bank_table.after_eviction bank v.0
                (on_entry.evicted o)))) (sym found) (entry_active bank v.0 e calm)))
                (settled m able s rising b v.0 e found)

    request_moves : MovesOn m
    request_moves = by_entry (entry_of bank x.line) refl
      where
        moves : (room : Bool) (e : Option Entry) → has_room bank.table i ≡ room → entry_of bank x.line ≡ e →
            IsActive true (Reacts room e) → MovesOn m
        moves room e is_room is_entry active =
            delivery_moves m able n x number (with_bank m b) (reacted (bank_table.bank_table bank x)) delivered
            (subst (λ (o : Option Entry). IsActive true (Reacts (has_room bank.table i) o)) (sym is_entry)
            (subst (λ (r : Bool). IsActive true (Reacts r e)) (sym is_room) active))

        by_room : (room : Bool) → has_room bank.table i ≡ room → entry_of bank x.line ≡ None → MovesOn m
        by_room true room gone =
            moves true None room gone (load_active bank x bank.lease bank.mts (core_of x.from) x.body is)
        by_room false full gone = room_moves gone full

        by_entry : (e : Option Entry) → entry_of bank x.line ≡ e → MovesOn m
        by_entry None gone = by_room (has_room bank.table i) refl gone
        by_entry (Some e) there = ⊎_elim (λ (moves : MovesOn m). moves)
            (λ (calm : is_settled e ≡ true).
            moves (has_room bank.table i) (Some e) refl there
            (request_active bank x bank.lease bank.mts (core_of x.from) (has_room bank.table i) x.body is e calm))
            (settled m able s rising b x.line e there)

  -- a core has an operation open
  module _ (c : ℕ) (op : Op) (at : slice_get m.cores c ≡ Some ((seen m).cores c))
      (opens : ((seen m).cores c).open_op ≡ Some op) where
    abbrev core : CoreState
    core = (seen m).cores c

    abbrev line : ℕ
    line = core_table.line_of core op

    -- its request is out, or the answer
    waiting_moves : core.is_out ≡ true → MovesOn m
    waiting_moves out = ⊎_elim (λ (moves : MovesOn m). moves) stays
        (message_moves m able s rising k.number k.message k.at)
      where
        l : ℕ
        l = by_line.line_of (set_up m.config m.opening) (address op)

        one : tally (about c) (messages_of (bag_of m.mail.messages) l) ≡ 1
        one = asks m able s rising l c
            ∙ ap (λ (b : Bool). by_line.waits (set_up m.config m.opening) l b core.open_op) out
            ∙ ap (by_line.waits (set_up m.config m.opening) l true) opens ∙ waits_here (set_up m.config m.opening) op

        k : Sent m l (about c)
        k = sent m rising l (about c) (omega (arith, one))

        stays : Stays m k.number k.message → MovesOn m
        stays (a_request b to at reacts is) = request_moves k.number k.message k.at b to at reacts is
        stays (a_recall d to at pinned is) = absurd
            (let z = no_recall (about c) (λ d. refl) (λ d u. refl) k.message is in
            let y = k.weighs in omega (arith, z, y))

    -- an attempt of a core whose request isn't out
    module _ (quiet : core.is_out ≡ false) where
      attempt_is : attempt_open core core.open_op
          ≡ attempted core op (core_table.attempt_on core op (copy_of core.cache line))
      attempt_is = ap (attempt_open core) opens
          ∙ ap (λ (o : Option Op). attempted core op (core_table.attempt_open core o)) opens

      tries : (copy_of core.cache line ≡ None → place_for core.cache line ≡ true) → MovesOn m
      tries place = attempt_moves m able c core at op opens
          (subst (IsTrying true) (sym attempt_is) (quiet_tries core op quiet (copy_of core.cache line) place))

      -- there is no place for the line: a copy leaves
      victim_moves : copy_of core.cache line ≡ None → place_for core.cache line ≡ false → MovesOn m
      victim_moves gone full = by_set (set_at core.cache.sets j) refl
        where
          j : ℕ
          j = cache.set_of core.cache line

          fits : Fits m.config.sets m.config.ways (λ k. k) core.cache
          fits = sized.caches c

          no_place : attempt_open core core.open_op ≡ Does (Keeps (Refused refusal.NoRoom))
          no_place = attempt_is
              ∙ ap (λ (o : Option LineCopy). attempted core op (core_table.attempt_on core op o)) gone
              ∙ ap (λ (t : Attempt). attempted core op (Some t, core))
              (cond-false core.is_out tried.Waiting _ quiet
              ∙ cond-false (place_for core.cache line) _ tried.NoRoom full)

          no_room : has_room core.cache j ≡ false
          no_room = (or_parts (is_there (set_at core.cache.sets j) line) _ full).1

          by_set : (ps : List (ℕ × LineCopy)) → set_at core.cache.sets j ≡ ps → MovesOn m
          by_set [] is = absurd (let z = ap length is in
              let le = ltb-false (length (set_at core.cache.sets j)) core.cache.ways no_room in
              let some = fair.some_ways in let ways = fits.as_many_ways in omega (arith, z, le, some, ways))
          by_set (p ∷ ps) is =
              copy_moves m able c core at op p.0 opens no_place
              (ap (λ (n : ℕ). victim_for core.cache (address op / n)) (sym (s.kept.shape.each_core c).line_words)
              ∙ cond-false (place_for core.cache line) None _ full ∙ ap cache.first_line is)
              (copy_active core p.0 (pinned_line core) (copy_of core.cache p.0) there off)
            where
              there : is_some (copy_of core.cache p.0) ≡ true
              there =
                  let first : is_there (set_at core.cache.sets j) p.0 ≡ true =
                  ap (λ (qs : List (ℕ × LineCopy)). is_there qs p.0) is
                  ∙ ap is_some (cond-true (eqb p.0 p.0) (Some p.1) (find ps p.0) (eq-eqb p.0 p.0 refl)) in
                  subst (λ (k : ℕ). is_there (set_at core.cache.sets k) p.0 ≡ true)
                  (sym (fits.homes j p.0 first)) first

              off : is_pinned (pinned_line core) p.0 ≡ false
              off = ap (λ (o : Option Op). is_pinned (option_map (core_table.line_of core) o) p.0) opens
                  ∙ ne_eqb line p.0 (λ e. let z : false ≡ true =
                  sym (ap is_some gone) ∙ ap (λ (k : ℕ). is_some (copy_of core.cache k)) e ∙ there in cc)

    pub moves_on : MovesOn m
    moves_on = by_out core.is_out refl
      where
        by_place : (b : Bool) → place_for core.cache line ≡ b → core.is_out ≡ false → copy_of core.cache line ≡ None →
            MovesOn m
        by_place true place quiet gone = tries quiet (λ none. place)
        by_place false full quiet gone = victim_moves quiet gone full

        by_copy : (o : Option LineCopy) → copy_of core.cache line ≡ o → core.is_out ≡ false → MovesOn m
        by_copy None gone quiet = by_place (place_for core.cache line) refl quiet gone
        by_copy (Some held) is quiet = tries quiet (λ none. absurd (let z = sym is ∙ none in cc))

        by_out : (b : Bool) → core.is_out ≡ b → MovesOn m
        by_out true out = waiting_moves out
        by_out false quiet = by_copy (copy_of core.cache line) refl quiet

-- so it is after any list of events
module _ (config : Config) (good : is_good config ≡ true) (opening : FinMap nat_cmp ℕ) (events : List Event) where
  abbrev after : Machine
  after = after_all (at_start config opening) events

  of_config : after.config ≡ config
  of_config = (after_all_same (at_start config opening) events).config

  pub moves_after : after.is_stopped ≡ false → length after.mail.messages < config.messages →
      after.mail.next < 2 ^ 64 - 1 → (core : ℕ) (op : Op) → operation_of (slice_get after.cores core) ≡ Some op →
      MovesOn after
  moves_after running room numbers core op opens = by_core (slice_get after.cores core) refl opens
    where
      able : CanSend true after
      able = record {
        runs = running;
        room = λ is. subst (λ (c : Config). length after.mail.messages < c.messages) (sym of_config) room;
        numbers = numbers;
      }

      by_core : (o : Option CoreState) → slice_get after.cores core ≡ o → operation_of o ≡ Some op → MovesOn after
      by_core None at is = absurd (cc)
      by_core (Some state) at is =
          let here : (seen after).cores core ≡ state =
          get_or_from_slice_get after.cores core state (open_core after.config core) at in
          moves_on after able (invariant config opening events good)
          (rising_after (at_start config opening) events (omega arith))
          (subst (λ (c : Config). IsSized c (seen after)) (sym of_config)
          (reached_sized config good opening (seen after) (reached_history config opening events good)))
          (subst Fair (sym of_config) (fair_set_up config good)) core op (at ∙ ap Some (sym here))
          (ap (λ (k : CoreState). k.open_op) here ∙ is)

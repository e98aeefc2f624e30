-- What parts send goes between nodes of its kind, and messages in flight find their part, which does as the table says.
use Rattle.std.proofs.Common.{◌≡◌, ℕ, ◌+◌, ◌<◌, ◌≤◌, ◌%◌, ◌++◌, Bool, true, false, cond, List, [], ◌∷◌, length, get_or}
use Rattle.std.proofs.Common.{Option, Some, None, Result, Ok, Err, IfOk, IfSome, OnErr, IsTrue, ◌||◌, inr, refl, sym}
use Rattle.std.proofs.Common.{ap, ◌∙◌, subst, arith}
use Rattle.std.specs.List.{slice_get, AllByRecursion as Each}
use Rattle.std.specs.Option.{is_some, option_map, unwrap_or}
use Rattle.std.specs.Prelude.{◌&&◌, not}
use Rattle.std.specs.Ordering.{nat_cmp}
use Rattle.std.specs.FinMap.{FinMap}
use Rattle.std.proofs.lemmas.Bool.{eq-eqb, false≢true, lt-ltb}
use Rattle.std.proofs.Math.Nat.{mod-lt}
use Rattle.std.proofs.lemmas.Option.{slice_get_read, slice_get_within}
use Rattle.physiological_order.specs.declared.operation.Record.{Record}
use Rattle.network.specs.declared.message.Message.{Message}
use Rattle.network.specs.declared.message.Node.{Node}
use Rattle.network.specs.declared.message.Node.TheVariants as node
use Rattle.network.specs.declared.message.Body.TheVariants.{FlushRep}
use Rattle.network.specs.declared.part.Reaction.{Reaction}
use Rattle.network.specs.declared.part.Reaction.TheVariants.{Done, HeldAfter}
use Rattle.line_sets.specs.SetTable.{has_room, set_at}
use Rattle.network.specs.Flight.{Flight, SameNetwork}
use Rattle.network.specs.NumberedMessages.{at_number}
use Rattle.network.specs.Routes.{has_endpoints}
use Rattle.network.specs.Sends.{sent_by}
use Rattle.private_cache.specs.declared.cache.CacheError.TheVariants.{Pinned}
use Rattle.private_cache.specs.declared.line_copy.LineCopy.{LineCopy}
use Rattle.private_cache.specs.CopyTable.{copy_of, without_copy, is_pinned, evicted as left_cache}
use Rattle.core_pts.specs.OnCopy.{is_exclusive, words_of_copy}
use Rattle.core_pts.specs.CoreTable as core_table
use Rattle.core_pts.specs.CoreTable.{CoreState, pinned_line, sent_back, to_bank}
use Rattle.llc_bank.specs.declared.entry.Entry.{Entry}
use Rattle.llc_bank.specs.declared.entry.Entry.TheVariants as entry
use Rattle.llc_bank.specs.OnEntry.{evicted}
use Rattle.llc_bank.specs.BankTable as bank_table
use Rattle.llc_bank.specs.BankTable.{BankState}
use Rattle.dram_mts.specs.Table.{needs_memory}
use Rattle.network.specs.Mail.{Mail, sent, taken, answered}
use Rattle.machine_table.specs.declared.config.Config.{Config}
use Rattle.machine_table.specs.Machine.{Machine}
use Rattle.machine_table.specs.Posted.{can_send}
use Rattle.machine_table.specs.Step.{reacted}
use Rattle.machine_table.specs.Transition.{changed, on_event, refused}
use Rattle.machine_table.proofs.Lemmas.{delivers, reaction_fits}
use Rattle.machine_table.specs.declared.event.Answer.{Answer}
use Rattle.machine_table.specs.declared.event.Answer.TheVariants.{Delivered, Started}
use Rattle.machine_table.specs.declared.event.Refusal.TheVariants.{NetworkFull}
use Rattle.machine_theorem.specs.Cases.{takes, has_case_at, has_case}
use Rattle.machine_theorem.specs.Bags.{bag_of}
use Rattle.machine_theorem.specs.Shape.{GoesHome, IsOwnedBelow}
use Rattle.machine_theorem.specs.Kept.{Invariant}
use Rattle.machine_theorem.proofs.Lemmas.{each_at_number, messages_find_cases, both, core_and_bank, any_event}
use Rattle.machine_theorem.proofs.Lemmas.{core_shape, bank_shape}
use Rattle.machine_table.specs.declared.event.Event.TheVariants.{Deliver}
use Rattle.interleaving_core.specs.declared.core_masks.CoreMasks.{CoreMasks}
use Rattle.interleaving_core.specs.CoreMasks.{AreMasks}
use Rattle.interleaving_core.specs.LookUps.{is_request, is_under_way, make_room, message_waits, room_at}
use Rattle.interleaving_core.specs.LookUps.{room_for_message, room_in, waiting_message, waits_at, waits_in}
use Rattle.interleaving_core.specs.Reservation.{IsFitted, owed}
use Rattle.interleaving_core.specs.declared.plain_answer.PlainAnswer.{PlainAnswer}
use Rattle.interleaving_core.specs.PartChanges.{answer_of, applied, stops}
use Rattle.interleaving_core.specs.StepAnswers.{TakesMemory, asks_memory, is_first_store}
use Rattle.interleaving_core.proofs.ChangedParts.{Place, event_done, is_changed, put}
use Rattle.interleaving_core.specs.Endpoints.{BackHasEndpoints, EvictedHasEndpoints, ReactionHasEndpoints}

each_last : (P : Message → Type 0) (xs : List (ℕ × Message)) (x : ℕ × Message) → Each P (bag_of (xs ++ x ∷ [])) →
    P x.1
each_last P [] x each = each.0
each_last P (y ∷ ys) x each = each_last P ys x each.1

-- a part that was read at its place among parts of its kind, where one is there that has a case
found_here : {S : Type 0} (parts : List S) (k : ℕ) (case : Option S → Bool) → case None ≡ false →
    case (slice_get parts k) ≡ true → (part : S) → part ≡ get_or parts k part → slice_get parts k ≡ Some part
found_here {S} parts k case none finds part read =
    slice_get_read parts (length parts) k part refl (within (slice_get parts k) refl finds) read
  where
    within : (o : Option S) → slice_get parts k ≡ o → case o ≡ true → k < length parts
    within None at is = absurd (false≢true (sym none ∙ is))
    within (Some x) at is = slice_get_within parts k x at

-- messages in flight that are fitted to the machine
module _ {masks : CoreMasks} (config : Config) (flight : Flight) (cores : List CoreState) (records : List Record)
    (capacity : ℕ) (fits : IsFitted config flight cores records capacity masks) where
  pub fitted_ends : (Ends : ℕ → ℕ → Type 0) → Ends config.cores config.banks → Ends flight.cores flight.banks
  fitted_ends Ends ends = subst (λ k. Ends k flight.banks) (sym fits.cores_are) (subst (λ k. Ends config.cores k)
      (sym fits.banks_are) ends)

  -- they stay so while the machine's set-up does
  pub still_fitted : (new : Flight) (after : List CoreState) (more : List Record) (room : ℕ) (others : CoreMasks) →
      SameNetwork flight new →
      length more + owed after ≤ room → AreMasks others after → IsFitted config new after more room others
  still_fitted new after more room others set_up reserved masked = record {
    cores_are = ap (λ (t : Flight). t.cores) set_up ∙ fits.cores_are;
    banks_are = ap (λ (t : Flight). t.banks) set_up ∙ fits.banks_are;
    capacity_is = ap (λ (t : Flight). t.capacity) set_up ∙ fits.capacity_is;
    reserved = reserved;
    masked = masked;
  }

-- what a reaction sends is in flight in a machine that has the invariant
module _ {S : Type 0} (m : Machine) (n : ℕ) (put : S → Machine) (config : (x : S) → (put x).config ≡ m.config) where
  sent_endpoints : (x : S) (mail : Mail) (message : Message) → Invariant (record (put x) { mail = sent mail message })
      → IsTrue (has_endpoints m.config.cores m.config.banks message)
  sent_endpoints x mail message invariant =
      subst (λ k. has_endpoints k.cores k.banks message ≡ true) (config x)
      (each_last (GoesHome (put x).config) mail.messages (mail.next, message)
      invariant.kept.shape.each_message).2

  pub reaction_endpoints : (reaction : Option (Reaction × S)) →
      Invariant (changed m put (Some n) (reacted reaction)).1 → can_send m.config.messages m.mail
      (sent_by reaction) ≡ true →
      ReactionHasEndpoints m.config.cores m.config.banks reaction
  reaction_endpoints (Some (Done (Some reply), x)) invariant can =
      sent_endpoints x (taken m.mail n) reply
      (subst (λ b. Invariant (cond b (Delivered, record (put x) { mail = answered m.mail n reply })
      (refused m NetworkFull)).1) can invariant)
  reaction_endpoints (Some (HeldAfter started, x)) invariant can =
      sent_endpoints x m.mail started
      (subst (λ b. Invariant (cond b (Started, record (put x) { mail = sent m.mail started })
      (refused m NetworkFull)).1) can invariant)
  reaction_endpoints _ invariant can = tt

-- what holds of the thing that is there, as a clause says it
pub of_there : {X : Type 0} (P : X → Type 0) {o : Option X} {x : X} → Some x ≡ o → IfSome o P → P x
of_there P there holds = subst (λ o. IfSome o P) (sym there) holds

pub holds_there : {X : Type 0} (P : X → Type 0) {o : Option X} {x : X} → Some x ≡ o → P x → IfSome o P
holds_there P there holds = subst (λ o. IfSome o P) there holds

-- a message in flight in a machine, which is seen as a model, and the part that it goes to, read where it is
module _ {m seen : Machine} (is_view : m ≡ seen) (holds : Invariant seen) (n : ℕ) {message : Message}
    (there : Some message ≡ at_number n m.mail.messages) {S : Type 0} {to : Node} {parts : List S} {k : ℕ}
    {has : S → Message → Bool} {table : S → Message → Option (Reaction × S)} (place : Place m to parts k has table)
    (goes : message.to ≡ to) {part : S} (read : part ≡ get_or parts k part) where
  invariant : Invariant m
  invariant = subst Invariant (sym is_view) holds

  found_case : takes has (slice_get parts k) message ≡ true
  found_case =
      sym (place.finds message) ∙ subst (λ x. has_case_at m message x ≡ true) goes
      (each_at_number (λ x. has_case m x.1 ≡ true) n m.mail.messages message (sym there)
      (messages_find_cases m invariant) (λ k p. p))

  pub part_here : slice_get parts k ≡ Some part
  part_here = found_here parts k (λ o. takes has o message) refl found_case part read

  has_case_here : has part message ≡ true
  has_case_here = subst (λ o. takes has o message ≡ true) part_here found_case

  -- it has a case for the message
  pub gets_case : IfSome (at_number n m.mail.messages) (λ x. IsTrue (has part x))
  gets_case = holds_there _ there has_case_here

  delivers_here : changed m (put place part part_here) (Some n) (reacted (table part message)) ≡ on_event m (Deliver n)
  delivers_here = sym (delivers m n message to (sym there) goes (put place part part_here) (slice_get parts k) part
      part_here has table has_case_here (place.delivers n message))

  -- what it sends has the endpoints of its kind
  pub with_endpoints : {masks : CoreMasks} {flight : Flight} {records : List Record} {room : ℕ} →
      IsFitted m.config flight m.cores records room masks → IfSome (at_number n m.mail.messages)
      (λ x. IsTrue (can_send flight.capacity m.mail (sent_by (table part x))) → ReactionHasEndpoints flight.cores
      flight.banks (table part x))
  with_endpoints {flight = flight} {records = records} {room = room} fits = holds_there _ there (λ can.
      fitted_ends m.config flight m.cores records room fits (λ a b. ReactionHasEndpoints a b (table part message))
      (reaction_endpoints m n (put place part part_here) (λ x. refl) (table part message)
      (subst (λ o. Invariant o.1) (sym delivers_here) (any_event m invariant (Deliver n)))
      (subst (λ k. can_send k m.mail (sent_by (table part message)) ≡ true) fits.capacity_is can)))

  -- what is made of the part and the messages in flight, at this capacity, the table makes of the machine
  module _ {capacity : ℕ} (same_capacity : capacity ≡ m.config.messages) where
    pub delivered : {E : Type 0} (result : Result PlainAnswer E) (new : S) (mail : Mail) (stopped : Bool) →
        IfOk result (λ plain. IfSome (at_number n m.mail.messages) (λ x. ◌≡◌ {A = Answer × S × Mail}
        (answer_of plain, new, mail) (applied capacity part m.mail (Some n) (reacted (table part x))))) →
        IfOk result (λ plain. stopped ≡ (stops (answer_of plain) || m.is_stopped)) →
        IfOk result (λ plain. ◌≡◌ {A = Answer × Machine} (
          answer_of plain,
          record (put place part part_here new) {
            mail = mail;
            is_stopped = stopped;
          },
        ) (on_event seen (Deliver n)))
    delivered (Ok plain) new mail stopped done stop =
        event_done place part part_here (Some n) (reacted (table part message)) (reaction_fits (table part message))
        capacity same_capacity seen is_view (λ x. on_event x (Deliver n)) delivers_here (answer_of plain) new mail
        stopped (of_there _ there done) stop
    delivered (Err e) new mail stopped done stop = tt

    -- it takes memory if a message is sent
    pub delivery_wanted : {X E : Type 0} (result : Result X E) →
        OnErr result (IfSome (at_number n m.mail.messages) (λ x.
        m.mail.next < (applied capacity part m.mail (Some n) (reacted (table part x))).2.next)) →
        OnErr result (TakesMemory seen (on_event seen (Deliver n)))
    delivery_wanted (Ok x) sends = tt
    delivery_wanted (Err e) sends =
        subst (λ (x : Machine). TakesMemory x (on_event x (Deliver n))) is_view
        (subst (λ (x : Answer × Machine). TakesMemory m x) delivers_here
        (inr (subst (λ (x : Answer × Machine). m.mail.next < x.1.mail.next)
        (is_changed place part part_here (Some n) (reacted (table part message)) (reaction_fits (table part message)))
        (subst (λ k. m.mail.next < (applied k part m.mail (Some n) (reacted (table part message))).2.next)
        same_capacity (of_there _ there sends)))))

-- a store of a line that a DRAM doesn't have yet asks for memory
pub dram_asks : {m seen : Machine} → m ≡ seen → (n : ℕ) {message : Message} → Some message ≡
    at_number n m.mail.messages → (b : ℕ) → message.to ≡ node.Dram b → {lines : FinMap nat_cmp (List ℕ)} →
    slice_get m.drams b ≡ Some lines → {X E : Type 0} (result : Result X E) →
    OnErr result (IfSome (at_number n m.mail.messages) (λ x. IsTrue (needs_memory lines x))) →
    OnErr result (IsTrue (asks_memory seen (Deliver n)))
dram_asks is_view n there b to here (Ok x) asks = tt
dram_asks {m} {seen} is_view n {message} there b to here (Err e) asks =
    subst (λ (k : Machine). asks_memory k (Deliver n) ≡ true) is_view
    (subst (λ o. unwrap_or (option_map (λ x. is_first_store m x x.to) o) false ≡ true) there
    (subst (λ k. is_first_store m message k ≡ true) (sym to)
    (ap (λ o. unwrap_or (option_map (λ dram. needs_memory dram message) o) false) here ∙ of_there _ there asks)))

-- whether a message in flight waits, in a machine that is seen as a model, by what it goes to
module _ {m seen : Machine} (is_view : m ≡ seen) (n : ℕ) where
  pub none_waits : None ≡ at_number n m.mail.messages → message_waits seen n ≡ false
  none_waits none = ap (λ (k : Machine). message_waits k n) (sym is_view) ∙ ap (waiting_message m) (sym none)

  pub waits_where : {message : Message} → Some message ≡ at_number n m.mail.messages → {to : Node} →
      message.to ≡ to → message_waits seen n ≡ waits_at m message to
  waits_where {message} there goes =
      ap (λ (k : Machine). message_waits k n) (sym is_view) ∙ ap (waiting_message m) (sym there)
      ∙ ap (waits_at m message) goes

  pub waits_at_bank : {message : Message} → Some message ≡ at_number n m.mail.messages → {b : ℕ} →
      message.to ≡ node.Bank b → {bank : BankState} → slice_get m.banks b ≡ Some bank →
      message_waits seen n ≡ (is_request message.body && is_under_way (bank_table.entry_of bank message.line))
  waits_at_bank {message} there goes here =
      waits_where there goes ∙ ap (λ (o : Option BankState). is_request message.body && waits_in message.line o) here

-- no line leaves a bank for a request of a line that it has
pub no_room_made : (m : Machine) (n : ℕ) {message : Message} → Some message ≡ at_number n m.mail.messages →
    (b : ℕ) → message.to ≡ node.Bank b → {bank : BankState} → slice_get m.banks b ≡ Some bank →
    is_some (bank_table.entry_of bank message.line) ≡ true → make_room m n ≡ None
no_room_made m n {message} there b to {bank} here has =
    ap (room_for_message m) (sym there) ∙ by_kind (is_request message.body)
  where
    set : ℕ
    set = bank_table.set_of bank message.line

    none_made : bank_table.make_room bank message.line ≡ None
    none_made =
        ap (λ (x : Bool). cond (x || has_room bank.table set
        || not (bank_table.all_settled (set_at bank.table.sets set))) None
        (bank_table.chosen (set_at bank.table.sets set))) has

    by_kind : (asks : Bool) → cond asks (room_at m message.line message.to) None ≡ None
    by_kind false = refl
    by_kind true =
        ap (room_at m message.line) to ∙ ap (room_in b message.line) here
        ∙ ap (option_map (λ (victim : ℕ). (b, victim))) none_made

-- what a core sends back goes to a bank
module _ (m : Machine) (s : Invariant m) (c : ℕ) (core : CoreState) (here : slice_get m.cores c ≡ Some core) where
  back_goes : (line : ℕ) (copy : LineCopy) →
      IsTrue (has_endpoints m.config.cores m.config.banks (to_bank core line (FlushRep (words_of_copy copy))))
  back_goes line copy =
      let is = core_shape m s c core here in
      let number = is.numbered in
      let count = s.core_count in
      let within = slice_get_within m.cores c core here in
      let banks = is.banks in
      let some = s.kept.shape.some_banks in
      core_and_bank m.config.cores m.config.banks core.number (line % core.banks) (omega arith)
      (subst (λ k. line % core.banks < k) banks (mod-lt line (omega arith)))

  pub back_endpoints : (line : ℕ) → BackHasEndpoints m.config.cores m.config.banks (core_table.evict core line).0
  back_endpoints line = by_copy (copy_of core.cache line)
    where
      by_state : (copy : LineCopy) (b : Bool) → BackHasEndpoints m.config.cores m.config.banks
          (Ok (cond b (Some (to_bank core line (FlushRep (words_of_copy copy)))) None))
      by_state copy true = back_goes line copy
      by_state copy false = tt

      by_pin : (copy : LineCopy) (b : Bool) → BackHasEndpoints m.config.cores m.config.banks
          (sent_back core line (cond b (Err Pinned, core.cache) (Ok copy, without_copy core.cache line))).0
      by_pin copy true = tt
      by_pin copy false = by_state copy (is_exclusive copy.state)

      by_copy : (o : Option LineCopy) → BackHasEndpoints m.config.cores m.config.banks
          (sent_back core line (left_cache core.cache line (pinned_line core) o)).0
      by_copy None = tt
      by_copy (Some copy) = by_pin copy (is_pinned (pinned_line core) line)

-- what a bank sends when it evicts a line goes to its DRAM or to the line's owner
module _ (m : Machine) (s : Invariant m) (b : ℕ) (bank : BankState) (here : slice_get m.banks b ≡ Some bank) where
  number_below : bank.number < m.config.banks
  number_below =
      let number = (bank_shape m s b bank here).numbered in
      let count = s.bank_count in
      let within = slice_get_within m.banks b bank here in
      omega arith

  pub evicted_endpoints : (line : ℕ) → EvictedHasEndpoints m.config.cores m.config.banks
      (bank_table.evict bank line).0
  evicted_endpoints line =
      by_entry (bank_table.entry_of bank line) (λ x found. (bank_shape m s b bank here).owners line x found)
    where
      by_entry : (o : Option Entry) → ((x : Entry) → o ≡ Some x → IsOwnedBelow m.config.cores x) →
          EvictedHasEndpoints m.config.cores m.config.banks (bank_table.after_eviction bank line (evicted o)).0
      by_entry None owned = tt
      by_entry (Some entry.Loading) owned = tt
      by_entry (Some (entry.Shared false y)) owned = tt
      by_entry (Some (entry.Shared true y)) owned =
          both _ _ (lt-ltb bank.number m.config.banks number_below) (eq-eqb bank.number bank.number refl)
      by_entry (Some (entry.Exclusive owner)) owned =
          core_and_bank m.config.cores m.config.banks owner bank.number (owned _ refl) number_below
      by_entry (Some (entry.Recalling owner)) owned = tt
      by_entry (Some entry.Storing) owned = tt

-- Every message in flight has a case in the table of the part that it goes to.
use Rattle.std.proofs.Common.{◌≡◌, ℕ, ◌/◌, Bool, true, false, cond, eqb, List, [], ◌∷◌, get_or, Option, Some, None}
use Rattle.std.proofs.Common.{refl, sym, ap, ◌∙◌, subst, arith, option_map, nat_cmp, eq-eqb, rules}
use Rattle.std.specs.List.{slice_get, AllByRecursion as Each}
use Rattle.std.specs.FinMap.{FinMap, entries}
use Rattle.std.proofs.lemmas.Option.{slice_get-get_or, get_or_from_slice_get}
use Rattle.physiological_order.specs.declared.operation.Op.{Op}
use Rattle.physiological_order.specs.Order.{address}
use Rattle.network.specs.declared.message.Node.{Node}
use Rattle.network.specs.declared.message.Node.TheVariants as node
use Rattle.network.specs.declared.message.Body.{Body}
use Rattle.network.specs.declared.message.Body.TheVariants as body
use Rattle.network.specs.declared.message.Message.{Message}
use Rattle.network.specs.NumberedMessages.{at_number}
use Rattle.network.specs.Routes.{has_route, is_bank_to_dram, is_core_to_bank}
use Rattle.private_cache.specs.declared.line_copy.LineCopy.{LineCopy}
use Rattle.private_cache.specs.CopyTable.{copy_of, place_for}
use Rattle.core_pts.specs.CoreTable as core_table
use Rattle.core_pts.specs.CoreTable.{CoreState, is_pinned, waits_for, is_shared_copy, comes_to_core, core_has_case}
use Rattle.llc_bank.specs.declared.entry.Entry.{Entry}
use Rattle.llc_bank.specs.declared.entry.Entry.TheVariants as entry
use Rattle.llc_bank.specs.BankTable.{BankState, core_of, entry_of, is_core, is_owned, comes_to_bank, bank_has_case}
use Rattle.llc_bank.specs.BankTable.{bank_table}
use Rattle.dram_mts.specs.Table.{comes_to_dram, dram_has_case, dram_table}
use Rattle.machine_table.specs.declared.config.Config.{Config}
use Rattle.machine_table.specs.declared.event.Event.TheVariants.{Deliver}
use Rattle.machine_table.specs.Machine.{Machine, with_core, with_bank, with_dram}
use Rattle.machine_table.specs.Opening.{dram_of, open_bank, open_core}
use Rattle.machine_table.specs.Step.{reacted}
use Rattle.machine_table.specs.Transition.{changed, on_event}
use Rattle.machine_table.proofs.Lemmas.{delivers as is_delivered}
use Rattle.protocol.specs.Machine as by_line
use Rattle.protocol.specs.Machine.{WaitsFor, IsShared, IsGranted, HasCase}
use Rattle.protocol.proofs.Lemmas.{messages_have_cases}
use Rattle.machine_theorem.specs.Bags.{bag_of}
use Rattle.machine_theorem.specs.States.{State, seen}
use Rattle.machine_theorem.specs.Consistent.{FindsCase, FindsPart}
use Rattle.machine_theorem.specs.View.{copy_or_none, copy_in, entry_seen, body_seen, message_seen, messages_of, set_up}
use Rattle.machine_theorem.specs.View.{line_seen, view}
use Rattle.machine_theorem.specs.Shape.{IsCore, GoesHome}
use Rattle.machine_theorem.specs.Kept.{IsKept, Invariant}
use Rattle.machine_theorem.proofs.Lookups.{each_at_number, messages_here}
use Rattle.machine_theorem.specs.Cases.{takes, has_case_at, has_case}
use Rattle.machine_theorem.proofs.Routes.{both, up_ends, back_ends}

is_granted : (e : Option Entry) → IsGranted (entry_seen e) → is_owned e ≡ true
is_granted (Some (entry.Exclusive o)) h = refl
is_granted (Some (entry.Recalling o)) h = refl
is_granted _ h = absurd h

is_loaded : (from : Node) (words : List ℕ) (e : Option Entry) → entry_seen e ≡ by_line.Loading →
    comes_to_bank from (body.DramLdRep words) e ≡ true
is_loaded from words (Some entry.Loading) h = refl
is_loaded from words _ h = absurd (cc)

is_stored : (from : Node) (e : Option Entry) → entry_seen e ≡ by_line.Storing →
    comes_to_bank from body.DramStRep e ≡ true
is_stored from (Some entry.Storing) h = refl
is_stored from _ h = absurd (cc)

is_shared : (o : Option LineCopy) → IsShared (copy_or_none o) → is_shared_copy o ≡ true
is_shared None h = absurd h
is_shared (Some copy) h = ap (λ (b : Bool). cond b false true) h

module _ (config : Config) (opening : FinMap nat_cmp ℕ) (a : State) (s : IsKept config opening a) (x : Message)
    (goes : GoesHome config x) where
  abbrev Waiting : ℕ → Type 0
  Waiting c = WaitsFor (set_up config opening) (view config a) x.line c

  abbrev Finds : Node → Type 0
  Finds to = FindsCase config a x to

  -- at a core
  module _ (c : ℕ) (to : x.to ≡ node.Core c) where
    abbrev core : CoreState
    core = a.cores c

    is : IsCore config c (a.issued c) core
    is = s.shape.each_core c

    here : Waiting (core_of x.to) → Waiting c
    here w = subst Waiting (ap core_of to) w

    on : (w : Waiting c) → core_table.line_of core w.1.0 ≡ x.line
    on w = ap (λ (k : ℕ). address w.1.0 / k) is.line_words ∙ w.1.2

    waiting : Waiting c → waits_for core x.line ≡ true
    waiting w = both _ _ w.0
        (ap (λ (o : Option Op). is_pinned (option_map (core_table.line_of core) o) x.line) w.1.1 ∙ eq-eqb _ _ (on w))

    place : Waiting c → place_for core.cache x.line ≡ true
    place w = subst (λ (k : ℕ). place_for core.cache k ≡ true) (on w) (is.room w.1.0 w.1.1 w.0)

    shared : IsShared ((line_seen config a x.line).copies (core_of x.to)) →
        is_shared_copy (copy_of core.cache x.line) ≡ true
    shared h = is_shared (copy_of core.cache x.line)
        (subst (λ (k : ℕ). IsShared (copy_in (a.cores k) x.line)) (ap core_of to) h)

  -- at a bank
  module _ (b : ℕ) (to : x.to ≡ node.Bank b) where
    abbrev bank : BankState
    bank = a.banks b

    entry_is : (line_seen config a x.line).entry ≡ entry_seen (entry_of bank x.line)
    entry_is = grind arith

  abbrev Waits : Body → Type 0
  Waits b = HasCase (set_up config opening) (view config a) x.line (body_seen (core_of x.from) (core_of x.to) b)

  -- by where its kind goes: up to a bank, down to a core, back to a DRAM, and from there to its bank
  up : (b : Body) → x.body ≡ b → is_core_to_bank config.cores config.banks x.from x.to ≡ true →
      ((k : ℕ) (to : x.to ≡ node.Bank k) → is_core x.from ≡ true →
      comes_to_bank x.from b (entry_of (a.banks k) x.line) ≡ true) → Finds x.to
  up b e r comes = grind (arith, up_ends _ _ x.from x.to r)

  down : (b : Body) → x.body ≡ b → is_core_to_bank config.cores config.banks x.to x.from ≡ true →
      ((c : ℕ) (to : x.to ≡ node.Core c) → comes_to_core (a.cores c) x.line b ≡ true) → Finds x.to
  down b e r comes = grind (arith, up_ends _ _ x.to x.from r)

  stored : (b : Body) → x.body ≡ b → is_bank_to_dram config.banks x.from x.to ≡ true → comes_to_dram b ≡ true →
      Finds x.to
  stored b e r comes = search (rules, back_ends, both)

  fetched : (b : Body) → x.body ≡ b → is_bank_to_dram config.banks x.to x.from ≡ true →
      ((k : ℕ) (to : x.to ≡ node.Bank k) → comes_to_bank x.from b (entry_of (a.banks k) x.line) ≡ true) → Finds x.to
  fetched b e r comes = grind (arith, back_ends _ x.to x.from r)

  case_of : (b : Body) → x.body ≡ b → has_route config.cores config.banks x.from x.to b ≡ true → Waits b → Finds x.to
  case_of (body.ShReq pts v) e r w = up _ e r (λ k to core. core)
  case_of (body.ExReq v) e r w = up _ e r (λ k to core. core)
  case_of (body.FlushRep y) e r w = up _ e r (λ k to core. is_granted _ (subst IsGranted (entry_is k to) w))
  case_of (body.WbRep y) e r w = up _ e r (λ k to core. is_granted _ (subst IsGranted (entry_is k to) w))
  case_of (body.RenewRep rts) e r w = down _ e r (λ c to. both _ _ (waiting c to (here c to w.0)) (shared c to w.1))
  case_of (body.UpgradeRep rts) e r w = down _ e r (λ c to. both _ _ (waiting c to (here c to w.0)) (shared c to w.1))
  case_of body.FlushReq e r w = down _ e r (λ c to. refl)
  case_of (body.WbReq rts) e r w = down _ e r (λ c to. refl)
  case_of body.DramLd e r w = stored _ e r refl
  case_of (body.DramSt ws) e r w = stored _ e r refl
  case_of (body.DramLdRep ws) e r w = fetched _ e r (λ k to. is_loaded x.from ws _ (sym (entry_is k to) ∙ w))
  case_of body.DramStRep e r w = fetched _ e r (λ k to. is_stored x.from _ (sym (entry_is k to) ∙ w))
  case_of _ e r w = down _ e r (λ c to. both _ _ (waiting c to (here c to w)) (place c to (here c to w)))

  -- it goes between nodes of its kind, to a part with a case for it
  pub finds_part : Waits x.body → FindsPart config a x
  finds_part waits = record { endpoints = goes.2; found = case_of x.body refl goes.2 waits }

-- any message in flight does so
pub bag_finds : (config : Config) (opening : FinMap nat_cmp ℕ) (a : State) → IsKept config opening a →
    Each (FindsPart config a) a.bag
bag_finds config opening a s =
    each a.bag s.shape.each_message
    (messages_have_cases (set_up config opening) s.shape.some_words (view config a) s.reached.reachable)
  where
    Case : ℕ → by_line.Message → Type 0
    Case line m = HasCase (set_up config opening) (view config a) line m

    each : (ms : List Message) → Each (GoesHome config) ms → ((line : ℕ) → Each (Case line) (messages_of ms line)) →
        Each (FindsPart config a) ms
    each [] goes waits = tt
    each (x ∷ xs) goes waits = (
      finds_part config opening a s x goes.0 (subst (Each (Case x.line)) (messages_here x xs) (waits x.line)).0,
      each xs goes.1 (λ line. rest line (eqb x.line line) (waits line)),
    )
      where
        rest : (line : ℕ) (b : Bool) → Each (Case line) (cond b (message_seen x ∷ messages_of xs line)
            (messages_of xs line)) → Each (Case line) (messages_of xs line)
        rest line true h = h.1
        rest line false h = h

-- so does each in a machine
pub messages_find_cases : (m : Machine) → Invariant m → Each (λ x. has_case m x.1 ≡ true) m.mail.messages
messages_find_cases m s = each m.mail.messages (bag_finds m.config m.opening (seen m) s.kept)
  where
    case_at : (x : Message) (to : Node) → FindsCase m.config (seen m) x to → has_case_at m x to ≡ true
    case_at x (node.Core c) k = ap (λ o. takes core_has_case o x) (slice_get-get_or m.cores c (open_core m.config c)
        (let n = s.core_count in let lt = k.0 in omega arith)) ∙ k.1
    case_at x (node.Bank b) k = ap (λ o. takes bank_has_case o x) (slice_get-get_or m.banks b (open_bank m.config b)
        (let n = s.bank_count in let lt = k.0 in omega arith)) ∙ k.1
    case_at x (node.Dram b) k = ap (λ o. takes dram_has_case o x)
        (slice_get-get_or m.drams b (dram_of m.config b (entries m.opening))
        (let n = s.dram_count in let lt = k.0 in omega arith)) ∙ k.1

    each : (ms : List (ℕ × Message)) → Each (FindsPart m.config (seen m)) (bag_of ms) →
        Each (λ x. has_case m x.1 ≡ true) ms
    each [] k = tt
    each (x ∷ xs) k = (case_at x.1 x.1.to k.0.found, each xs k.1)

-- the part that a message goes to, which has a case for it, and what happens when it is delivered
pub data Gets (m : Machine) (n : ℕ) (x : Message) : Type 0 where
  a_core : (c : ℕ) → x.to ≡ node.Core c → slice_get m.cores c ≡ Some ((seen m).cores c) →
      core_has_case ((seen m).cores c) x ≡ true → on_event m (Deliver n)
      ≡ changed m (with_core m c) (Some n) (reacted (core_table.core_table ((seen m).cores c) x)) → Gets m n x
  a_bank : (b : ℕ) → x.to ≡ node.Bank b → slice_get m.banks b ≡ Some ((seen m).banks b) →
      bank_has_case ((seen m).banks b) x ≡ true → on_event m (Deliver n)
      ≡ changed m (with_bank m b) (Some n) (reacted (bank_table ((seen m).banks b) x)) → Gets m n x
  a_dram : (b : ℕ) → x.to ≡ node.Dram b → slice_get m.drams b ≡ Some ((seen m).drams b) →
      dram_has_case ((seen m).drams b) x ≡ true → on_event m (Deliver n)
      ≡ changed m (with_dram m b) (Some n) (reacted (dram_table ((seen m).drams b) x)) → Gets m n x

pub gets_it : (m : Machine) → Invariant m → (n : ℕ) (x : Message) → at_number n m.mail.messages ≡ Some x → Gets m n x
gets_it m s n x number = go x.to refl
    (each_at_number (λ y. has_case m y.1 ≡ true) n m.mail.messages x number (messages_find_cases m s) (λ k p. p))
  where
    part : {S : Type 0} (parts : List S) (i : ℕ) (d : S) (has_case : S → Message → Bool) →
        takes has_case (slice_get parts i) x ≡ true →
        (slice_get parts i ≡ Some (get_or parts i d)) × (has_case (get_or parts i d) x ≡ true)
    part {S} parts i d has_case has = on (slice_get parts i) refl has
      where
        on : (o : Option S) → slice_get parts i ≡ o → takes has_case o x ≡ true →
            (slice_get parts i ≡ Some (get_or parts i d)) × (has_case (get_or parts i d) x ≡ true)
        on None at has = absurd (cc)
        on (Some y) at has = grind (arith, get_or_from_slice_get parts i y d at)

    go : (to : Node) → x.to ≡ to → has_case_at m x to ≡ true → Gets m n x
    go (node.Core c) to has = let k = part m.cores c (open_core m.config c) core_has_case has in
        a_core c to k.0 k.1 (is_delivered m n x (node.Core c) number to (with_core m c) (slice_get m.cores c) _ k.0
        core_has_case core_table.core_table k.1 refl)
    go (node.Bank b) to has = let k = part m.banks b (open_bank m.config b) bank_has_case has in
        a_bank b to k.0 k.1 (is_delivered m n x (node.Bank b) number to (with_bank m b) (slice_get m.banks b) _ k.0
        bank_has_case bank_table k.1 refl)
    go (node.Dram b) to has = let k = part m.drams b (dram_of m.config b (entries m.opening)) dram_has_case has in
        a_dram b to k.0 k.1 (is_delivered m n x (node.Dram b) number to (with_dram m b) (slice_get m.drams b) _ k.0
        dram_has_case dram_table k.1 refl)

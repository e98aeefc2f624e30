-- A part that has changed, put back among the others.
use Rattle.std.proofs.Common.{◌≡◌, ℕ, zero, suc, ◌||◌, Bool, true, false, List, [], ◌∷◌, length, set, Option, Some}
use Rattle.std.proofs.Common.{None, IsSome, refl, sym, ap, ◌∙◌, arith}
use Rattle.std.proofs.lemmas.Bool.Decides.{nat_tests}
use Rattle.std.proofs.lemmas.Grind.{common_steps}
use Rattle.std.specs.List.{slice_get}
use Rattle.std.specs.Ordering.{nat_cmp}
use Rattle.std.specs.FinMap.{FinMap}
use Rattle.physiological_order.specs.declared.operation.Record.{Record}
use Rattle.network.specs.declared.part.Reaction.{Reaction}
use Rattle.network.specs.declared.message.Message.{Message}
use Rattle.network.specs.declared.message.Node.{Node}
use Rattle.network.specs.declared.message.Node.TheVariants as node
use Rattle.network.specs.Mail.{Mail}
use Rattle.core_pts.specs.CoreTable.{CoreState, core_has_case, core_table}
use Rattle.llc_bank.specs.BankTable.{BankState, bank_has_case, bank_table}
use Rattle.dram_mts.specs.Table.{dram_has_case, dram_table}
use Rattle.machine_table.specs.declared.event.Answer.{Answer}
use Rattle.machine_table.specs.declared.event.Answer.TheVariants as answer
use Rattle.machine_table.specs.declared.event.Refusal.TheVariants as refusal
use Rattle.machine_table.specs.Machine.{Machine}
use Rattle.machine_table.specs.Posted.{left}
use Rattle.machine_table.specs.Step as step
use Rattle.machine_table.specs.Step.{Step, Tried}
use Rattle.machine_table.proofs.Lemmas.{Fits, FitsTried}
use Rattle.machine_table.specs.Transition.{changed, deliver_to, gets, if_there, tried}
use Rattle.machine_theorem.specs.Cases.{has_case_at, takes}
use Rattle.interleaving_core.specs.PartChanges.{applied, applied_attempt, stops, with_record}
use Rattle.interleaving_core.proofs.Only.{kept_plain, made_plain}

-- a list in which what is there is put where it is
pub set_same : {X : Type 0} (xs : List X) (i : ℕ) (x : X) → slice_get xs i ≡ Some x → set xs i x ≡ xs
set_same [] i x here = refl
set_same (y ∷ ys) zero x here = ap (λ z. z ∷ ys) (let e : Some y ≡ Some x = here in cc)
set_same (y ∷ ys) (suc i) x here = ap (λ zs. y ∷ zs) (set_same ys i x here)

-- the machine m with other parts
abbrev pub with_parts : Machine → List CoreState × List BankState × List (FinMap nat_cmp (List ℕ)) → Machine
with_parts m x = record m { cores = x.0; banks = x.1; drams = x.2 }

-- the part number k of its kind in the machine m: what messages to this node go to
pub record Place {S : Type 0} (m : Machine) (to : Node) (parts : List S) (k : ℕ) (has_case : S → Message → Bool)
    (table : S → Message → Option (Reaction × S)) : Type 0 where
  pub among : List S → List CoreState × List BankState × List (FinMap nat_cmp (List ℕ))
  pub same : with_parts m (among parts) ≡ m
  pub finds : (message : Message) → has_case_at m message to ≡ takes has_case (slice_get parts k) message
  pub delivers : (n : ℕ) (message : Message) → deliver_to m n message to ≡ if_there m (slice_get parts k)
      (λ x. gets m (λ y. with_parts m (among (set parts k y))) n (has_case x message) (table x message))

abbrev pub core_place : (m : Machine) (c : ℕ) → Place m (node.Core c) m.cores c core_has_case core_table
core_place m c = record { among = λ x. (x, m.banks, m.drams); same = refl; finds = λ x. refl; delivers = λ n x. refl }

abbrev pub bank_place : (m : Machine) (b : ℕ) → Place m (node.Bank b) m.banks b bank_has_case bank_table
bank_place m b = record { among = λ x. (m.cores, x, m.drams); same = refl; finds = λ x. refl; delivers = λ n x. refl }

abbrev pub dram_place : (m : Machine) (b : ℕ) → Place m (node.Dram b) m.drams b dram_has_case dram_table
dram_place m b = record { among = λ x. (m.cores, m.banks, x); same = refl; finds = λ x. refl; delivers = λ n x. refl }

-- a part of the machine m, and the machine with another one in its place
module _ {S : Type 0} {m : Machine} {to : Node} {parts : List S} {k : ℕ} {has_case : S → Message → Bool}
    {table : S → Message → Option (Reaction × S)} (place : Place m to parts k has_case table) (part : S)
    (here : slice_get parts k ≡ Some part) where
  abbrev pub put : S → Machine
  put x = with_parts m (place.among (set parts k x))

  put_same : put part ≡ m
  put_same = ap (λ ps. with_parts m (place.among ps)) (set_same parts k part here) ∙ place.same

  -- the machine with the part, the messages in flight, the record and the stop of an answer
  abbrev after : Answer × S × Mail → Answer × Machine
  after x = (
    x.0,
    record (put x.1) {
      mail = x.2;
      records = with_record m.records x.0;
      is_stopped =
          stops x.0 || m.is_stopped;
    },
  )

  kept_so : (mail : Mail) (records : List Record) (b : Bool) (answer : Answer) →
      ◌≡◌ {A = Answer × Machine} (answer, record (put part) { mail = mail; records = records; is_stopped = b })
      (answer, record m { mail = mail; records = records; is_stopped = b })
  kept_so mail records b answer =
      ap (λ (n : Machine). (answer, record n { mail = mail; records = records; is_stopped = b })) put_same

  pub is_changed : (n : Option ℕ) (s : Step S) → Fits s →
      after (applied m.config.messages part m.mail n s) ≡ changed m put n s
  is_changed n step.Exhausts fits = kept_so m.mail m.records true (answer.Refused refusal.Exhausted)
  is_changed n (step.Keeps why) fits =
      let q0 = kept_plain why fits in
      let q1 = kept_so m.mail (with_record m.records why) (stops why || m.is_stopped) why in
      grind (arith, nat_tests, q0, q1)
  is_changed n step.Drops fits = kept_so (left m.mail n) m.records m.is_stopped answer.Dropped
  is_changed n (step.Makes why consumes sends new) fits =
      let q0 = made_plain why fits in
      let q1 = kept_so m.mail m.records m.is_stopped (answer.Refused refusal.NetworkFull) in
      grind (arith, nat_tests, q0, q1)

  -- the machine after an event that makes this of the part and the messages in flight
  pub put_so : (x : Answer × S × Mail) (y : Answer × Machine) → after x ≡ y →
      (answer : Answer) (new : S) (mail : Mail) (records : List Record) (stopped : Bool) →
      (answer, new, mail) ≡ x → records ≡ with_record m.records answer → stopped ≡ (stops answer || m.is_stopped) →
      (answer, record (put new) { mail = mail; records = records; is_stopped = stopped }) ≡ y
  put_so x y leads answer new mail records stopped is recorded stop = grind (arith, nat_tests)

  -- a step adds no record
  not_recorded : (n : Option ℕ) (s : Step S) → Fits s →
      m.records ≡ with_record m.records (applied m.config.messages part m.mail n s).0
  not_recorded n step.Exhausts fits = refl
  not_recorded n (step.Keeps why) fits = sym ((kept_plain why fits).0 m.records)
  not_recorded n step.Drops fits = refl
  not_recorded n (step.Makes why consumes sends new) fits =
      let q0 = made_plain why fits in grind (arith, nat_tests, q0)

  pub made_without : (n : Option ℕ) (s : Step S) → Fits s → (answer : Answer) (new : S) (mail : Mail) (stopped : Bool) →
      (answer, new, mail) ≡ applied m.config.messages part m.mail n s → stopped ≡ (stops answer || m.is_stopped) →
      (answer, record (put new) { mail = mail; is_stopped = stopped }) ≡ changed m put n s
  made_without n s fits answer new mail stopped is stop =
      grind (arith, nat_tests, common_steps, is_changed, not_recorded, put_so)

  -- an event of the part: what the table makes of the machine is the step, with messages of this capacity. The machine
  -- is seen as a model.
  module _ (n : Option ℕ) (s : Step S) (fits : Fits s) (capacity : ℕ) (same_capacity : capacity ≡ m.config.messages)
      (seen : Machine) (is_view : m ≡ seen) (event : Machine → Answer × Machine)
      (changes : changed m put n s ≡ event m) where
    pub event_done : (answer : Answer) (new : S) (mail : Mail) (stopped : Bool) → (answer, new, mail) ≡ applied
        capacity part m.mail n s → stopped ≡ (stops answer || m.is_stopped) →
        (answer, record (put new) { mail = mail; is_stopped = stopped }) ≡ event seen
    event_done answer new mail stopped is stop =
        made_without n s fits answer new mail stopped
        (is ∙ ap (λ (k : ℕ). applied k part m.mail n s) same_capacity) stop
        ∙ changes ∙ ap event is_view

-- an attempt of a core of the machine, which is put into its place
module _ (m : Machine) (c : ℕ) (core : CoreState) (here : slice_get m.cores c ≡ Some core) where
  pub is_tried : (t : Tried) → FitsTried t → after (core_place m c) core here
      (applied_attempt c (length m.records) m.config.messages m.mail core t) ≡ tried m c core t
  is_tried (step.Completes op received ts new) fits = refl
  is_tried (step.Does s) fits = is_changed (core_place m c) core here None s fits

-- what an option has that isn't empty
pub had : {X : Type 0} (o : Option X) → IsSome o → (x : X) × (o ≡ Some x)
had None h = absurd (let z : false ≡ true = h in cc)
had (Some x) h = (x, refl)

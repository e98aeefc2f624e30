-- Moves of a state are events of a machine in that state, if it has capacity and numbers for what they send. Services
-- are events that serve.
use Rattle.std.proofs.Common.{◌≡◌, ◌≢◌, ℕ, zero, suc, ◌+◌, ◌-◌, ◌^◌, ◌<◌, ◌≤◌, Bool, true, false, cond, eqb, List, []}
use Rattle.std.proofs.Common.{◌∷◌, ◌++◌, length, Option, Some, None, Ok, ◌⊎◌, inl, inr, refl, sym, ap, ◌∙◌, subst}
use Rattle.std.proofs.Common.{arith, ⊎_elim, unwrap_or, zero-add, suc-add, rules}
use Rattle.std.specs.List.{slice_get, AllByRecursion as Each}
use Rattle.std.proofs.lemmas.Bool.{cases_Bool, cond_both, cond-false, eq-eqb, ne_eqb, lt-ltb}
use Rattle.std.proofs.lemmas.Option.{slice_get-get_or}
use Rattle.physiological_order.specs.declared.operation.Op.{Op}
use Rattle.network.specs.declared.message.Node.{Node}
use Rattle.network.specs.declared.message.Node.TheVariants as node
use Rattle.network.specs.declared.message.Message.{Message}
use Rattle.network.specs.Mail.{Mail}
use Rattle.network.specs.NumberedMessages.{IsRising, at_number, without_number}
use Rattle.core_pts.specs.CoreTable as core_table
use Rattle.core_pts.specs.CoreTable.{core_has_case}
use Rattle.llc_bank.specs.BankTable.{bank_has_case}
use Rattle.dram_mts.specs.Table.{dram_has_case}
use Rattle.machine_table.specs.declared.config.Config.{Config}
use Rattle.machine_table.specs.declared.event.Answer.{Answer}
use Rattle.machine_table.specs.declared.event.Answer.TheVariants.{Idle}
use Rattle.machine_table.specs.declared.event.Event.{Event}
use Rattle.machine_table.specs.declared.event.Event.TheVariants as event
use Rattle.machine_table.specs.declared.event.Refusal.TheVariants as refusal
use Rattle.machine_table.specs.Machine.{Machine, with_core, with_bank, with_dram}
use Rattle.machine_table.specs.Posted.{can_post, left, posted}
use Rattle.machine_table.specs.Runs.{after_all}
use Rattle.machine_table.specs.Step as step
use Rattle.machine_table.specs.Step.{Step, Makes, Drops, Keeps, Exhausts, Completes, Act, message_of, core_step}
use Rattle.machine_table.specs.Transition.{changed, issued, refused, tried, transition, on_event}
use Rattle.machine_table.proofs.Lemmas.{IsGiven, Outcome, core_steps as core_comes, bank_steps as bank_comes}
use Rattle.machine_table.proofs.Lemmas.{dram_steps as dram_comes, transition_outcome, core_event, bank_event, finds}
use Rattle.machine_table.proofs.Lemmas.{core_acts, bank_acts, dram_acts}
use Rattle.machine_theorem.specs.Bags.{weigh, SameBag, bag_of}
use Rattle.machine_theorem.specs.States.{State, Same, seen}
use Rattle.machine_theorem.specs.Moves as moves
use Rattle.machine_theorem.specs.Moves.{Move, AreBeside, StepsTo, issues, completes, core_steps, bank_steps, dram_steps}
use Rattle.machine_theorem.specs.Unstuck.{IsServing, CompletesIn, IsServed}
use Rattle.machine_theorem.proofs.Services as defined
use Rattle.machine_theorem.proofs.Services.{IsService, Serves, nothing, first, IsLate, a_core, a_bank, EndsWithin}
use Rattle.machine_theorem.proofs.Bags.{as_many, bag-taken}
use Rattle.machine_theorem.proofs.PartChanges.{core_put, bank_put, dram_put, issue_put, completion_put, bag_put}
use Rattle.machine_theorem.proofs.PartChanges.{posted_put}
use Rattle.machine_theorem.proofs.Reorderings.{hit, hit-itself, is_same, is_same-true}
use Rattle.machine_theorem.proofs.Routes.{both}
use Rattle.machine_theorem.proofs.SetUps.{as_many_parts}

-- numbers go on rising where a message is taken and another sent
module _ {X : Type 0} where
  lower : (low least high : ℕ) (xs : List (ℕ × X)) → IsRising low xs high → least ≤ low → IsRising least xs high
  lower low least high [] rising h = omega arith
  lower low least high (y ∷ ys) rising h = (omega (arith, rising.0), rising.1)

  still_rising : (n low high : ℕ) (xs : List (ℕ × X)) → IsRising low xs high → IsRising low (without_number n xs) high
  still_rising n low high [] rising = rising
  still_rising n low high (y ∷ ys) rising =
      cond_both (eqb y.0 n) ys (y ∷ without_number n ys) (λ zs. IsRising low zs high)
      (λ e. lower (y.0 + 1) low high ys rising.1 (omega (arith, rising.0)))
      (λ e. (rising.0, still_rising n (y.0 + 1) high ys rising.1))

  rising_on : (low high : ℕ) (x : X) (xs : List (ℕ × X)) → IsRising low xs high →
      IsRising low (xs ++ (high, x) ∷ []) (high + 1)
  rising_on low high x [] rising = (rising, omega arith)
  rising_on low high x (y ∷ ys) rising = (rising.0, rising_on (y.0 + 1) high x ys rising.1)

module _ (m : Machine) (rising : IsRising 0 m.mail.messages m.mail.next) where
  -- so at each event, which gives at most one number, and takes none back
  abbrev Rises : Mail → Type 0
  Rises mail = IsRising 0 mail.messages mail.next × (mail.next ≤ m.mail.next + 1) × (m.mail.next ≤ mail.next)

  left_rises : (n : Option ℕ) → IsRising 0 (left m.mail n).messages m.mail.next
  left_rises None = rising
  left_rises (Some k) = still_rising k 0 m.mail.next m.mail.messages rising

  posted_rises : (n : Option ℕ) (consumes : Bool) (sends : Option Message) → Rises (posted m.mail n consumes sends)
  posted_rises n true None = (left_rises n, omega arith, omega arith)
  posted_rises n false None = (rising, omega arith, omega arith)
  posted_rises n true (Some q) = grind (arith, rising_on 0 m.mail.next q (left m.mail n).messages (left_rises n))
  posted_rises n false (Some q) = (rising_on 0 m.mail.next q m.mail.messages rising, omega arith, omega arith)

  changed_rises : {S : Type 0} (put : S → Machine) (n : Option ℕ) (done : Step S) → Rises (changed m put n done).1.mail
  changed_rises put n Drops = posted_rises n true None
  changed_rises put n (Makes answer consumes sends part) =
      cond_both (can_post m.config.messages m.mail consumes sends)
      (answer, record (put part) { mail = posted m.mail n consumes sends }) (refused m refusal.NetworkFull)
      (λ o. Rises o.1.mail) (λ e. posted_rises n consumes sends) (λ e. (rising, omega arith, omega arith))
  changed_rises put n _ = (rising, omega arith, omega arith)

  outcome_rises : (e : Event) (o : Answer × Machine) → Outcome m e o → Rises o.1.mail
  outcome_rises e o (core_comes c core act n done at given is fits) = changed_rises (with_core m c) n done
  outcome_rises e o (bank_comes b bank act n done at given is fits) = changed_rises (with_bank m b) n done
  outcome_rises e o (dram_comes b lines act n done at given is fits) = changed_rises (with_dram m b) n done
  outcome_rises e o _ = (rising, omega arith, omega arith)

  pub event_rises : (e : Event) → Rises (transition m e).1.mail
  event_rises e = outcome_rises e (transition m e) (transition_outcome m e)

pub rising_after : (m : Machine) (events : List Event) → IsRising 0 m.mail.messages m.mail.next →
    IsRising 0 (after_all m events).mail.messages (after_all m events).mail.next
rising_after m [] rising = rising
rising_after m (e ∷ es) rising = rising_after (transition m e).1 es (event_rises m rising e).0

-- a message that is in flight has a number
pub record Numbered (ms : List (ℕ × Message)) (x : Message) (low : ℕ) : Type 0 where
  pub number : ℕ
  pub at : at_number number ms ≡ Some x
  least : low ≤ number

number_of : (x : Message) (low high : ℕ) (ms : List (ℕ × Message)) → IsRising low ms high →
    1 ≤ weigh (hit x) (bag_of ms) → Numbered ms x low
number_of x low high [] rising some = absurd (omega arith)
number_of x low high (y ∷ ys) rising some =
    elim (cases_Bool (is_same x y.1)) [
      | inl e ↦
          record {
            number = y.0;
            at = rw (eq-eqb y.0 y.0 refl) (ap Some (sym (is_same-true x y.1 e)));
            least = rising.0;
          }
      | inr e ↦
          let k = number_of x (y.0 + 1) high ys rising.1
          (let z : hit x y.1 ≡ 0 = cond-false (is_same x y.1) 1 0 e in omega arith) in
          record {
            number = k.number;
            at = rw (ne_eqb y.0 k.number (λ q. let z = k.least in omega (arith, q, z))) k.at;
            least = let z = k.least in let r = rising.0 in omega (arith, z, r);
          }
    ]

pub number_in : (m : Machine) → IsRising 0 m.mail.messages m.mail.next → (bag : List Message) →
    SameBag bag (bag_of m.mail.messages) → (x : Message) (rest : List Message) → SameBag bag (x ∷ rest) →
    Numbered m.mail.messages x 0
number_in m rising bag all x rest taken = number_of x 0 m.mail.next m.mail.messages rising
    (let e = all (hit x) in let s = taken (hit x) in let z = hit-itself x in omega arith)

-- a machine in a state, which runs, with numbers for so many more messages
pub record IsIn (config : Config) (a : State) (m : Machine) (more : ℕ) : Type 0 where
  pub same : Same a (seen m)
  pub runs : m.is_stopped ≡ false
  pub set_up : m.config ≡ config
  pub cores : length m.cores ≡ config.cores
  pub banks : length m.banks ≡ config.banks
  pub drams : length m.drams ≡ config.banks
  pub rising : IsRising 0 m.mail.messages m.mail.next
  pub numbers : m.mail.next + more ≤ 2 ^ 64 - 1

pub bag_length : (ms : List (ℕ × Message)) → length (bag_of ms) ≡ length ms
bag_length [] = refl
bag_length (m ∷ ms) = ap suc (bag_length ms)

-- which of these events serve
core_serves : (c : ℕ) (act : Act) (n : Option ℕ) → act ≢ step.Advancing → IsServing (core_event c act n)
core_serves c step.Advancing n serves = absurd (serves refl)
core_serves c _ n serves = tt

bank_serves : (b : ℕ) (act : Act) (n : Option ℕ) → IsServing (bank_event b act n)
bank_serves b (step.Evicting line) n = tt
bank_serves b _ n = tt

module _ (config : Config) (a : State) (m : Machine) (k : ℕ) (i : IsIn config a m (suc k)) where
  -- the delivered message's number, if one is delivered
  record Given (to : Node) (has_case : Message → Bool) (message : Option Message) (rest : List Message) : Type 0 where
    number : Option ℕ
    others : SameBag rest (bag_of (left m.mail number).messages)
    is : IsGiven m to has_case message number

  given : (to : Node) (has_case : Message → Bool) (message : Option Message) (rest : List Message) →
      AreBeside a.bag to has_case message rest → Given to has_case message rest
  given to has_case None rest beside = search rules
  given to has_case (Some x) rest beside =
      let n = number_in m i.rising a.bag i.same.bag x rest beside.0 in
      let taken = bag-taken n.number m.mail.messages x n.at in
      record {
        number = Some n.number;
        others = λ h. let e = i.same.bag h in let s = beside.0 h in let t = taken h in omega arith;
        is = (n.at, beside.1, beside.2);
      }

  core_there : (c : ℕ) → c < config.cores → slice_get m.cores c ≡ Some (a.cores c)
  core_there c lt = slice_get-get_or m.cores c _ (rw i.cores lt) ∙ ap Some (sym (i.same.cores c))

  bank_there : (b : ℕ) → b < config.banks → slice_get m.banks b ≡ Some (a.banks b)
  bank_there b lt = slice_get-get_or m.banks b _ (rw i.banks lt) ∙ ap Some (sym (i.same.banks b))

  dram_there : (b : ℕ) → b < config.banks → slice_get m.drams b ≡ Some (a.drams b)
  dram_there b lt = slice_get-get_or m.drams b _ (rw i.drams lt) ∙ ap Some (sym (i.same.drams b))

  -- what is in flight afterwards fits, or one message more does
  abbrev pub HasRoom : State → Type 0
  HasRoom b = (length b.bag ≤ config.messages) ⊎ (length a.bag < config.messages)

  can : (consumes : Bool) (sends : Option Message) (rest : List Message) (b : State) →
      HasRoom (moves.with_answer b (cond consumes rest a.bag) sends) →
      can_post m.config.messages m.mail consumes sends ≡ true
  can true None rest b room = refl
  can false None rest b room = refl
  can true (Some q) rest b room = lt-ltb m.mail.next (2 ^ 64 - 1) (let z = i.numbers in omega (arith, z))
  can false (Some q) rest b room =
      let few : length a.bag < config.messages = ⊎_elim (λ le. omega (arith, le)) (λ lt. lt) room in
      let many = as_many a.bag (bag_of m.mail.messages) i.same.bag in
      cc (both _ _ (lt-ltb (length m.mail.messages) m.config.messages (let z = bag_length m.mail.messages in rw i.set_up
      (omega (arith, z, many, few)))) (lt-ltb m.mail.next (2 ^ 64 - 1) (let z = i.numbers in omega (arith, z))))

  -- the machine afterwards is in this state, and runs
  abbrev Led : State → Answer × Machine → Type 0
  Led b o = Same b (seen o.1) × (o.1.is_stopped ≡ false)

  step_led : {S : Type 0} (put : S → Machine) (puts : S → State) → ((part : S) → Same (puts part) (seen (put part))) →
      ((part : S) → (puts part).counts ≡ m.mail.counts) → ((part : S) → (put part).is_stopped ≡ false) →
      (n : Option ℕ) (rest : List Message) → SameBag rest (bag_of (left m.mail n).messages) → (done : Step S)
      (b : State) → StepsTo a puts rest done b → HasRoom b → Led b (changed m put n done)
  step_led put puts same counts runs n rest others Drops b to room =
      rw to (bag_put a m i.same rest (left m.mail n) others i.same.counts, i.runs)
  step_led put puts same counts runs n rest others (Makes did consumes sends part) b to room =
      rw (to, can consumes sends rest (puts part) (rw to at room)) (
        posted_put (puts part) (put part) (same part) a.bag rest m.mail n i.same.bag others (counts part) consumes
            sends,
        runs part,
      )
  step_led put puts same counts runs n rest others _ b to room = absurd to

  -- an event that serves where the move does, and leads to the state
  pub record Leads (b : State) (serves : Type 0) : Type 0 where
    pub event : Event
    pub serving : serves → IsServing event
    pub is_in : IsIn config b (transition m event).1 k

  happens : (e : Event) (o : Answer × Machine) → on_event m e ≡ o → transition m e ≡ o
  happens e o is = cond-false m.is_stopped _ (on_event m e) i.runs ∙ is

  leads : {b : State} {serves : Type 0} (e : Event) (o : Answer × Machine) → (serves → IsServing e) →
      on_event m e ≡ o → Led b o → Leads b serves
  leads {b} e o serving is led =
      let parts = as_many_parts m e (transition m e) (transition_outcome m e) in
      let mail = event_rises m i.rising e in
      let there : Led b (transition m e) = rw (happens e o is) led in
      record {
        event = e;
        serving = serving;
        is_in = record {
          same = there.0;
          runs = there.1;
          set_up = parts.config ∙ i.set_up;
          cores = parts.cores ∙ i.cores;
          banks = parts.banks ∙ i.banks;
          drams = parts.drams ∙ i.drams;
          rising = mail.0;
          numbers = let y = mail.1 in let z = i.numbers in omega (arith, y, z);
        };
      }

  -- a step that leads to a state does something
  does : {S : Type 0} (puts : S → State) (rest : List Message) (b : State) (done : Step S) →
      StepsTo a puts rest done b → done ≢ Keeps Idle
  does puts rest b done to is = subst (λ s. StepsTo a puts rest s b) is to

  pub move_leads : (b : State) (move : Move config a b) → IsService move ⊎ (length m.issued ≡ config.cores) →
      HasRoom b → Leads b (IsService move)
  move_leads b (issues c op core lt is) (inl serves) room = absurd serves
  move_leads b (issues c op core lt is) (inr lists) room =
      leads (event.Issue c op) (issued m c op (Ok tt, core)) (λ serves. serves)
      (finds m (λ x. issued m c op (core_table.issue x op)) (core_there c lt) ∙ ap (issued m c op) is)
      (issue_put a m i.same c op core (rw i.cores lt) (rw lists lt), i.runs)
  move_leads b (completes c op received ts core lt is) lists room =
      leads (event.Attempt c) (tried m c (a.cores c) (Completes op received ts core)) (λ serves. tt)
      (finds m (λ x. tried m c x (core_step x step.Attempting)) (core_there c lt) ∙ ap (tried m c (a.cores c)) is)
      (completion_put a m i.same c op received ts (a.cores c) core (rw i.cores lt), i.runs)
  move_leads b (core_steps c act rest done lt beside is to) lists room =
      let g = given (node.Core c) (core_has_case (a.cores c)) (message_of act) rest beside in
      leads (core_event c act g.number) (changed m (with_core m c) g.number done) (core_serves c act g.number)
      (core_acts m c (a.cores c) (core_there c lt) act g.number done g.is is)
      (step_led (with_core m c) (moves.with_core a c) (λ core. core_put a m i.same c core (rw i.cores lt))
      (λ core. i.same.counts) (λ core. i.runs) g.number rest g.others done b to room)
  move_leads b (bank_steps j act rest done lt beside is to) lists room =
      let g = given (node.Bank j) (bank_has_case (a.banks j)) (message_of act) rest beside in
      leads (bank_event j act g.number) (changed m (with_bank m j) g.number done)
      (λ serves. bank_serves j act g.number)
      (bank_acts m j (a.banks j) (bank_there j lt) act g.number done g.is is
      (does (moves.with_bank a j) rest b done to))
      (step_led (with_bank m j) (moves.with_bank a j) (λ bank. bank_put a m i.same j bank (rw i.banks lt))
      (λ bank. i.same.counts) (λ bank. i.runs) g.number rest g.others done b to room)
  move_leads b (dram_steps j act rest done lt beside is to) lists room =
      let g = given (node.Dram j) (dram_has_case (a.drams j)) (message_of act) rest beside in
      leads (event.Deliver (unwrap_or g.number 0)) (changed m (with_dram m j) g.number done) (λ serves. tt)
      (dram_acts m j (a.drams j) (dram_there j lt) act g.number done g.is is
      (does (moves.with_dram a j) rest b done to))
      (step_led (with_dram m j) (moves.with_dram a j) (λ lines. dram_put a m i.same j lines (rw i.drams lt))
      (λ lines. i.same.counts) (λ lines. i.runs) g.number rest g.others done b to room)

  -- a service whose time doesn't fit stops the machine
  stops : IsLate config a → (e : Event) × IsServing e × ((transition m e).1.is_stopped ≡ true)
  stops (a_core c act rest lt serves beside is) =
      let g = given (node.Core c) (core_has_case (a.cores c)) (message_of act) rest beside in
      let acts = core_acts m c (a.cores c) (core_there c lt) act g.number Exhausts g.is is in
      (core_event c act g.number, core_serves c act g.number serves, ap (λ o. o.1.is_stopped) (happens _ _ acts))
  stops (a_bank b act rest lt beside is) =
      let g = given (node.Bank b) (bank_has_case (a.banks b)) (message_of act) rest beside in
      let acts = bank_acts m b (a.banks b) (bank_there b lt) act g.number Exhausts g.is is (λ e. cc) in
      (bank_event b act g.number, bank_serves b act g.number, ap (λ o. o.1.is_stopped) (happens _ _ acts))

-- at most so many events that serve lead to a machine of which this holds
record Ran (j : ℕ) (m : Machine) (P : Machine → Type 0) : Type 0 where
  events : List Event
  few : length events ≤ j
  serving : Each IsServing events
  ends : P (after_all m events)

runs_first : (j : ℕ) (m : Machine) (P : Machine → Type 0) (e : Event) → IsServing e → Ran j (transition m e).1 P →
    Ran (suc j) m P
runs_first j m P e serving r = record {
  events = e ∷ r.events;
  few = let z = r.few in omega arith;
  serving = (serving, r.serving);
  ends = r.ends;
}

module _ (config : Config) (most : ℕ) (room : most ≤ config.messages) where
  -- a list of services is one of events, with further ones behind them
  runs_on : (j more : ℕ) (a b : State) (m : Machine) (P : Machine → Type 0) → Serves config most j a b →
      IsIn config a m (j + more) → ((n : Machine) → IsIn config b n more → Ran more n P) → Ran (j + more) m P
  runs_on zero more a _ m P nothing i then = rw zero-add (then m (rw zero-add at i))
  runs_on (suc j) more a b m P (first {b = d} move is few rest) i then =
      let s = move_leads config a m (j + more) (rw suc-add at i) d move (inl is) (inl (omega (arith, few, room))) in
      rw suc-add (runs_first (j + more) m P s.event (s.serving is)
      (runs_on j more d b (transition m s.event).1 P rest s.is_in then))

  -- a core's operation is completed since the machine, or the machine is stopped
  abbrev Ends : ℕ → Op → Machine → Machine → Type 0
  Ends c op m n = CompletesIn c op m n ⊎ (n.is_stopped ≡ true)

  pub served_in : (services c : ℕ) (op : Op) (a : State) (m : Machine) → EndsWithin config most services c op a →
      c < config.cores → IsIn config a m (services + 1) → IsServed (services + 1) c op m
  served_in services c op a m e lt i =
      let many : services + 1 ≡ e.made + suc (services - e.made) = (let f = e.few in omega (arith, f)) in
      let r : Ran (services + 1) m (Ends c op m) = rw many (runs_on e.made (suc (services - e.made)) a e.after m
      (Ends c op m) e.serves (rw many at i) (⊎_elim completed late e.ends)) in
      record { events = r.events; few = r.few; serving = r.serving; ends = r.ends }
    where
      completed : defined.Completes c op a e.after → (n : Machine) → IsIn config e.after n (suc (services - e.made)) →
          Ran (suc (services - e.made)) n (Ends c op m)
      completed x n is = record {
        events = [];
        few = omega arith;
        serving = tt;
        ends = grind (arith, core_there config e.after n (services - e.made) is c lt);
      }

      late : IsLate config e.after → (n : Machine) → IsIn config e.after n (suc (services - e.made)) →
          Ran (suc (services - e.made)) n (Ends c op m)
      late x n is =
          let s = stops config e.after n (services - e.made) is x in
          record { events = s.0 ∷ []; few = omega arith; serving = (s.1, tt); ends = inr s.2 }

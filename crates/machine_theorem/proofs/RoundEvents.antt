-- Events of a round that change a machine, where a message has a number, and room or the place of the one that is
-- delivered: each is a step of its part.
use Rattle.std.proofs.Common.{arith, ◌≡◌, ℕ, ◌-◌, ◌^◌, ◌<◌, ◌/◌, Bool, true, false, length, Option, Some, None, refl}
use Rattle.std.proofs.Common.{sym, ap, ◌∙◌, subst, slice_get}
use Rattle.std.proofs.lemmas.Bool.{cond-true, cond-false, lt-ltb}
use Rattle.physiological_order.specs.declared.operation.Op.{Op}
use Rattle.physiological_order.specs.Order.{address}
use Rattle.network.specs.declared.message.Message.{Message}
use Rattle.network.specs.declared.message.Node.TheVariants as node
use Rattle.network.specs.Mail.{has_number, has_capacity}
use Rattle.network.specs.NumberedMessages.{at_number}
use Rattle.private_cache.specs.CopyTable.{victim_for}
use Rattle.core_pts.specs.CoreTable as core_table
use Rattle.core_pts.specs.CoreTable.{CoreState}
use Rattle.llc_bank.specs.BankTable as bank_table
use Rattle.llc_bank.specs.BankTable.{BankState}
use Rattle.machine_table.specs.declared.event.Answer.{Answer}
use Rattle.machine_table.specs.declared.event.Answer.TheVariants.{Held, Refused}
use Rattle.machine_table.specs.declared.event.Event.{Event}
use Rattle.machine_table.specs.declared.event.Event.TheVariants as event
use Rattle.machine_table.specs.declared.event.Refusal.TheVariants as refusal
use Rattle.machine_table.specs.Machine.{Machine, with_core, with_bank}
use Rattle.machine_table.specs.Posted.{can_post}
use Rattle.machine_table.specs.Step.{Step, Exhausts, Keeps, Drops, Makes, Tried, Completes, Does, attempt_open}
use Rattle.machine_table.specs.Step.{copy_evicted, entry_evicted}
use Rattle.machine_table.specs.Transition.{changed, tried, transition, on_event}
use Rattle.machine_table.proofs.Lemmas.{finds}
use Rattle.machine_theorem.specs.Rounds.{IsMoving, IsRequest, IsInRound, attempts, copy_leaves, delivers, line_leaves}
use Rattle.machine_theorem.specs.Rounds.{MovesOn}

-- a step that changes something, or whose sum of times doesn't fit, by whether one more message has room: if not, it
-- consumes the delivered message
abbrev pub IsActive : {S : Type 0} → Bool → Step S → Type 0
IsActive more Exhausts = Unit {0}
IsActive more (Keeps answer) = ⊥
IsActive more Drops = Unit {0}
IsActive more (Makes answer true sends part) = IsMoving answer
IsActive true (Makes answer false sends part) = IsMoving answer
IsActive false (Makes answer false sends part) = ⊥

abbrev pub IsTrying : Bool → Tried → Type 0
IsTrying more (Completes op received ts after) = Unit {0}
IsTrying more (Does step) = IsActive more step

-- a machine that runs, with a number for a message, and room for one more, if that is said
pub record CanSend (more : Bool) (m : Machine) : Type 0 where
  pub runs : m.is_stopped ≡ false
  pub room : more ≡ true → length m.mail.messages < m.config.messages
  pub numbers : m.mail.next < 2 ^ 64 - 1

module _ {more : Bool} (m : Machine) (able : CanSend more m) where
  numbered : has_number m.mail ≡ true
  numbered = lt-ltb m.mail.next (2 ^ 64 - 1) able.numbers

  free : more ≡ true → has_capacity m.config.messages m.mail ≡ true
  free is = cc (lt-ltb (length m.mail.messages) m.config.messages (able.room is), numbered)

  can : (consumes : Bool) (sends : Option Message) → (consumes ≡ false → more ≡ true) →
      can_post m.config.messages m.mail consumes sends ≡ true
  can true None has = refl
  can false None has = refl
  can true (Some q) has = numbered
  can false (Some q) has = free (has refl)

  step_moves : {S : Type 0} (put : S → Machine) (n : Option ℕ) (step : Step S) → IsActive more step →
      IsMoving (changed m put n step).0
  step_moves put n Exhausts active = tt
  step_moves put n (Keeps answer) active = absurd active
  step_moves put n Drops active = tt
  step_moves put n (Makes answer consumes sends part) active = go consumes more refl active
    where
      made : (takes : Bool) → (takes ≡ false → more ≡ true) → IsMoving answer →
          IsMoving (changed m put n (Makes answer takes sends part)).0
      made takes has moving = subst (λ (o : Answer × Machine). IsMoving o.0)
          (sym (cond-true (can_post m.config.messages m.mail takes sends) _ _ (can takes sends has))) moving

      go : (takes b : Bool) → more ≡ b → IsActive b (Makes answer takes sends part) →
          IsMoving (changed m put n (Makes answer takes sends part)).0
      go true b is active = made true (λ e. absurd (let z : true ≡ false = e in cc)) active
      go false true is active = made false (λ e. is) active
      go false false is active = absurd active

  try_moves : (c : ℕ) (core : CoreState) (t : Tried) → IsTrying more t → IsMoving (tried m c core t).0
  try_moves c core (Completes op received ts after) trying = tt
  try_moves c core (Does step) trying = step_moves (with_core m c) None step trying

  -- what a machine that runs makes of an event
  happens : (e : Event) (o : Answer × Machine) → on_event m e ≡ o → transition m e ≡ o
  happens e o is = cond-false m.is_stopped _ (on_event m e) able.runs ∙ is

  by_event : (e : Event) → IsInRound m e → (o : Answer × Machine) → on_event m e ≡ o → IsMoving o.0 → MovesOn m
  by_event e made o is moving = grind (arith, made, happens e o is)

  module _ (c : ℕ) (core : CoreState) (at : slice_get m.cores c ≡ Some core) where
    tries : on_event m (event.Attempt c) ≡ tried m c core (attempt_open core core.open_op)
    tries = finds m (λ x. tried m c x (attempt_open x x.open_op)) at

    pub attempt_moves : (op : Op) → core.open_op ≡ Some op → IsTrying more (attempt_open core core.open_op) → MovesOn m
    attempt_moves op opens trying =
        by_event (event.Attempt c) (attempts c core op at opens) (tried m c core (attempt_open core core.open_op)) tries
        (try_moves c core (attempt_open core core.open_op) trying)

    pub copy_moves : (op : Op) (line : ℕ) → core.open_op ≡ Some op →
        attempt_open core core.open_op ≡ Does (Keeps (Refused refusal.NoRoom)) →
        victim_for core.cache (address op / m.config.line_words) ≡ Some line →
        IsActive more (copy_evicted (core_table.evict core line)) → MovesOn m
    copy_moves op line opens full victim active =
        by_event (event.EvictCache c line)
        (copy_leaves c line core op at opens
        (ap (λ (o : Answer × Machine). o.0) (happens (event.Attempt c) _ tries ∙ ap (tried m c core) full)) victim)
        (changed m (with_core m c) None (copy_evicted (core_table.evict core line)))
        (finds m (λ x. changed m (with_core m c) None (copy_evicted (core_table.evict x line))) at)
        (step_moves (with_core m c) None (copy_evicted (core_table.evict core line)) active)

  module _ (n : ℕ) (x : Message) (number : at_number n m.mail.messages ≡ Some x) where
    -- a delivery to a part
    pub delivery_moves : {S : Type 0} (put : S → Machine) (done : Step S) →
        on_event m (event.Deliver n) ≡ changed m put (Some n) done → IsActive more done → MovesOn m
    delivery_moves put done is active =
        by_event (event.Deliver n) (delivers n x number) _ is (step_moves put (Some n) done active)

    pub line_moves : (b : ℕ) (bank : BankState) → x.to ≡ node.Bank b → slice_get m.banks b ≡ Some bank →
        on_event m (event.Deliver n) ≡ changed m (with_bank m b) (Some n) (Keeps Held) →
        (line : ℕ) → IsRequest x.body → bank_table.make_room bank x.line ≡ Some line →
        IsActive more (entry_evicted (bank_table.evict bank line)) → MovesOn m
    line_moves b bank to at held line request chosen active =
        by_event (event.EvictBank b line)
        (line_leaves n b line x bank number to request at
        (ap (λ (o : Answer × Machine). o.0) (happens (event.Deliver n) _ held)) chosen)
        (changed m (with_bank m b) None (entry_evicted (bank_table.evict bank line)))
        (finds m (λ y. changed m (with_bank m b) None (entry_evicted (bank_table.evict y line))) at)
        (step_moves (with_bank m b) None (entry_evicted (bank_table.evict bank line)) active)

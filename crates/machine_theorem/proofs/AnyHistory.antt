-- Nothing is stuck after any list of events.
use Rattle.std.proofs.Common.{◌≡◌, ℕ, ◌+◌, ◌-◌, ◌^◌, ◌<◌, ◌≤◌, true, false, List, length, Option, Some, None, refl, ap}
use Rattle.std.proofs.Common.{◌∙◌, arith, slice_get, nat_cmp}
use Rattle.std.specs.FinMap.{FinMap}
use Rattle.std.proofs.lemmas.Option.{get_or_from_slice_get, slice_get_within}
use Rattle.physiological_order.specs.declared.operation.Op.{Op}
use Rattle.core_pts.specs.CoreTable.{CoreState}
use Rattle.machine_table.specs.declared.config.Config.{Config}
use Rattle.machine_table.specs.declared.event.Event.{Event}
use Rattle.machine_table.specs.Machine.{Machine, operation_of}
use Rattle.machine_table.specs.SetUp.{is_good}
use Rattle.machine_table.specs.Opening.{at_start, open_core}
use Rattle.machine_table.specs.Runs.{after_all}
use Rattle.machine_theorem.specs.Kept.{Invariant}
use Rattle.machine_theorem.specs.States.{seen}
use Rattle.machine_theorem.specs.Unstuck.{IsServed}
use Rattle.machine_theorem.proofs.Openings.{fair, at_start_invariant}
use Rattle.machine_theorem.proofs.Events.{any_events}
use Rattle.machine_theorem.proofs.Histories.{reached_history}
use Rattle.machine_theorem.proofs.PartChanges.{itself}
use Rattle.machine_theorem.proofs.SetUps.{after_all_same}
use Rattle.machine_theorem.proofs.ServiceEvents.{IsIn, bag_length, rising_after, served_in}
use Rattle.machine_theorem.proofs.Unstuck.{ends_within_34}

module _ (config : Config) (good : is_good config ≡ true) (opening : FinMap nat_cmp ℕ) (events : List Event) where
  abbrev m : Machine
  m = after_all (at_start config opening) events

  invariant : Invariant m
  invariant = any_events (at_start config opening) (at_start_invariant config opening (fair config good)) events

  of_config : m.config ≡ config
  of_config = (after_all_same (at_start config opening) events).config

  pub served_after : m.is_stopped ≡ false → length m.mail.messages + 2 ≤ config.messages →
      m.mail.next + 35 ≤ 2 ^ 64 - 1 → (core : ℕ) (op : Op) →
      operation_of (slice_get m.cores core) ≡ Some op → IsServed 35 core op m
  served_after running room numbers core op opens = by_core (slice_get m.cores core) refl opens
    where
      as_many : length (seen m).bag ≡ length m.mail.messages
      as_many = bag_length m.mail.messages

      is_in : IsIn config (seen m) m 35
      is_in = record {
        same = itself (seen m);
        runs = running;
        set_up = of_config;
        cores = invariant.core_count ∙ ap (λ (c : Config). c.cores) of_config;
        banks = invariant.bank_count ∙ ap (λ (c : Config). c.banks) of_config;
        drams = invariant.dram_count ∙ ap (λ (c : Config). c.banks) of_config;
        rising = rising_after (at_start config opening) events (omega arith);
        numbers = numbers;
      }

      by_core : (o : Option CoreState) → slice_get m.cores core ≡ o → operation_of o ≡ Some op → IsServed 35 core op m
      by_core None at is = absurd (cc)
      by_core (Some state) at is =
          let within : core < length m.cores = slice_get_within m.cores core state at in
          let below : core < config.cores = (let z = is_in.cores in omega (arith, z, within)) in
          let here : (seen m).cores core ≡ state = get_or_from_slice_get m.cores core state
          (open_core m.config core) at in
          served_in config (length (seen m).bag + 2) (let z = as_many in omega (arith, z, room)) 34 core op (seen m) m
          (ends_within_34 config good opening core below op (seen m) (reached_history config opening events good)
          (ap (λ (k : CoreState). k.open_op) here ∙ is)) below is_in

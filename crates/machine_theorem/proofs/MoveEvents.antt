-- Every move of a state is an event of a machine in the state.
use Rattle.std.proofs.lemmas.Bool.Decides.{nat_tests}
use Rattle.std.proofs.Common.{◌≡◌, ℕ, suc, ◌-◌, ◌^◌, ◌<◌, true, false, length, inr, refl, sym, ap, ◌∙◌, arith, nat_cmp}
use Rattle.std.proofs.Common.{rules}
use Rattle.std.specs.FinMap.{FinMap}
use Rattle.network.specs.Mail.{has_capacity}
use Rattle.machine_table.specs.declared.config.Config.{Config}
use Rattle.machine_table.specs.Machine.{Machine}
use Rattle.machine_theorem.specs.States.{State, numbered_from, numbered}
use Rattle.machine_theorem.specs.Moves.{Move, issues, completes, core_steps, bank_steps, dram_steps}
use Rattle.machine_theorem.specs.Events.{IsEvent}
use Rattle.machine_theorem.specs.Kept.{IsKept}
use Rattle.machine_theorem.proofs.Bags.{kept_bag, rising, as_many}
use Rattle.machine_theorem.proofs.Lists.{length-first}
use Rattle.machine_theorem.proofs.NumberedStates.{numbered_same, numbered_invariant}
use Rattle.machine_theorem.proofs.Renumberings.{renumbered}
use Rattle.machine_theorem.proofs.ServiceEvents.{IsIn, bag_length, move_leads}
use Rattle.machine_theorem.proofs.SetUps.{transition_same}

module _ (config : Config) (opening : FinMap nat_cmp ℕ) (a : State) (s : IsKept config opening a)
    (some : length a.bag < 2 ^ 64 - 1) where
  -- the machine of the state, with room for one message more
  abbrev capacity : ℕ
  capacity = suc (length a.bag)

  abbrev ready : Machine
  ready = record (numbered config opening a) { config = record config { messages = capacity } }

  -- the same move, whatever the capacity
  of_ready : {b : State} → Move config a b → Move (record config { messages = capacity }) a b
  of_ready (issues c op core lt is) = issues c op core lt is
  of_ready (completes c op received ts core lt is) = completes c op received ts core lt is
  of_ready (core_steps c act rest done lt beside is to) = core_steps c act rest done lt beside is to
  of_ready (bank_steps i act rest done lt beside is to) = bank_steps i act rest done lt beside is to
  of_ready (dram_steps i act rest done lt beside is to) = dram_steps i act rest done lt beside is to

  is_in : IsIn (record config { messages = capacity }) a ready 1
  is_in = search (rules, numbered_same, length-first, rising)

  free : has_capacity capacity ready.mail ≡ true
  free =
      let z = as_many a.bag _ (λ h. sym (kept_bag 0 a.bag h)) in
      let e = bag_length (numbered_from 0 a.bag) in grind (arith, nat_tests)

  pub move_event : (b : State) → Move config a b → IsEvent config opening a b
  move_event b move =
      let e = move_leads (record config { messages = capacity }) a ready 0 is_in b (of_ready move)
      (inr (length-first a.issued config.cores)) (inr (omega arith)) in
      let k = transition_same ready e.event in
      record {
        machine = ready;
        event = e.event;
        invariant = renumbered (numbered config opening a) (numbered_invariant config opening a s) capacity ready.mail
            false (λ h. refl);
        rising = is_in.rising;
        free = free;
        before = record { set_up = refl; opened = refl; same = is_in.same; runs = refl };
        after = record {
          set_up = k.config ∙ ap (λ (n : ℕ). record config { messages = n })
              (sym (ap (λ (c : Config). c.messages) k.config));
          opened = k.opening;
          same = e.is_in.same;
          runs = e.is_in.runs;
        };
      }

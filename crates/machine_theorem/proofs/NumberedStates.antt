-- A state in lists, with its messages numbered, is a machine that keeps the invariant.
use Rattle.std.proofs.Common.{ℕ, [], refl, sym, nat_cmp, rules}
use Rattle.std.specs.FinMap.{FinMap, entries}
use Rattle.machine_table.specs.declared.config.Config.{Config}
use Rattle.machine_table.specs.Machine.{Machine}
use Rattle.machine_table.specs.Opening.{dram_of, open_bank, open_core}
use Rattle.machine_theorem.specs.States.{State, Same, seen, numbered}
use Rattle.machine_theorem.specs.Events.{Shows}
use Rattle.machine_theorem.specs.Kept.{IsKept, Invariant}
use Rattle.machine_theorem.proofs.Bags.{kept_bag}
use Rattle.machine_theorem.proofs.Lists.{length-first, first_listed}
use Rattle.machine_theorem.proofs.KeptSteps.{kept_same}
use Rattle.machine_theorem.proofs.ByParts.{same_by}

module _ (config : Config) (opening : FinMap nat_cmp ℕ) (a : State) (s : IsKept config opening a) where
  abbrev m : Machine
  m = numbered config opening a

  pub numbered_same : Same a (seen m)
  numbered_same = same_by
      (first_listed a.cores (open_core config) config.cores s.shape.cores_beyond)
      (first_listed a.banks (open_bank config) config.banks s.shape.banks_beyond)
      (first_listed a.drams (λ b. dram_of config b (entries opening)) config.banks s.shape.drams_beyond)
      (λ h. sym (kept_bag 0 a.bag h)) (first_listed a.issued (λ c. []) config.cores s.shape.lists_beyond) refl
      refl

  pub numbered_shows : Shows config opening a m
  numbered_shows = record { set_up = refl; opened = refl; same = numbered_same; runs = refl }

  pub numbered_invariant : Invariant m
  numbered_invariant = search (rules, length-first, kept_same, numbered_same)

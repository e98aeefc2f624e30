use Rattle.std.proofs.Common.{sym, ◌∙◌}
use Rattle.machine_theorem.specs.States.{seen, numbered}
use Rattle.machine_theorem.proofs.Coherence.{owners_of}
use Rattle.machine_theorem.proofs.Consistency.{values_of}
use Rattle.machine_theorem.proofs.NumberedStates.{numbered_invariant, numbered_same}
use Rattle.machine_theorem.proofs.Ownership.{owners_numbered, owners_same}
use Rattle.machine_theorem.proofs.ReachedStates.{reached_kept, value_same}
use Rattle.machine_theorem.proofs.move_laws.owners_and_values_are_of_states.Goals as goal

pub returns-clause-seen : goal.returns-clause-seen
returns-clause-seen c = λ m s line. sym (owners_of m s line)

pub returns-clause-values : goal.returns-clause-values
returns-clause-values c = values_of

pub returns-clause-numbered : goal.returns-clause-numbered
returns-clause-numbered c = owners_numbered

pub returns-clause-numbered_values : goal.returns-clause-numbered_values
returns-clause-numbered_values c =
    λ config opening a good reached word.
    let s = reached_kept config opening good a reached in
    values_of (numbered config opening a) (numbered_invariant config opening a s) word
    ∙ sym (value_same config opening a (seen (numbered config opening a)) s (numbered_same config opening a s) word)

pub returns-clause-owners : goal.returns-clause-owners
returns-clause-owners c = owners_same

pub returns-clause-coherent : goal.returns-clause-coherent
returns-clause-coherent c =
    λ config opening a b good reached. value_same config opening a b (reached_kept config opening good a reached)

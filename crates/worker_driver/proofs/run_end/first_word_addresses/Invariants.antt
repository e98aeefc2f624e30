use Rattle.std.proofs.Common.{◌≡◌, map}
use Rattle.machine_table.specs.Machine.{Machine}
use Rattle.machine_theorem.specs.Coherence.{coherent}
use Rattle.worker_driver.specs.Runs.{values_from}
use Rattle.worker_driver.proofs.run_end.first_word_addresses.Given as goal

abbrev pub invariant-loop-word : goal.invariant-loop-word
invariant-loop-word l = (m : Machine) → map (coherent m) l.words.items ≡ values_from m 0 l.word

-- The condition's expression in the last state of an end, and in the end's values.
use Rattle.std.proofs.Common.{◌≡◌, ℕ, List, [], sym, ap, ◌∙◌}
use Rattle.litmus_reader.specs.Litmus.{Litmus}
use Rattle.litmus_reader.specs.Seen.{seen_in}
use Rattle.litmus_reader.specs.Truth.{holds, value_of}
use Rattle.litmus_reader.proofs.Lemmas.{truth-is}
use Rattle.sequential_machine.specs.SequentialMachine.{IsOutcome, value_at}

pub truth_at_last : (test : Litmus) → test.seen ≡ seen_in test.tree [] → (values : List ℕ)
    (end : IsOutcome test values) → holds (value_at end.last) test.tree ≡ holds (value_of test.seen values) test.tree
truth_at_last test seen values end = sym (truth-is (value_at end.last) test.seen test.tree seen)
    ∙ ap (λ (vs : List ℕ). holds (value_of test.seen vs) test.tree) (sym end.values_are)

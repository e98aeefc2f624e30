use Rattle.std.proofs.Common.{◌≡◌, ℕ, Bool, List, [], Contains, ap, ◌∙◌, length}
use Rattle.litmus_reader.specs.Litmus.{Litmus}
use Rattle.litmus_reader.specs.Seen.{seen_in}
use Rattle.litmus_reader.specs.Truth.{holds}
use Rattle.sequential_machine.specs.SequentialMachine.{IsOutcome, value_at}
use Rattle.report.proofs.HeldEnds.{Has, always, never, sometimes}
use Rattle.litmus_reader.proofs.Lemmas.{text_well_formed}
use Rattle.report.proofs.LastStates.{truth_at_last}
use Rattle.std.proofs.lemmas.List.{length-map}
use Rattle.sequential_ends.specs.Every.{Every, values_in}
use Rattle.report.specs.EveryText.{held_of, often, often_in}
use Rattle.report.proofs.laws.the_last_line_is_final.Goals as goal

listed : (test : Litmus) (every : Every) (word : List ℕ) → often_in test every ≡ word →
    often (held_of test (values_in every)) (length (values_in every)) ≡ word
listed test every word is =
    ap (often (held_of test (values_in every))) (length-map every.ends (λ (end : List ℕ × List ℕ). end.0)) ∙ is

pub returns-clause-never : goal.returns-clause-never
returns-clause-never c = λ options bytes text done told is values end.
    truth_at_last told.test (text_well_formed bytes told.test told.is_test).all_seen values end
    ∙ never told.test (values_in told.every) (listed told.test told.every _ is) values (told.lists.all values end)

pub returns-clause-always : goal.returns-clause-always
returns-clause-always c = λ options bytes text done told is values end.
    truth_at_last told.test (text_well_formed bytes told.test told.is_test).all_seen values end
    ∙ always told.test (values_in told.every) (listed told.test told.every _ is) values (told.lists.all values end)

shown : (test : Litmus) (ends : List (List ℕ)) (held : Bool) → test.seen ≡ seen_in test.tree [] →
    ((values : List ℕ) → Contains ends values → IsOutcome test values) → Has test ends held →
    (values : List ℕ) × (end : IsOutcome test values) × (holds (value_at end.last) test.tree ≡ held)
shown test ends held seen outcomes has =
    let end = outcomes has.0 has.1 in (has.0, end, truth_at_last test seen has.0 end ∙ has.2)

pub returns-clause-sometimes : goal.returns-clause-sometimes
returns-clause-sometimes c = λ options bytes text done told is held.
    shown told.test (values_in told.every) held (text_well_formed bytes told.test told.is_test).all_seen
    told.lists.outcomes
    (sometimes told.test (values_in told.every) (listed told.test told.every _ is) held)

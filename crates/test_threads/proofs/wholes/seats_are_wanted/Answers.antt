use Rattle.std.proofs.Common.{ap, sym, ◌∙◌}
use Rattle.std.specs.Prelude.{slice_get}
use Rattle.test_threads.proofs.wholes.seats_are_wanted.Goals as goal

pub is_whole-requires-clause-cores : goal.is_whole-requires-clause-cores
is_whole-requires-clause-cores c = λ i p e.
    (c.in-Ok.ensures.cores.1 i p (ap (λ xs. slice_get xs i) (sym c.as_slice.ensures.value) ∙ e)).0

pub is_whole-requires-clause-banks : goal.is_whole-requires-clause-banks
is_whole-requires-clause-banks c = λ i p e.
    (c.in-Ok.ensures.banks.1 i p (ap (λ xs. slice_get xs i) (sym c.as_slice-2.ensures.value) ∙ e)).0

pub is_whole-requires-then-is_whole-clause-banks : goal.is_whole-requires-then-is_whole-clause-banks
is_whole-requires-then-is_whole-clause-banks c = λ i p e.
    (c.in-Ok.ensures.banks.1 i p (ap (λ xs. slice_get xs i) (sym c.as_slice-then-is_whole.ensures.value) ∙ e)).0

pub is_whole-requires-then-not-is_whole-clause-cores : goal.is_whole-requires-then-not-is_whole-clause-cores
is_whole-requires-then-not-is_whole-clause-cores c = λ i p e.
    (c.in-Ok.ensures.cores.1 i p (ap (λ xs. slice_get xs i) (sym c.as_slice-then-not-is_whole.ensures.value) ∙ e)).0

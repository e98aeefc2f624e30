use Rattle.std.proofs.Common.{ap, ◌∙◌, sym}
use Rattle.std.specs.Prelude.{slice_get}
use Rattle.play_seats.proofs.machines.close_seats.Goals as goal

pub is_whole-requires-clause-cores : goal.is_whole-requires-clause-cores
is_whole-requires-clause-cores c =
    λ i p e. c.requires.cores i p (ap (λ xs. slice_get xs i) (sym c.as_slice.ensures.value) ∙ e)

pub is_whole-requires-clause-banks : goal.is_whole-requires-clause-banks
is_whole-requires-clause-banks c =
    λ i p e. c.requires.banks i p (ap (λ xs. slice_get xs i) (sym c.as_slice-2.ensures.value) ∙ e)

use Rattle.std.proofs.Common.{◌≡◌, ◌≢◌, ℕ, ◌∷◌, sym, ap, ◌∙◌}
use Rattle.litmus_parser.specs.declared.syntax.Cell.{Cell}
use Rattle.sequential_machine.specs.SequentialMachine.{SequentialState, Step, next}
use Rattle.sequential_machine.proofs.Tables.{here, elsewhere}
use Rattle.sequential_machine.proofs.laws.steps_do_one_instruction.Goals as goal

one_done : (s u : SequentialState) → Step s u → (t : ℕ) × (cell : Cell) × (s.left t ≡ cell ∷ u.left t) ×
    ((v : ℕ) → v ≢ t → u.left v ≡ s.left v)
one_done s u (next t cell rest left) =
    (t, cell, left ∙ ap (λ cells. cell ∷ cells) (sym (here s.left t rest)), λ v ne. elsewhere s.left t rest v ne)

pub returns : goal.returns
returns c = one_done

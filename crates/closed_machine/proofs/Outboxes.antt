-- A walk of an outbox that has ended.
use Rattle.std.proofs.Common.{◌≡◌, ℕ, zero, suc, ◌≤◌, List, [], ◌∷◌, drop, length, None, arith}
use Rattle.line_arena.specs.CellLists.{first_cell}
use Rattle.inbox.specs.Queues.{values_of}

-- after a walk that found no cell there are no more messages
pub walked_all : {A : Type 0} → (cells : List (ℕ × A)) (n : ℕ) → first_cell (drop n cells) ≡ None →
    length (values_of cells) ≤ n
walked_all [] n e = omega arith
walked_all (c ∷ cs) zero e = cc
walked_all (c ∷ cs) (suc n) e = let rest = walked_all cs n e in omega (arith, rest)

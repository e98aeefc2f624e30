-- What an arena ends as, once a `&mut` to a value has ended.
use Rattle.std.specs.Prelude.{ℕ, map}
use Rattle.std.specs.Borrow.{Fml, RattleType, MutBor, Lends}
use Rattle.line_arena.specs.CellLists.{rewritten}
use Rattle.line_arena.specs.Arenas.{Lists, lists_of}
use Rattle.line_arena.specs.contracts.arena.Arena.{the_row}

abbrev pub lends_value : (R : RattleType) → MutBor (Lists R.Denot) → ℕ → MutBor R.Denot → Fml
lends_value R a x r = Lends (the_row R) R a r (λ w. lists_of (map (rewritten x w) a.now.lists) a.now.cells)

-- The numbers of the errors.
use Rattle.std.specs.Prelude.{ℕ}
use Rattle.line_arena.specs.declared.arena.ArenaError.{ArenaError}

abbrev pub error_number : ArenaError → ℕ
error_number ArenaError.NoMemory = 1
error_number ArenaError.TooLarge = 2

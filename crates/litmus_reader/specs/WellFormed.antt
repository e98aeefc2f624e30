-- What whole runs of a test rest on: it holds of every test that is read from a text.
use Rattle.std.specs.Prelude.{◌≡◌, ℕ, Bool, true, nat_lt, List, [], length}
use Rattle.std.specs.List.{list_all}
use Rattle.litmus_parser.specs.declared.syntax.Name.{Name}
use Rattle.litmus_parser.specs.declared.syntax.Name.TheVariants.{Register, Location}
use Rattle.litmus_parser.specs.declared.syntax.Cell.{Cell}
use Rattle.litmus_reader.specs.Litmus.{Litmus}
use Rattle.litmus_reader.specs.Seen.{seen_in}

-- an instruction of one of so many threads
abbrev pub is_of_thread : ℕ → Cell → Bool
is_of_thread threads cell = nat_lt cell.thread threads

-- a register of one of so many threads, or one of so many locations
abbrev pub is_there : ℕ → ℕ → Name → Bool
is_there threads locations (Register t r) = nat_lt t threads
is_there threads locations (Location l) = nat_lt l locations

pub record IsWellFormed (test : Litmus) : Type 0 where
  -- each instruction is of a thread of the test
  pub cells_there : list_all (is_of_thread test.threads) test.cells ≡ true
  -- each name in the condition is a register of such a thread, or a location of the test
  pub names_there : list_all (is_there test.threads (length test.locations)) test.seen ≡ true
  -- and these are the names of its expression
  pub all_seen : test.seen ≡ seen_in test.tree []

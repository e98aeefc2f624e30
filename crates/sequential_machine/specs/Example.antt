-- Two threads that each store 1 to a location and then load the other's.
use Rattle.std.specs.Prelude.{ℕ, [], ◌∷◌}
use Rattle.litmus_parser.specs.Trees.{Is}
use Rattle.litmus_parser.specs.declared.syntax.Name.TheVariants.{Register}
use Rattle.litmus_parser.specs.declared.syntax.Cell.{Cell}
use Rattle.litmus_parser.specs.declared.syntax.Instruction.{Instruction}
use Rattle.litmus_parser.specs.declared.syntax.Instruction.TheVariants as does
use Rattle.litmus_parser.specs.declared.syntax.Quantifier.TheVariants.{Exists}
use Rattle.litmus_reader.specs.Litmus.{Litmus}

abbrev pub cell : ℕ → Instruction → Cell
cell thread instruction = record { thread = thread; instruction = instruction }

-- x5 holds the 1 that is stored, and x6 gets what is loaded
abbrev pub store_buffering : Litmus
store_buffering =
    record {
      name = 83 ∷ 66 ∷ [];
      locations = (120 ∷ []) ∷ (121 ∷ []) ∷ [];
      items = [];
      threads = 2;
      cells =
          cell 0 (does.Set 5 1) ∷ cell 1 (does.Set 5 1)
          ∷ cell 0 (does.Store 5 0) ∷ cell 1 (does.Store 5 1)
          ∷ cell 0 (does.Load 6 1) ∷ cell 1 (does.Load 6 0) ∷ [];
      quantifier = Exists;
      tree = Is (Register 0 6) 1;
      seen = Register 0 6 ∷ Register 1 6 ∷ [];
    }

-- Steps that wait in blocks.
use Rattle.std.specs.Prelude.{◌≡◌, ◌<◌, ◌⊎◌, ◌++◌, [], List, drop, length}
use Rattle.std.specs.List.{flat_map}
use Rattle.programs.specs.declared.steps.Step.{Step}
use Rattle.trace_reader.specs.declared.step_blocks.Blocks.{Blocks}

-- the steps of the blocks, one after the other, without those of the first that were taken
abbrev pub waiting : Blocks → List Step
waiting blocks =
    drop blocks.taken blocks.front.items ++ (flat_map (λ block. block) blocks.full.items ++ blocks.back.items)

-- the first block has the next step, if there is one
abbrev pub IsTurned : Blocks → Type 0
IsTurned blocks = (blocks.taken < length blocks.front.items) ⊎ (waiting blocks ≡ [])

-- What the programs of the tests do: at each sixth place a store, and else a load.
use Rattle.std.specs.Prelude.{ℕ, ◌+◌, ◌%◌, ◌==◌, cond, nat_lt, Option, Some, None}
use Rattle.physiological_order.specs.declared.operation.Op.TheVariants.{Load, Store}
use Rattle.programs.specs.declared.steps.Step.{Step}
use Rattle.programs.specs.declared.steps.Step.TheVariants as step
use Rattle.test_threads.specs.declared.script.Script.{Script}

-- the next operation, up to the end
abbrev pub script_next : Script → Option Step
script_next s = cond (nat_lt s.at s.end)
    (Some (step.Op (cond (s.at % 6 == 0) (Store s.word (s.at + 1)) (Load s.word)))) None

-- the next place follows, for any value received
abbrev pub script_done : Script → Option ℕ → Script
script_done s received = cond (nat_lt s.at s.end) (record s { at = s.at + 1 }) s

-- The end states that a run of a litmus test may have.
use Rattle.std.specs.Prelude.{IfSome}
use Rattle.litmus_reader.specs.Litmus.{Litmus}
use Rattle.report_text.specs.declared.run_end.RunEnd.{RunEnd}
use Rattle.sequential_machine.specs.SequentialMachine.{IsOutcome}

-- the end state of a run that has one is an outcome of the sequential machine
abbrev pub HasOutcome : Litmus → RunEnd → Type 0
HasOutcome test run = IfSome run.state (IsOutcome test)

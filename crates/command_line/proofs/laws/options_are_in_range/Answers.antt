use Rattle.std.proofs.Common.{arith, refl}
use Rattle.command_line.specs.Options.{stream_of}
use Rattle.command_line.proofs.Ranges.{in_range, may_be_within, run_in_range}
use Rattle.command_line.proofs.laws.options_are_in_range.Goals as goal

pub returns-clause-run : goal.returns-clause-run
returns-clause-run c = λ rows options t. run_in_range rows options t

pub returns-clause-litmus : goal.returns-clause-litmus
returns-clause-litmus c = λ rows options t.
    let runs = in_range _ 1 1000000 _ options.runs (omega arith) (omega arith) t.0 in
    (run_in_range rows options.run t.2, runs.0, runs.1)

pub returns-clause-ends : goal.returns-clause-ends
returns-clause-ends c = λ rows options t. in_range _ 1 4294967295 _ options.most_states (omega arith) (omega arith) t.0

pub returns-clause-trace : goal.returns-clause-trace
returns-clause-trace c = λ rows options t.
    (run_in_range rows options.run t.4, may_be_within _ 1 18446744073709551615 options.every t.2)

pub returns-clause-stream : goal.returns-clause-stream
returns-clause-stream c = λ rows asked t.
    let cores = in_range _ 1 64 _ (stream_of asked).cores (omega arith) (omega arith) (asked.cores, t.2, refl) in
    (cores.0, cores.1, may_be_within _ 1 4294967295 asked.progress t.4)

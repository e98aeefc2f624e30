use Rattle.std.proofs.Common.{refl}
use Rattle.command_line.specs.Options.{stream_of}
use Rattle.command_line.proofs.Ranges.{some_taken, taken}
use Rattle.command_line.proofs.laws.numbers_in_range_are_taken.Goals as goal

pub returns-clause-workers : goal.returns-clause-workers
returns-clause-workers c = λ rows options t. taken _ 1 16 _ options.workers t.2

pub returns-clause-limit : goal.returns-clause-limit
returns-clause-limit c = λ rows options t. taken _ 1 4294967295 _ options.limit t.3

pub returns-clause-runs : goal.returns-clause-runs
returns-clause-runs c = λ rows options t. taken _ 1 1000000 _ options.runs t.0

pub returns-clause-states : goal.returns-clause-states
returns-clause-states c = λ rows options t. taken _ 1 4294967295 _ options.most_states t.0

pub returns-clause-every : goal.returns-clause-every
returns-clause-every c = λ rows options t. some_taken _ 1 18446744073709551615 options.every t.2

pub returns-clause-cores : goal.returns-clause-cores
returns-clause-cores c = λ rows asked t. taken _ 1 64 _ (stream_of asked).cores (asked.cores, t.2, refl)

pub returns-clause-progress : goal.returns-clause-progress
returns-clause-progress c = λ rows asked t. some_taken _ 1 4294967295 asked.progress t.4

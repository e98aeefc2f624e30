use Rattle.std.proofs.Common.{true, [], refl}
use Rattle.trace_reader.proofs.Lemmas.{none-taken, yields-none}
use Rattle.streamed_runs.proofs.streamed_run.read_ahead_of_piece.Goals as goal

pub returns-then-at_end-clause-filled : goal.returns-then-at_end-clause-filled
returns-then-at_end-clause-filled g c =
    ([], yields-none _, none-taken true c.args.ahead.now c.args.ahead.now.stream, λ is. refl)

use Rattle.std.proofs.Common.{◌≡◌, ◌++◌, List, ℕ, length}
use Rattle.byte_streams.specs.Device.{Grows}
use Rattle.byte_streams.proofs.whole.write_all.Given as goal

-- what went out, and what is left, are all of it
abbrev pub invariant-loop-rest : goal.invariant-loop-rest
invariant-loop-rest g l = record {
  gone : (gone : List ℕ) × (l.bytes ≡ gone ++ l.rest) × Grows (g.K.Sink.contents l.fn.sink)
      (g.K.Sink.contents l.sink) gone;
  counted : g.K.Sink.failures l.sink ≡ g.K.Sink.failures l.fn.sink;
}

abbrev pub decreases-loop-rest : goal.decreases-loop-rest
decreases-loop-rest g l = length l.rest

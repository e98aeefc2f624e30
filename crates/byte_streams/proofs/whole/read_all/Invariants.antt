use Rattle.std.proofs.Common.{◌≡◌, ◌≤◌, length}
use Rattle.byte_streams.specs.Device.{Loses}
use Rattle.byte_streams.proofs.whole.read_all.Given as goal

-- what came so far, a byte a call or more
abbrev pub invariant-loop : goal.invariant-loop
invariant-loop g l = record {
  came : Loses (g.S.Source.remaining l.fn.source) (g.S.Source.remaining l.source) l.bytes.items;
  counted : g.S.Source.failures l.source ≡ g.S.Source.failures l.fn.source;
  many : l.counter ≤ length l.bytes.items;
  few : length l.bytes.items ≤ l.most;
}

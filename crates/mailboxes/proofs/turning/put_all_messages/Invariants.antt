use Rattle.std.proofs.Common.{◌≡◌, ◌+◌}
use Rattle.mailboxes.specs.Turns.{PutSo}
use Rattle.mailboxes.proofs.turning.put_all_messages.Given as goal

abbrev pub invariant-loop-count : goal.invariant-loop-count
invariant-loop-count g l = record {
  seat : g.S.Turner.is_here l.fn.machine l.seat;
  number : g.S.Turner.number l.seat ≡ g.S.Turner.number l.fn.seat;
  so_far : PutSo (g.S.Turner.puts l.fn.machine) l.count l.fn.seat l.seat;
  fewer : g.S.Turner.waiting l.seat + l.count ≡ g.S.Turner.waiting l.fn.seat;
}

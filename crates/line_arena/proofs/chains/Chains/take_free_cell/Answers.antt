use Rattle.std.proofs.Common.{arith, true≢false, refl}
use Rattle.line_arena.proofs.Counts.{counted}
use Rattle.line_arena.proofs.chains.Chains.take_free_cell.Goals as goal

pub returns-then-self-gt0-clause-full : goal.returns-then-self-gt0-clause-full
returns-then-self-gt0-clause-full g c =
    let n = counted c.args.self.now c.requires in let t = c.requires.total in let some = c.if-self-gt0.true in
    ((λ e. absurd (true≢false e)), λ e. absurd (omega (arith, n, t.1, some, e)))

pub returns-then-self-clause-full : goal.returns-then-self-clause-full
returns-then-self-clause-full g c =
    let n = counted c.args.self.now c.requires in let t = c.requires.total in let some = c.if-self.true in
    ((λ e. absurd (true≢false e)), λ e. absurd (omega (arith, n, t.1, some, e)))

pub returns-clause-full : goal.returns-clause-full
returns-clause-full g c =
    let n = counted c.args.self.now c.requires in let t = c.requires.total in
    let none = c.if-self-gt0.false in let full = c.if-self.false in
    ((λ _. omega (arith, n, t.1, none, full)), λ _. refl)

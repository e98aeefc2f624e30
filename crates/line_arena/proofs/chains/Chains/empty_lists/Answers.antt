use Rattle.std.proofs.Common.{refl}
use Rattle.line_arena.proofs.EmptiedLists.{unused, halfway_cell, halfway_last, emptied_tied}
use Rattle.line_arena.proofs.chains.Chains.empty_lists.Goals as goal

pub empty_list-requires-clause-cell : goal.empty_list-requires-clause-cell
empty_list-requires-clause-cell g c =
    halfway_cell c.loop-at.at c.args.self.now c.loop-at.self c.requires c.loop-at.invariant
    c.loop-at-test.true

pub returns-clause-tied : goal.returns-clause-tied
returns-clause-tied g c =
    let old = c.args.self.now in
    let e = halfway_last c.loop-at.at old c.loop-at.self c.requires c.loop-at.invariant
    c.loop-at-test.false in
    (emptied_tied old (unused c.loop-at.self) c.requires e).0.0

pub returns-clause-fields : goal.returns-clause-fields
returns-clause-fields g c =
    let e = halfway_last c.loop-at.at c.args.self.now c.loop-at.self c.requires c.loop-at.invariant
    c.loop-at-test.false in
    (e.capacity, refl, e.cells, e.heads.many, refl)

pub returns-clause-empty : goal.returns-clause-empty
returns-clause-empty g c =
    let old = c.args.self.now in
    let e = halfway_last c.loop-at.at old c.loop-at.self c.requires c.loop-at.invariant
    c.loop-at-test.false in
    let made = emptied_tied old (unused c.loop-at.self) c.requires e in (made.0.1, made.1)

use Rattle.std.proofs.Common.{◌+◌, refl, sym, subst, arith}
use Rattle.thread_driver.specs.Given.{IsCoreTurn}
use Rattle.thread_driver.specs.Teams.{InARow, row_end}
use Rattle.thread_driver.proofs.Passes.{RowSoFar, row_goes, row_stops, row_used}
use Rattle.thread_driver.proofs.pass.core_turns_in_row.Goals as goal

pub loop-turn-init : goal.loop-turn-init
loop-turn-init g c = (c.requires.seat, c.requires.ahead, refl, λ m told z row. row)

pub loop-turn-preserved : goal.loop-turn-preserved
loop-turn-preserved g c =
    let a = g.P.Program.acts in
    let turn = c.core_turn-told.ensures in
    let new = c.core_turn-told.new in (
      turn.seat,
      turn.plays.ahead,
      refl,
      subst (λ t. RowSoFar (IsCoreTurn a c.args.machine.now) (row_end c.args.limit c.args.had) c.args.had
          (c.args.seat.now, c.args.program.now) t (c.loop-turn.turn + 1) (new.seat, new.program))
          (sym c.told_by_both-all.ensures)
          (row_goes c.loop-turn.all c.loop-turn.invariant.3 (let most = c.row_end-most.ensures in omega arith)
          (record { seat = turn.seat; plays = turn.plays; turn = turn.turn }) (sym c.if-not-has_another_turn.ensures)),
    )

pub returns-then-not-has_another_turn : goal.returns-then-not-has_another_turn
returns-then-not-has_another_turn g c =
    let a = g.P.Program.acts in
    let turn = c.core_turn-told.ensures in
    let new = c.core_turn-told.new in
    subst (λ t. InARow (IsCoreTurn a c.args.machine.now) (row_end c.args.limit c.args.had) c.args.had
    (c.args.seat.now, c.args.program.now) (c.loop-turn.turn + 1) t (new.seat, new.program))
    (sym c.told_by_both-all.ensures)
    (row_stops c.loop-turn.all c.loop-turn.invariant.3 (let most = c.row_end-most.ensures in omega arith)
    (record { seat = turn.seat; plays = turn.plays; turn = turn.turn }) (sym c.if-not-has_another_turn.ensures))

pub returns : goal.returns
returns g c =
    let most = c.row_end-most.ensures in
    subst (λ k. InARow (IsCoreTurn g.P.Program.acts c.args.machine.now) (row_end c.args.limit c.args.had) c.args.had
    (c.args.seat.now, c.args.program.now) k c.loop-turn.all (c.loop-turn.seat, c.loop-turn.program))
    (sym c.loop-turn.invariant.2) (row_used c.loop-turn.invariant.3 (omega arith))

use Rattle.std.proofs.Common.{◌+◌, refl, sym, subst, arith}
use Rattle.thread_driver.specs.Given.{IsBankTurn}
use Rattle.thread_driver.specs.Teams.{InARow, row_end}
use Rattle.thread_driver.proofs.Passes.{RowSoFar, row_goes, row_stops, row_used}
use Rattle.thread_driver.proofs.pass.bank_turns_in_row.Goals as goal

pub loop-turn-init : goal.loop-turn-init
loop-turn-init g c = (c.requires, refl, λ m told z row. row)

pub returns-then-not-has_another_turn : goal.returns-then-not-has_another_turn
returns-then-not-has_another_turn g c =
    let turn = c.any_bank_turn-told.ensures in
    subst (λ t. InARow (IsBankTurn c.args.fair c.args.machine.now)
    (row_end c.args.limit c.args.had) c.args.had c.args.seat.now
    (c.loop-turn.turn + 1) t c.any_bank_turn-told.new.seat) (sym c.told_by_both-all.ensures)
    (row_stops c.loop-turn.all c.loop-turn.invariant.2 (let most = c.row_end-most.ensures in omega arith)
    (record { seat = turn.seat.0; number = turn.seat.1; turn = turn.turn }) (sym c.if-not-has_another_turn.ensures))

pub loop-turn-preserved : goal.loop-turn-preserved
loop-turn-preserved g c =
    let turn = c.any_bank_turn-told.ensures in (
      turn.seat.0,
      refl,
      subst (λ t. RowSoFar (IsBankTurn c.args.fair c.args.machine.now)
          (row_end c.args.limit c.args.had) c.args.had c.args.seat.now t
          (c.loop-turn.turn + 1) c.any_bank_turn-told.new.seat) (sym c.told_by_both-all.ensures)
          (row_goes c.loop-turn.all c.loop-turn.invariant.2 (let most = c.row_end-most.ensures in omega arith)
          (record { seat = turn.seat.0; number = turn.seat.1; turn = turn.turn })
          (sym c.if-not-has_another_turn.ensures)),
    )

pub returns : goal.returns
returns g c =
    let most = c.row_end-most.ensures in
    subst (λ k. InARow (IsBankTurn c.args.fair c.args.machine.now)
    (row_end c.args.limit c.args.had) c.args.had c.args.seat.now k
    c.loop-turn.all c.loop-turn.seat) (sym c.loop-turn.invariant.1) (row_used c.loop-turn.invariant.2 (omega arith))

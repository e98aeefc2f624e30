use Rattle.std.proofs.Common.{◌+◌, refl, sym, subst, ◌∙◌, arith, length-set, true≢false}
use Rattle.std.specs.Prelude.{slice_index_or, slice_set}
use Rattle.thread_driver.specs.Given.{IsBankTurn}
use Rattle.thread_driver.specs.Teams.{PassGiven, ends}
use Rattle.thread_driver.proofs.Lists.{read_there}
use Rattle.thread_driver.proofs.Worked.{bank_had_row, banks_passed, next_bank}
use Rattle.thread_driver.proofs.pass.bank_pass.Goals as goal

pub loop-i-init : goal.loop-i-init
loop-i-init g c = (ends, refl, refl)

pub bank_turns_in_row-has-requires : goal.bank_turns_in_row-has-requires
bank_turns_in_row-has-requires g c =
    next_bank c.args.fair c.args.machine.now c.args.banks.now.items c.loop-i.banks.items c.args.limit c.loop-i.i
    c.args.had.now
    c.loop-i.had c.loop-i.all c.requires.seats c.loop-i.invariant.0 (omega arith) c.index_mut.result.now
    c.index_mut.ensures.value

pub loop-i-preserved : goal.loop-i-preserved
loop-i-preserved g c =
    let i = c.loop-i.i in
    let q = c.bank_turns_in_row-has.new.seat in
    let has = c.bank_turns_in_row-has.result.1 in
    let lengths = c.loop-i.invariant in
    let counts = c.requires.counts in
    let before = read_there c.loop-i.had i 0 (let a = lengths.1 in let b = lengths.2 in omega arith) in
    let passed = bank_had_row c.args.fair c.args.machine.now c.args.banks.now.items c.loop-i.banks.items c.args.limit i
    c.args.had.now c.loop-i.had c.loop-i.all c.requires.seats lengths.0 (omega arith) c.index_mut.result.now
    c.index_mut.ensures.value (sym c.if-ends_all_turns.ensures)
    (slice_index_or c.loop-i.had i 0) has before c.bank_turns_in_row-has.result.0 q
    c.bank_turns_in_row-has.ensures in (
      subst (λ t. PassGiven (IsBankTurn c.args.fair c.args.machine.now) c.args.limit
          (i + 1) c.args.had.now c.args.banks.now.items
          t (slice_set c.loop-i.had i has) (slice_set c.loop-i.banks.items i q))
          (sym c.told_by_both-all.ensures) passed,
      length-set c.loop-i.banks.items i q ∙ lengths.1,
      length-set c.loop-i.had i has ∙ lengths.2,
    )

pub returns-after-loop-i-clause-turns : goal.returns-after-loop-i-clause-turns
returns-after-loop-i-clause-turns g c = (c.loop-i.i, λ goes. omega arith, c.loop-i.invariant.0)

pub returns-then-ends_all_turns-clause-turns : goal.returns-then-ends_all_turns-clause-turns
returns-then-ends_all_turns-clause-turns g c = (
  c.loop-i.i,
  λ goes. absurd (true≢false (c.if-ends_all_turns.ensures ∙ goes)),
  c.loop-i.invariant.0,
)

pub returns-after-loop-i-clause-seats : goal.returns-after-loop-i-clause-seats
returns-after-loop-i-clause-seats g c =
    banks_passed c.args.fair c.args.machine.now c.args.banks.now.items c.loop-i.banks.items c.requires.seats
    c.loop-i.invariant.0

pub returns-then-ends_all_turns-clause-seats : goal.returns-then-ends_all_turns-clause-seats
returns-then-ends_all_turns-clause-seats g c =
    banks_passed c.args.fair c.args.machine.now c.args.banks.now.items c.loop-i.banks.items c.requires.seats
    c.loop-i.invariant.0

use Rattle.std.proofs.Common.{◌+◌, refl, sym, subst, arith}
use Rattle.std.specs.Prelude.{slice_index_or, slice_set}
use Rattle.std.specs.List.{zip}
use Rattle.std.proofs.Common.{length-set, ◌∙◌, true≢false}
use Rattle.thread_driver.specs.Given.{IsCoreTurn}
use Rattle.thread_driver.specs.Teams.{PassGiven, ends}
use Rattle.thread_driver.proofs.Lists.{read_there}
use Rattle.thread_driver.proofs.Worked.{ahead_passed, core_had_row, cores_passed, next_ahead, next_core}
use Rattle.thread_driver.proofs.pass.core_pass.Goals as goal

pub loop-i-init : goal.loop-i-init
loop-i-init g c = (ends, refl, refl, refl)

pub core_turns_in_row-has-requires-clause-seat : goal.core_turns_in_row-has-requires-clause-seat
core_turns_in_row-has-requires-clause-seat g c =
    next_core g.P.Program.acts c.args.machine.now c.args.cores.now.items c.loop-i.cores.items c.args.programs.now.items
    c.loop-i.programs.items c.args.limit c.loop-i.i c.args.had.now c.loop-i.had c.loop-i.all c.requires.seats
    c.requires.ahead c.loop-i.invariant.0
    (omega arith) (let one_each = c.requires.ahead.long in let long = c.loop-i.invariant.2 in omega arith)
    c.index_mut.result.now c.index_mut-in-loop-i.result.now c.index_mut.ensures.value
    c.index_mut-in-loop-i.ensures.value

pub core_turns_in_row-has-requires-clause-ahead : goal.core_turns_in_row-has-requires-clause-ahead
core_turns_in_row-has-requires-clause-ahead g c =
    next_ahead g.P.Program.acts c.args.machine.now c.args.cores.now.items c.loop-i.cores.items
    c.args.programs.now.items c.loop-i.programs.items c.args.limit c.loop-i.i c.args.had.now c.loop-i.had
    c.loop-i.all c.requires.seats c.requires.ahead c.loop-i.invariant.0 (omega arith)
    (let one_each = c.requires.ahead.long in let long = c.loop-i.invariant.2 in omega arith)
    c.index_mut.result.now c.index_mut-in-loop-i.result.now c.index_mut.ensures.value
    c.index_mut-in-loop-i.ensures.value

pub loop-i-preserved : goal.loop-i-preserved
loop-i-preserved g c =
    let i = c.loop-i.i in
    let cores = c.loop-i.cores.items in
    let programs = c.loop-i.programs.items in
    let q = c.core_turns_in_row-has.new.seat in
    let b = c.core_turns_in_row-has.new.program in
    let has = c.core_turns_in_row-has.result.1 in
    let lengths = c.loop-i.invariant in
    let counts = c.requires.counts in
    let before = read_there c.loop-i.had i 0 (let long = lengths.1 in let counted = lengths.3 in omega arith) in
    let passed = core_had_row g.P.Program.acts c.args.machine.now c.args.cores.now.items cores
    c.args.programs.now.items programs c.args.limit i c.args.had.now c.loop-i.had c.loop-i.all c.requires.seats
    c.requires.ahead lengths.0
    (omega arith) (let one_each = c.requires.ahead.long in let long = lengths.2 in omega arith)
    c.index_mut.result.now c.index_mut-in-loop-i.result.now c.index_mut.ensures.value
    c.index_mut-in-loop-i.ensures.value (sym c.if-ends_all_turns.ensures) (slice_index_or c.loop-i.had i 0) has before
    c.core_turns_in_row-has.result.0 q b c.core_turns_in_row-has.ensures in (
      subst (λ t. PassGiven (IsCoreTurn g.P.Program.acts c.args.machine.now) c.args.limit (i + 1) c.args.had.now
          (zip c.args.cores.now.items c.args.programs.now.items) t (slice_set c.loop-i.had i has)
          (zip (slice_set cores i q) (slice_set programs i b))) (sym c.told_by_both-all.ensures) passed,
      length-set cores i q ∙ lengths.1,
      length-set programs i b ∙ lengths.2,
      length-set c.loop-i.had i has ∙ lengths.3,
    )

pub returns-after-loop-i-clause-turns : goal.returns-after-loop-i-clause-turns
returns-after-loop-i-clause-turns g c =
    (c.loop-i.i, λ goes. (let long = c.loop-i.invariant.1 in omega arith), c.loop-i.invariant.0)

pub returns-then-ends_all_turns-clause-turns : goal.returns-then-ends_all_turns-clause-turns
returns-then-ends_all_turns-clause-turns g c = (
  c.loop-i.i,
  λ goes. absurd (true≢false (c.if-ends_all_turns.ensures ∙ goes)),
  c.loop-i.invariant.0,
)

pub returns-after-loop-i-clause-seats : goal.returns-after-loop-i-clause-seats
returns-after-loop-i-clause-seats g c =
    let i = c.loop-i.invariant in
    cores_passed g.P.Program.acts c.args.machine.now c.args.cores.now.items c.loop-i.cores.items
    c.args.programs.now.items c.loop-i.programs.items c.requires.seats c.requires.ahead i.0 i.1 i.2

pub returns-after-loop-i-clause-ahead : goal.returns-after-loop-i-clause-ahead
returns-after-loop-i-clause-ahead g c =
    let i = c.loop-i.invariant in
    ahead_passed g.P.Program.acts c.args.machine.now c.args.cores.now.items c.loop-i.cores.items
    c.args.programs.now.items c.loop-i.programs.items c.requires.seats c.requires.ahead i.0 i.1 i.2

pub returns-then-ends_all_turns-clause-seats : goal.returns-then-ends_all_turns-clause-seats
returns-then-ends_all_turns-clause-seats g c =
    let i = c.loop-i.invariant in
    cores_passed g.P.Program.acts c.args.machine.now c.args.cores.now.items c.loop-i.cores.items
    c.args.programs.now.items c.loop-i.programs.items c.requires.seats c.requires.ahead i.0 i.1 i.2

pub returns-then-ends_all_turns-clause-ahead : goal.returns-then-ends_all_turns-clause-ahead
returns-then-ends_all_turns-clause-ahead g c =
    let i = c.loop-i.invariant in
    ahead_passed g.P.Program.acts c.args.machine.now c.args.cores.now.items c.loop-i.cores.items
    c.args.programs.now.items c.loop-i.programs.items c.requires.seats c.requires.ahead i.0 i.1 i.2

use Rattle.std.proofs.Common.{arith, sym}
use Rattle.schedules.specs.Runs.{initial_position, plan_of}
use Rattle.schedules.specs.Notes.{at}
use Rattle.schedules.proofs.RunTurns.{at_first, all_done, turns_used, turn_begun, did_end, turn_over, stalled}
use Rattle.schedules.proofs.run.run_turns.Goals as goal

pub loop-made-init : goal.loop-made-init
loop-made-init g c =
    let a = c.args in record {
      here = rw c.set_unfinished_cores.ensures
          (at_first g.W.Watcher.watches (plan_of g.P.Program.acts g.S.Schedule.rule a.limit) a.system.now
          a.programs.now _ a.schedule.now);
      asked = rw c.set_unfinished_cores.ensures c.unfinished_cores.ensures;
    }

pub turn-requires : goal.turn-requires
turn-requires g c = rw c.begin_turn.ensures c.loop-made.invariant.asked

pub returns-then-are_cores_over : goal.returns-then-are_cores_over
returns-then-are_cores_over g c =
    let a = c.args in
    let l = c.loop-made in
    all_done g.W.Watcher.watches (plan_of g.P.Program.acts g.S.Schedule.rule a.limit)
    (initial_position g.P.Program.acts a.system.now a.programs.now a.schedule.now) a.log.now.watcher l._made
    (at l.system l.programs l.log) l.schedule l.invariant.here
    (sym c.if-are_cores_over.ensures) (omega (arith, c.loop-made-test.true))

pub returns-in-Err : goal.returns-in-Err
returns-in-Err g c =
    let a = c.args in
    let l = c.loop-made in
    let n = c.turn.new in
    let plan = plan_of g.P.Program.acts g.S.Schedule.rule a.limit in
    let start = initial_position g.P.Program.acts a.system.now a.programs.now a.schedule.now in
    let watches = g.W.Watcher.watches in
    let first = a.log.now.watcher in
    let now = turn_begun watches plan start first l._made l.system l.programs l.log c.begin_turn.new.self l.schedule
    l.invariant.here (sym c.if-are_cores_over.ensures) c.begin_turn.ensures in
    did_end watches plan start first l._made (at l.system l.programs c.begin_turn.new.self) l.schedule now n.self
    c.in-Err.ensures.next c.loop-made-test.true c.in-Err.end (at n.system n.programs n.log) c.in-Err.ensures.did

pub returns-then-is_last_turn : goal.returns-then-is_last_turn
returns-then-is_last_turn g c =
    let a = c.args in
    let l = c.loop-made in
    let n = c.turn.new in
    let plan = plan_of g.P.Program.acts g.S.Schedule.rule a.limit in
    let start = initial_position g.P.Program.acts a.system.now a.programs.now a.schedule.now in
    let watches = g.W.Watcher.watches in
    let first = a.log.now.watcher in
    let now = turn_begun watches plan start first l._made l.system l.programs l.log c.begin_turn.new.self l.schedule
    l.invariant.here (sym c.if-are_cores_over.ensures) c.begin_turn.ensures in
    stalled watches plan start first l._made (at l.system l.programs c.begin_turn.new.self) l.schedule now n.self
    c.in_default.ensures.next (at n.system n.programs n.log) c.in_default.ensures.did (sym c.if-is_last_turn.ensures)
    c.loop-made-test.true

pub loop-made-preserved : goal.loop-made-preserved
loop-made-preserved g c =
    let a = c.args in
    let l = c.loop-made in
    let n = c.turn.new in
    let plan = plan_of g.P.Program.acts g.S.Schedule.rule a.limit in
    let start = initial_position g.P.Program.acts a.system.now a.programs.now a.schedule.now in
    let watches = g.W.Watcher.watches in
    let first = a.log.now.watcher in
    let now = turn_begun watches plan start first l._made l.system l.programs l.log c.begin_turn.new.self l.schedule
    l.invariant.here (sym c.if-are_cores_over.ensures) c.begin_turn.ensures in record {
      here = turn_over watches plan start first l._made (at l.system l.programs c.begin_turn.new.self) l.schedule now
          n.self c.in_default.ensures.next (at n.system n.programs n.log) c.in_default.ensures.did
          (sym c.if-is_last_turn.ensures);
      asked = c.in_default.ensures.did.asked (rw c.begin_turn.ensures l.invariant.asked);
    }

pub returns-then-are_cores_over-2 : goal.returns-then-are_cores_over-2
returns-then-are_cores_over-2 g c =
    let a = c.args in
    let l = c.loop-made in
    all_done g.W.Watcher.watches (plan_of g.P.Program.acts g.S.Schedule.rule a.limit)
    (initial_position g.P.Program.acts a.system.now a.programs.now a.schedule.now) a.log.now.watcher l._made
    (at l.system l.programs l.log) l.schedule l.invariant.here
    (sym c.if-are_cores_over-2.ensures) (omega (arith, l.auto._made-end))

pub returns-else-are_cores_over-2 : goal.returns-else-are_cores_over-2
returns-else-are_cores_over-2 g c =
    let a = c.args in
    let l = c.loop-made in
    turns_used g.W.Watcher.watches (plan_of g.P.Program.acts g.S.Schedule.rule a.limit)
    (initial_position g.P.Program.acts a.system.now a.programs.now a.schedule.now) a.log.now.watcher l._made
    (at l.system l.programs l.log) l.schedule l.invariant.here
    (sym c.if-are_cores_over-2.ensures)
    (omega (arith, c.loop-made-test.false, l.auto._made-end))

use Rattle.std.proofs.Common.{◌+◌, ◌-◌, ◌≤◌, length, take, vec_capacity}
use Rattle.machine_table.specs.SetUp.{SetUpAs}
use Rattle.interleaving_core.specs.StepAnswers.{Ran}
use Rattle.interleaving_core.proofs.system.System.run.Given as goal

-- the events so far, with their answers, and places for those to come
abbrev pub invariant-loop-event : goal.invariant-loop-event
invariant-loop-event g l = record {
  ran : Ran l.fn.self (take l.event-index l.fn.events) l.answers.items l.self;
  set_up : SetUpAs l.fn.self l.self;
  many : length l.answers.items + (length l.fn.events - l.event-index) ≤ vec_capacity l.answers;
}

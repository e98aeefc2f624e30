use Rattle.schedules.proofs.LongerRuns.{lists_used}
use Rattle.schedules.proofs.PieceTurns.{in_turns, gone_both}
use Rattle.schedules.proofs.laws.pieces_go_by_turns.Goals as goal

pub returns-clause-turns : goal.returns-clause-turns
returns-clause-turns g c = in_turns g.P.Program.acts

pub returns-clause-sum : goal.returns-clause-sum
returns-clause-sum g c = gone_both

pub returns-clause-used : goal.returns-clause-used
returns-clause-used g c = lists_used

use Rattle.schedules.proofs.NoTurns.{all_behind, no_turns, opens_idle}
use Rattle.schedules.proofs.laws.nothing_is_done_at_first.Goals as goal

pub returns-clause-idle : goal.returns-clause-idle
returns-clause-idle g = opens_idle

pub returns-clause-begins : goal.returns-clause-begins
returns-clause-begins g = no_turns

pub returns-clause-whole : goal.returns-clause-whole
returns-clause-whole g = all_behind

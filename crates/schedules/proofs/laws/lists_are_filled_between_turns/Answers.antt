use Rattle.schedules.proofs.FilledLists.{filled_goes_on, joined_both}
use Rattle.schedules.proofs.laws.lists_are_filled_between_turns.Goals as goal

pub returns-clause-filled : goal.returns-clause-filled
returns-clause-filled g = joined_both

pub returns-clause-goes_on : goal.returns-clause-goes_on
returns-clause-goes_on g = filled_goes_on

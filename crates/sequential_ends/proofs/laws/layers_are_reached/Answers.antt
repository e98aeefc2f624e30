use Rattle.sequential_ends.proofs.LayerPoints.{contains, reached, each_once}
use Rattle.sequential_ends.proofs.laws.layers_are_reached.Goals as goal

pub returns-clause-reached : goal.returns-clause-reached
returns-clause-reached c = reached

pub returns-clause-all : goal.returns-clause-all
returns-clause-all c = contains

pub returns-clause-once : goal.returns-clause-once
returns-clause-once c = each_once

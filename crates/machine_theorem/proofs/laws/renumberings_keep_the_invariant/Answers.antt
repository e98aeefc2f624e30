use Rattle.machine_theorem.proofs.laws.renumberings_keep_the_invariant.Goals as goal
use Rattle.machine_theorem.proofs.Renumberings.{renumbered}

pub returns : goal.returns
returns c = λ m capacity mail is_stopped invariant same. renumbered m invariant capacity mail is_stopped same

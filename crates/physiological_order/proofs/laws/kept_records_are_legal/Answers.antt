use Rattle.physiological_order.proofs.Kept.{Kept-none, Kept-push, Kept-issue, Legal-from_Kept}
use Rattle.physiological_order.proofs.laws.kept_records_are_legal.Goals as goal

pub returns-clause-none : goal.returns-clause-none
returns-clause-none c = Kept-none

pub returns-clause-completed : goal.returns-clause-completed
returns-clause-completed c = Kept-push

pub returns-clause-issued : goal.returns-clause-issued
returns-clause-issued c = Kept-issue

pub returns-clause-legal : goal.returns-clause-legal
returns-clause-legal c = Legal-from_Kept

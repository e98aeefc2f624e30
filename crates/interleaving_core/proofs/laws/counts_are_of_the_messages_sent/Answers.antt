use Rattle.interleaving_core.proofs.Runs.{run_sends}
use Rattle.interleaving_core.proofs.laws.counts_are_of_the_messages_sent.Goals as goal

pub returns-clause-numbers : goal.returns-clause-numbers
returns-clause-numbers c = λ m after events answers ran. (run_sends events answers m after ran).next

pub returns-clause-counts : goal.returns-clause-counts
returns-clause-counts c = λ m after events answers ran. (run_sends events answers m after ran).counts

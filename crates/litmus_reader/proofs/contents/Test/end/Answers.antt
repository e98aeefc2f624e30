use Rattle.litmus_reader.proofs.SeenNames.{truth-is}
use Rattle.litmus_reader.specs.Truth.{end_value}
use Rattle.litmus_reader.specs.TestViews.{test_of}
use Rattle.litmus_reader.proofs.contents.Test.end.Goals as goal

pub returns-clause-truth : goal.returns-clause-truth
returns-clause-truth c = rw c.in_ok-values.ensures (truth-is (end_value c.args.threads.now c.args.memory.now)
    (test_of c.args.self.now).seen (test_of c.args.self.now).tree c.args.self.now.all_seen)

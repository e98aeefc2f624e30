use Rattle.litmus_reader.proofs.Found.{one-test}
use Rattle.litmus_reader.proofs.laws.one_text_is_one_test.Goals as goal

pub returns : goal.returns
returns c = one-test

use Rattle.stop_flags.proofs.Tells.{opens}
use Rattle.stop_flags.proofs.opening.open_flag_table.Goals as goal

pub of_words-requires : goal.of_words-requires
of_words-requires c = opens c.args.workers c.requires.0 c.requires.1

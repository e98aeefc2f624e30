use Rattle.drawn_numbers.proofs.Draws.{opens}
use Rattle.drawn_numbers.proofs.opening.open_counter_table.Goals as goal

pub of_words-requires : goal.of_words-requires
of_words-requires c = opens c.args.drawers c.requires.0 c.requires.1

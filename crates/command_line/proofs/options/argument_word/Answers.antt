use Rattle.std.proofs.Common.{refl}
use Rattle.clap.specs.Words.{found_of}
use Rattle.command_line.proofs.Numbers.{word_is}
use Rattle.command_line.proofs.options.argument_word.Goals as goal

pub returns : goal.returns
returns c = word_is (found_of c.args.matches.now) c.args.name.now _ _ _ c.get_str.ensures c.unwrap_or.ensures refl

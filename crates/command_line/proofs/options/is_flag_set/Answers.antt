use Rattle.std.proofs.Common.{subst, sym, Bool}
use Rattle.clap.specs.Words.{found_of, rows_of}
use Rattle.command_line.specs.Options.{IsFlag}
use Rattle.command_line.proofs.Numbers.{flag_is}
use Rattle.command_line.proofs.options.is_flag_set.Goals as goal

pub returns : goal.returns
returns c =
    let given = found_of c.args.matches.now in
    subst (λ (b : Bool). IsFlag (rows_of given) c.args.name.now b) (sym c.unwrap_or.ensures)
    (flag_is _ given c.args.name.now c.get_one.result c.get_one.ensures.none c.get_one.ensures.value)

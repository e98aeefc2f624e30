use Rattle.std.proofs.Common.{inl}
use Rattle.clap.specs.Words.{kind_of}
use Rattle.command_line.proofs.words.error_of_clap_refusal.Goals as goal

pub returns-in-Ok : goal.returns-in-Ok
returns-in-Ok c = λ words faulty. inl (kind_of c.args.error.now, faulty)

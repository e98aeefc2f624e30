use Rattle.schedules.specs.RoundSchedule.{no_round}
use Rattle.schedules.proofs.RunLaws.{whole_rounds, part_of_rounds}
use Rattle.schedules.proofs.Served.{rounds_between}
use Rattle.schedules.proofs.laws.rounds_make_their_events.Goals as goal

pub returns-clause-whole : goal.returns-clause-whole
returns-clause-whole g c = λ fair keeps start m opening programs limit events end.
    whole_rounds g.P.Program.acts limit (no_round fair start.config.cores) start opening keeps events m programs end

pub returns-clause-part : goal.returns-clause-part
returns-clause-part g c = λ fair keeps start m opening programs limit events end.
    part_of_rounds g.P.Program.acts limit (no_round fair start.config.cores) start opening keeps events m programs end

pub returns-clause-between : goal.returns-clause-between
returns-clause-between g c = λ fair keeps start m opening programs limit events end.
    rounds_between g.P.Program.acts limit (no_round fair start.config.cores) start m opening programs events end

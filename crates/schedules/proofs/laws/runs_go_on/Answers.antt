use Rattle.schedules.proofs.RunsGoingOn.{goes_on_at_first, run_in_parts, runs_further, runs_on}
use Rattle.schedules.proofs.laws.runs_go_on.Goals as goal

pub returns-clause-begins : goal.returns-clause-begins
returns-clause-begins g c = goes_on_at_first g.P.Program.acts

pub returns-clause-joins : goal.returns-clause-joins
returns-clause-joins g c = λ keeps policy made turns limit m between after programs met left events more end.
    runs_on g.P.Program.acts keeps turns limit m between after programs met left events end more policy made

pub returns-clause-parts : goal.returns-clause-parts
returns-clause-parts g c = λ keeps policy made turns limit m between after programs met left events all end.
    run_in_parts g.P.Program.acts keeps turns limit m between after programs met left events end all policy made

pub returns-clause-further : goal.returns-clause-further
returns-clause-further g c = runs_further g.P.Program.acts

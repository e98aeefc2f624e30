use Rattle.tardis.specs.Answers.{devices}
use Rattle.report.specs.Litmus.{HasNoReport, IsLitmusReport}
use Rattle.tardis.proofs.Came.{came_of}
use Rattle.tardis.proofs.jobs.run_litmus_file.Goals as goal

pub returns : goal.returns
returns g c = (
  c.run_litmus.new.source,
  (
    c.run_litmus.ensures.counted,
    came_of {F = g.row.S.Denot} {K = g.row.K.Denot}
        (devices g.S.Source.remaining g.S.Source.failures g.K.Sink.contents g.K.Sink.failures)
        (IsLitmusReport c.args.options.now) (HasNoReport c.args.options.now) _ _ _ c.run_litmus.result
        c.run_litmus.ensures.reported c.run_litmus.ensures.refused c.run_litmus.ensures.cut_off
        c.run_litmus.ensures.nothing,
  ),
)

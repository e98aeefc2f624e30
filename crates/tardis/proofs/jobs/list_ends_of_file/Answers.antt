use Rattle.tardis.specs.Answers.{devices}
use Rattle.report.specs.Ends.{HasNoEnds, IsEndsReport}
use Rattle.tardis.proofs.Came.{came_of}
use Rattle.tardis.proofs.jobs.list_ends_of_file.Goals as goal

pub returns : goal.returns
returns g c = (
  c.run_ends.new.source,
  (
    c.run_ends.ensures.counted,
    came_of {F = g.row.S.Denot} {K = g.row.K.Denot}
        (devices g.S.Source.remaining g.S.Source.failures g.K.Sink.contents g.K.Sink.failures)
        (IsEndsReport c.args.options.now) (HasNoEnds c.args.options.now) _ _ _ c.run_ends.result
        c.run_ends.ensures.reported c.run_ends.ensures.refused c.run_ends.ensures.cut_off c.run_ends.ensures.nothing,
  ),
)

use Rattle.tardis.specs.Answers.{devices}
use Rattle.tardis.proofs.Came.{streamed}
use Rattle.tardis.proofs.jobs.stream_trace_file.Goals as goal

pub returns : goal.returns
returns g c =
    let told = c.run_stream.ensures in (
      c.run_stream.new.source,
      (
        told.counted,
        (
          streamed {F = g.row.S.Denot} {K = g.row.K.Denot}
              (devices g.S.Source.remaining g.S.Source.failures g.K.Sink.contents g.K.Sink.failures)
              c.args.options.now _ _ _ c.run_stream.result told.reported told.refused told.begun told.cut_off
              (λ bad. (told.untouched bad).1),
          (told.telling, told.told, told.quiet, told.untold),
        ),
      ),
    )

use Rattle.std.proofs.lemmas.Result.{IfOk-weaker}
use Rattle.report.proofs.ToldProgress.{nothing_told}
use Rattle.report.proofs.streams.run_stream.Goals as goal

pub returns-in_default-clause-telling : goal.returns-in_default-clause-telling
returns-in_default-clause-telling g c =
    nothing_told c.args.options.now (g.S.Source.remaining c.args.source.now) (g.E.Sink.contents c.args.errors.now)
    (g.E.Sink.failures c.args.errors.now)

pub returns-clause-reported : goal.returns-clause-reported
returns-clause-reported g c =
    IfOk-weaker c.stream_on_machine.result _ _ (λ done told. (told.0, told.1.0, told.2))
    c.stream_on_machine.ensures.told

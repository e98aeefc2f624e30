use Rattle.std.proofs.Common.{[], ◌∙◌, true≢false, ap, sym}
use Rattle.worker_driver.specs.declared.set_up.Driver.TheVariants.{ByPolicy}
use Rattle.report.proofs.StreamedPieces.{text_comes}
use Rattle.report.proofs.ToldProgress.{nothing_told}
use Rattle.report.proofs.streams.stream_on_machine.Goals as goal

pub stream_in_pieces-requires-clause-running : goal.stream_in_pieces-requires-clause-running
stream_in_pieces-requires-clause-running g c =
    let run = c.in-Ok.run' in
    let given = c.in-Ok.ensures.given in record {
      taken = [];
      yields = text_comes run.ahead.stream (g.S.Source.remaining c.args.source.now) c.in-Ok.ensures.told;
      going = c.in-Ok.ensures.going;
      all_read = λ ended. absurd (true≢false (sym ended ∙ c.in-Ok.ensures.none.2));
      config = given.0 ∙ c.requires.config;
      driver = c.requires.policy ∙ ap ByPolicy (sym given.1);
      limit = given.2 ∙ c.limit_of-limit.ensures.limit;
      names = given.3 ∙ c.are_words_asked-names.ensures;
    }

pub returns-in_default-clause-telling : goal.returns-in_default-clause-telling
returns-in_default-clause-telling g c =
    nothing_told c.args.options.now (g.S.Source.remaining c.args.source.now) (g.E.Sink.contents c.args.errors.now)
    (g.E.Sink.failures c.args.errors.now)

use Rattle.std.proofs.Common.{ℕ, length, refl, ap, ◌∙◌}
use Rattle.std.specs.List.{refill}
use Rattle.trace_reader.specs.Filling.{AheadState}
use Rattle.trace_reader.specs.contracts.read_ahead.ReadAhead.{the_view}
use Rattle.trace_reader.proofs.read_ahead.ReadAhead.queues.Goals as goal

pub returns : goal.returns
returns c =
    let shown = the_view c.self.inside in (
      (
        refl,
        λ w. ap (λ (n : ℕ). record shown { queues = refill n shown.queues w }) c.self.inside.queues.ok.0
            ∙ ap (λ (s : AheadState). record s { queues = refill (length s.queues) s.queues w }) c.self.view_is,
      ),
      record {
        takes_back = tt;
        value = c.deref_mut.ensures.value ∙ ap (λ (s : AheadState). s.queues) c.self.view_is;
      },
    )

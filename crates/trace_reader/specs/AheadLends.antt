-- What a reader ahead ends as, once a `&mut` to its queues has ended.
use Rattle.std.specs.Borrow.{Array, Fml, MutBor, Lends}
use Rattle.std.specs.Prelude.{List, length}
use Rattle.std.specs.List.{refill}
use Rattle.programs.specs.declared.steps.Step.{Step}
use Rattle.trace_reader.specs.Filling.{AheadState}
use Rattle.trace_reader.specs.contracts.queues.StepQueue as queue
use Rattle.trace_reader.specs.contracts.read_ahead.ReadAhead.{the_row}

-- it has the queues that were left there, as many as before, and all else stays
abbrev pub lends_queues : MutBor AheadState → MutBor (List (List Step)) → Fml
lends_queues s r =
    Lends the_row (Array queue.the_row 0) s r (λ w. record (s.now) {
      queues = refill (length s.now.queues) s.now.queues
          w;
    })

use Rattle.std.proofs.Common.{◌≡◌, ℕ, [], ◌∷◌, Option, Some, ◌∙◌, ap, sym, subst}
use Rattle.programs.specs.declared.steps.Step.{Step}
use Rattle.trace_reader.specs.declared.step_streams.StepStream.{StepStream}
use Rattle.trace_reader.specs.Filling.{AheadState, HasTaken}
use Rattle.trace_reader.specs.Reading.{numbered}
use Rattle.trace_reader.specs.Streams.{coming, lines_taken, Yields}
use Rattle.trace_reader.proofs.QueuedSteps.{taken-as}
use Rattle.trace_reader.proofs.read_ahead.ReadAhead.take_held_step.Goals as goal

pub returns-in-Ok-clause-one : goal.returns-in-Ok-clause-one
returns-in-Ok-clause-one c = λ bytes.
    let s = c.in-Some in
    let gone = c.release_step-taken in
    let line = lines_taken gone.new.self in
    let one : ℕ × (ℕ × Step) = (line, (s.core, s.step)) in
    let same = ap (λ (m : AheadState). m.stream) c.self-2.view_is ∙ c.queue_step.ensures.stream in
    let is : gone.result ≡ Some (s.core, s.step) = gone.ensures.held.0 ∙ ap (λ (t : StepStream). t.held) same
    ∙ sym (ap (λ (m : AheadState). m.stream.held) c.self.view_is) ∙ sym c.held_step.ensures.held ∙ s.is in (
      one,
      subst (λ (told : Option (ℕ × Step)). Yields (coming c.args.self.now.stream bytes) (coming gone.new.self bytes)
          (numbered line told)) is
          (subst (λ (t : StepStream). Yields (coming t bytes) (coming gone.new.self bytes) (numbered line gone.result))
          same (gone.ensures.told bytes)),
      subst (λ (m : AheadState). HasTaken c.args.keeps c.args.self.now (record m { stream = gone.new.self }) (one ∷ []))
          (sym c.self-2.view_is)
          (taken-as c.args.keeps c.args.self.now c.queue_step.new.self gone.new.self (one ∷ [])
          (c.in-Ok.ensures.met line)),
    )

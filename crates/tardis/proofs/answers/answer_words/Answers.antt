use Rattle.std.proofs.Common.{inl, inr, map, refl}
use Rattle.tardis.proofs.Streams.{can_be_done}
use Rattle.tardis.proofs.answers.answer_words.Goals as goal

pub run_job-came-requires : goal.run_job-came-requires
run_job-came-requires g c = (
  c.type_bounds.sync-R,
  can_be_done (map (λ w. w.now) c.args.words.now) c.streams_follow_policies.ensures c.in-Ok.job c.in-Ok.ensures.job,
)

pub returns-in-Ok : goal.returns-in-Ok
returns-in-Ok g c = inr (
  c.in-Ok.job,
  c.run_job-came.result,
  c.run_job-came.new.errors,
  c.in-Ok.ensures.job,
  c.exit_status.ensures,
  c.run_job-came.ensures,
  c.write_run_error.ensures,
)

pub returns-in-Err : goal.returns-in-Err
returns-in-Err g c = inl (
  c.in-Err.error,
  c.in-Err.ensures.refused,
  c.words_status.ensures,
  refl,
  rw (← c.words_text.ensures) c.write_error.ensures,
)

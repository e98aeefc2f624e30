use Rattle.std.proofs.Common.{◌≡◌, ◌∙◌, sym, map, true, false, true≢false}
use Rattle.clap.specs.Words.{found_of, rows_of}
use Rattle.clap.specs.declared.error.kind.ErrorKind.TheVariants.{OutOfMemory}
use Rattle.command_line.proofs.Found.{are_taken, found_is, has_fault, no_fault}
use Rattle.command_line.proofs.HelpIsRefused.{one_is_named}
use Rattle.command_line.proofs.words.read_words.Goals as goal

pub returns-in-Err-2-clause-refused : goal.returns-in-Err-2-clause-refused
returns-in-Err-2-clause-refused c =
    let e = c.in-Ok.ensures.app in
    c.error_of_clap_refusal.ensures (map (λ w. w.now) c.args.words.now) (
      e.0,
      e.1,
      has_fault _ e.0 _ c.in-Err.error e.2 c.in-Err.ensures.kinds (λ h.
          let same : c.kind.result ≡ OutOfMemory = c.kind.ensures ∙ h in
          let bad : false ≡ true = rw same at c.if-eq.ensures in
          absurd (true≢false (sym bad))),
    )

pub job_of_command-requires : goal.job_of_command-requires
job_of_command-requires c =
    let e = c.in-Ok.ensures.app in
    one_is_named e.0 (map (λ w. w.now) c.args.words.now) _ _
    (no_fault _ e.0 _ e.2 c.in-Ok-try_get_matches_from.ensures.kinds)
    (found_is _ e.0 _ _ _ _ e.2 c.in-Ok-try_get_matches_from.ensures.matches c.in-Some.ensures.name
    c.in-Some.ensures.rows)

pub returns-in-Ok-job_of_command-clause-job : goal.returns-in-Ok-job_of_command-clause-job
returns-in-Ok-job_of_command-clause-job c =
    let e = c.in-Ok.ensures.app in (
      (c.in-Some.name.now, rows_of (found_of c.in-Some.inner.now)),
      are_taken _ e.0 (map (λ w. w.now) c.args.words.now) _ _ _ e.1 e.2 c.in-Ok-try_get_matches_from.ensures.kinds
          c.in-Ok-try_get_matches_from.ensures.matches c.in-Some.ensures.name c.in-Some.ensures.rows,
      c.in-Ok-job_of_command.ensures.job,
    )

pub returns-clause-refused : goal.returns-clause-refused
returns-clause-refused c =
    let e = c.in-Ok.ensures.app in
    c.error_of_conflict.ensures (map (λ w. w.now) c.args.words.now)
    (c.in-Some.name.now, rows_of (found_of c.in-Some.inner.now))
    (are_taken _ e.0 (map (λ w. w.now) c.args.words.now) _ _ _ e.1 e.2 c.in-Ok-try_get_matches_from.ensures.kinds
    c.in-Ok-try_get_matches_from.ensures.matches c.in-Some.ensures.name c.in-Some.ensures.rows)
    c.in-Err-job_of_command.ensures.conflict

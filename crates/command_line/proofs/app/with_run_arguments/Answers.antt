use Rattle.command_line.proofs.app.with_run_arguments.Goals as goal

pub returns : goal.returns
returns c =
    let ordered = c.with_run_options-ordered.ensures in (
      ordered.0,
      ordered.1,
      λ app had.
          c.with_argument.ensures _ c.file_argument.ensures _
          (c.with_machine_options-built.ensures _ (ordered.2 app had)),
    )

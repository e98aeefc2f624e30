use Rattle.command_line.proofs.app.trace_command.Goals as goal

pub returns : goal.returns
returns c =
    let run = c.with_run_arguments.ensures in
    let counted = c.with_count_options-counted.ensures _ c.command_without_arguments-named.ensures in
    (run.0, run.1, run.2 _ (c.with_stream_options-streamed.ensures _ counted))

use Rattle.command_line.proofs.app.check_command.Goals as goal

pub returns : goal.returns
returns c =
    let whole = c.with_argument-whole.ensures _ c.flag_argument.ensures _ c.command_without_arguments-named.ensures in
    c.with_argument.ensures _ c.file_argument-2.ensures _ (c.with_argument-traced.ensures _ c.file_argument.ensures _
    (c.with_argument-written.ensures _ c.flag_argument-2.ensures _
    (c.with_argument-opened.ensures _ c.path_option.ensures _ whole)))

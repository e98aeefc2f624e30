use Rattle.std.proofs.Common.{◌∙◌, ap, true}
use Rattle.clap.specs.Simple.{App, app_of_fields}
use Rattle.clap.specs.declared.builder.command.Command.{Command}
use Rattle.clap.specs.declared.builder.command.Command.TheOpen.{Command-F}
use Rattle.command_line.proofs.app.program_without_commands.Goals as goal

pub returns : goal.returns
returns c =
    let required = λ (a : App). record a { top = record (a.top) { subcommand_required = true } } in
    let numbered = λ (a : App). record a { top = record (a.top) { has_version = true } } in
    let globals = λ (f : Command-F Command). f.has_globals in (
      ap app_of_fields c.subcommand_required.ensures ∙ ap required (ap app_of_fields c.version-numbered.ensures
          ∙ ap numbered (ap app_of_fields c.about-named.ensures ∙ c.new.ensures.app)),
      ap globals c.subcommand_required.ensures ∙ ap globals c.version-numbered.ensures
          ∙ ap globals c.about-named.ensures ∙ c.new.ensures.local,
    )

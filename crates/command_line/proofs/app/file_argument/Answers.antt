use Rattle.std.proofs.Common.{◌∙◌, Bool, true, ap}
use Rattle.clap.specs.Words.{Rule, rule_of}
use Rattle.clap.specs.declared.builder.arg.Arg.{Arg}
use Rattle.command_line.proofs.app.file_argument.Goals as goal

pub returns : goal.returns
returns c =
    let local : Arg → Bool = λ a. a.global in (
      ap rule_of c.help.ensures ∙ ap rule_of c.required.ensures
          ∙ ap (λ (r : Rule). record r { required = true }) c.new.ensures.rule,
      ap local c.help.ensures
          ∙ ap local c.required.ensures ∙ c.new.ensures.optional.1,
    )

use Rattle.std.proofs.Common.{◌∙◌, Bool, Some, ap}
use Rattle.clap.specs.Words.{Rule, rule_of}
use Rattle.clap.specs.declared.builder.action.ArgAction.TheVariants.{Set}
use Rattle.clap.specs.declared.builder.arg.Arg.{Arg}
use Rattle.command_line.proofs.app.path_option.Goals as goal

pub returns : goal.returns
returns c =
    let long = ap rule_of c.long.ensures
    ∙ ap (λ (r : Rule). record r { long = Some c.args.name.now }) c.new.ensures.rule in
    let action = ap rule_of c.action.ensures ∙ ap (λ (r : Rule). record r { action = Some Set }) long in
    let named = ap rule_of c.value_name.ensures ∙ ap (λ (r : Rule). record r { value_names = 1 }) action in
    let local : Arg → Bool = λ a. a.global in (
      ap rule_of c.help.ensures ∙ named,
      ap local c.help.ensures ∙ ap local c.value_name.ensures ∙ ap local c.action.ensures ∙ ap local c.long.ensures
          ∙ c.new.ensures.optional.1,
    )

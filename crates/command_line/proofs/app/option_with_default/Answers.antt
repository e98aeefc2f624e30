use Rattle.std.proofs.Common.{◌∙◌, Bool, [], ◌∷◌, ap}
use Rattle.clap.specs.Words.{Rule, rule_of}
use Rattle.clap.specs.declared.builder.arg.Arg.{Arg}
use Rattle.command_line.proofs.app.option_with_default.Goals as goal

pub returns : goal.returns
returns c =
    let local : Arg → Bool = λ a. a.global in (
      ap rule_of c.default_value.ensures
          ∙ ap (λ (r : Rule). record r { defaults = c.args.default.now ∷ [] }) c.option_without_default.ensures.0,
      ap local c.default_value.ensures ∙ c.option_without_default.ensures.1,
    )

use Rattle.std.proofs.Common.{◌≡◌, ◌∙◌, Bool, Option, Some, ap, ap₂}
use Rattle.clap.specs.Words.{Rule, rule_of}
use Rattle.clap.specs.declared.builder.action.ArgAction.TheVariants.{Set}
use Rattle.clap.specs.declared.builder.arg.Arg.{Arg}
use Rattle.clap.specs.declared.builder.value_parser.ValueParser.{ValueParser}
use Rattle.command_line.proofs.app.option_without_default.Goals as goal

pub returns : goal.returns
returns c =
    let parser : c.value_parser.result.value_parser ≡ Some c.args.parser =
    let given = c.value_parser.ensures.given in let is = given.1 in let same = given.2 in cc in
    let long = ap rule_of c.long.ensures
    ∙ ap (λ (r : Rule). record r { long = Some c.args.name.now }) c.new.ensures.rule in
    let action = ap rule_of c.action.ensures ∙ ap (λ (r : Rule). record r { action = Some Set }) long in
    let parsed = ap rule_of c.value_parser.ensures.others ∙ ap₂ (λ (r : Rule) (p : Option ValueParser).
    record r { parser = p }) action parser in
    let local : Arg → Bool = λ a. a.global in (
      ap rule_of c.help.ensures ∙ parsed,
      ap local c.help.ensures ∙ ap local c.value_parser.ensures.others ∙ ap local c.action.ensures
          ∙ ap local c.long.ensures ∙ c.new.ensures.optional.1,
    )

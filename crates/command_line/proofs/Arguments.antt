-- One argument after the other, and one command after the other.
use Rattle.std.proofs.Common.{◌≡◌, ◌∙◌, Result, IfOk, Ok, ap₂}
use Rattle.std.proofs.lemmas.Result.{IfOk-at_ok, IfOk-weaker}
use Rattle.std.specs.Prelude.{◌||◌}
use Rattle.clap.specs.Built.{AddsArg, AddsSubcommand}
use Rattle.clap.specs.Words.{App, Rule, with_rule, with_subcommand}
use Rattle.clap.specs.declared.builder.arg.Arg.{Arg}
use Rattle.clap.specs.declared.builder.command.Command.{Command}
use Rattle.command_line.specs.Additions.{Adds, IsApp, IsArg}

module _ {E : Type 0} (given new : Result Command E) (old : Command) (was : given ≡ Ok old) where
  pub adds_argument : (arg : Arg) → IfOk new (AddsArg old arg) → (rule : Rule) → IsArg arg rule →
      Adds given (λ app. with_rule app rule) new
  adds_argument arg added rule is app had =
      let h : IsApp app old = IfOk-at_ok (IsApp app) was had in
      IfOk-weaker new _ _ (λ c (a : AddsArg old arg c).
      (a.shape is.1 ∙ ap₂ with_rule h.0 is.0, a.globals ∙ ap₂ (λ x y. x || y) h.1 is.1)) added

  pub adds_command : (sub : Result Command E) (inner : Command) → sub ≡ Ok inner → IfOk new (AddsSubcommand old inner)
      → (app : App) → IfOk sub (IsApp app) → Adds given (λ old. with_subcommand old app.top) new
  adds_command sub inner is added app has all had =
      let h : IsApp all old = IfOk-at_ok (IsApp all) was had in
      let i : IsApp app inner = IfOk-at_ok (IsApp app) is has in
      IfOk-weaker new _ _ (λ c (a : AddsSubcommand old inner c). (
        a.shape i.1 ∙ ap₂ (λ (x y : App). with_subcommand x y.top) h.0 i.0,
        a.globals ∙ ap₂ (λ x y. x || y) h.1 i.1,
      )) added

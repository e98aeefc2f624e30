-- Arguments and commands that are added to a command, one after the other.
use Rattle.std.specs.Prelude.{◌≡◌, false, Result, IfOk}
use Rattle.clap.specs.Words.{App, Rule, app_of, rule_of}
use Rattle.clap.specs.declared.builder.arg.Arg.{Arg}
use Rattle.clap.specs.declared.builder.command.Command.{Command}
use Rattle.clap.specs.declared.builder.command.Command.TheViews.{out-Command as fields_of}

-- the argument has this rule, and is none of subcommands
abbrev pub IsArg : Arg → Rule → Type 0
IsArg arg rule = (rule_of arg ≡ rule) × (arg.global ≡ false)

-- the command is this one, and no argument of it is one of subcommands
abbrev pub IsApp : App → Command → Type 0
IsApp app c = (app_of c ≡ app) × ((fields_of c).has_globals ≡ false)

-- if there was a command, there is one that has more, too; or there was no memory for that
abbrev pub Adds : {E : Type 0} → Result Command E → (App → App) → Result Command E → Type 0
Adds old more new = (app : App) → IfOk old (IsApp app) → IfOk new (IsApp (more app))

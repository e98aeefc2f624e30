use Rattle.std.proofs.Common.{◌≡◌, ap}
use Rattle.std.proofs.lemmas.Result.{IfOk-weaker}
use Rattle.clap.specs.Words.{App, app_of}
use Rattle.command_line.specs.App.{NameSchedules, Parsers, tardis_app}
use Rattle.command_line.proofs.app.program_command.Goals as goal

pub returns : goal.returns
returns c =
    let litmus = c.litmus_command-litmus.ensures in
    let trace = c.trace_command-trace.ensures in
    let all = c.with_command.ensures _ c.check_command-check.ensures _ (c.with_command-three.ensures _ trace.2 _
    (c.with_command-two.ensures _ c.ends_command-ends.ensures _
    (c.with_command-one.ensures _ litmus.2 _ c.program_without_commands.ensures))) in
    record {
      app = IfOk-weaker c.with_command.result _
          (λ m. (p : Parsers) × NameSchedules p × (app_of m ≡ tardis_app p))
          (λ m h. ((litmus.0, trace.0), (litmus.1, trace.1), h.0)) all;
      globals = IfOk-weaker c.with_command.result _ _ (λ m h. h.1) all;
      required = IfOk-weaker c.with_command.result _ _ (λ m h. ap (λ (a : App). a.top.subcommand_required) h.0) all;
    }

use Rattle.std.proofs.Common.{◌≡◌, sym, ap, subst, length, ◌∙◌}
use Rattle.machine_table.specs.declared.config.Config.{Config}
use Rattle.seat_rule.specs.declared.views.SetUp.{SetUp}
use Rattle.closed_machine.specs.PartsOfState.{PartsOfState}
use Rattle.mailboxes.specs.Seats.{AllNewBanks}
use Rattle.thread_driver.specs.ThreadRuns.{AreOpened}
use Rattle.thread_driver.proofs.Ended.{done_is_over, exhausted_is_stopped, over_is_done, used_is_not_stopped}
use Rattle.thread_driver.proofs.AllServed.{all_served}
use Rattle.thread_driver.proofs.run.run_seats.Goals as goal

pub drive_seats-end-requires-clause-cores : goal.drive_seats-end-requires-clause-cores
drive_seats-end-requires-clause-cores g c κs within =
    c.new_seats_can_be_driven.ensures.cores c.in-Ok.machine c.in-Ok.cores.items
    (c.in-Ok.ensures.cores.0 ∙ sym (ap (λ (k : Config). k.cores) c.in-Ok.ensures.set_up.0)) c.in-Ok.ensures.cores.1

pub drive_seats-end-requires-clause-banks : goal.drive_seats-end-requires-clause-banks
drive_seats-end-requires-clause-banks g c κs within =
    c.new_seats_can_be_driven.ensures.banks c.in-Ok.machine c.in-Ok.banks.items
    (c.in-Ok.ensures.banks.0 ∙ sym (ap (λ (k : Config). k.banks) c.in-Ok.ensures.set_up.0))
    (subst (λ n. AllNewBanks c.in-Ok.machine n c.in-Ok.banks.items)
    (sym (ap (λ (k : Config). k.cores) c.in-Ok.ensures.set_up.0)) c.in-Ok.ensures.banks.1)

pub close-requires-clause-cores : goal.close-requires-clause-cores
close-requires-clause-cores g c i p e = (c.drive_seats-end.ensures.cores.each i p e).0

pub close-requires-clause-banks : goal.close-requires-clause-banks
close-requires-clause-banks g c i p e = (c.drive_seats-end.ensures.banks.each i p e).0

pub returns-clause-run : goal.returns-clause-run
returns-clause-run g c =
    let m = c.in-Ok.machine in
    let run = c.in_ok-run.run' in
    let parts = subst (λ z. PartsOfState z run.cores.items run.banks.items run.slots.items run.records.items)
    (sym c.in_ok-run.ensures.set_up) c.in_ok-run.ensures.parts in
    let cores = c.in-Ok.cores.items in
    let ended = c.drive_seats-end.result.cores.items in
    let before = c.args.programs.items in
    let after = c.drive_seats-end.result.programs.items in
    let order = c.drive_seats-end.ensures.cores in
    let served = c.drive_seats-end.ensures.served in
    let left = c.in_ok-run.ensures.cores in
    let set : run.set_up.config.cores ≡ m.set_up.config.cores =
    ap (λ (z : SetUp). z.config.cores) c.in_ok-run.ensures.set_up in
    let many : length cores ≡ run.set_up.config.cores =
    c.in-Ok.ensures.cores.0 ∙ sym (ap (λ (k : Config). k.cores) c.in-Ok.ensures.set_up.0) ∙ sym set in
    let all : length ended ≡ run.set_up.config.cores = order.long ∙ sym set in
    let programs : length before ≡ length cores = c.requires.programs ∙ sym c.in-Ok.ensures.cores.0 in
    let told : length after ≡ length ended = served.long ∙ programs ∙ many ∙ sym all in
    let acts = g.P.Program.acts in
    let limit = c.args.turn_limit in
    let e = c.drive_seats-end.result.end in
    let banks = c.in-Ok.banks.items in
    let banks' = c.drive_seats-end.result.banks.items in
    let opened : AreOpened m cores banks = record {
      all_cores = c.in-Ok.ensures.cores.0 ∙ sym (ap (λ (k : Config). k.cores) c.in-Ok.ensures.set_up.0);
      all_banks = c.in-Ok.ensures.banks.0 ∙ sym (ap (λ (k : Config). k.banks) c.in-Ok.ensures.set_up.0);
      new_cores = c.in-Ok.ensures.cores.1;
      new_banks = subst (λ n. AllNewBanks m n banks) (sym (ap (λ (k : Config). k.cores) c.in-Ok.ensures.set_up.0))
          c.in-Ok.ensures.banks.1;
    } in
    record {
      parts = parts;
      reached = parts.whole.reached;
      served = all_served acts m run parts cores ended before after c.in-Ok.ensures.cores.1 many order all programs
          served left (c.closed_machines_are_consistent.ensures run parts);
      machine = m;
      set_up = c.in_ok-run.ensures.set_up;
      opened_cores = cores;
      opened_banks = banks;
      opened = opened;
      cores = ended;
      banks = banks';
      in_order = order;
      behind = c.drive_seats-end.ensures.banks;
      of_cores = left;
      of_banks = c.in_ok-run.ensures.banks;
      ended = c.drive_seats-end.ensures.ended;
      done = done_is_over acts m run parts ended after order all told left c.args.fair limit cores banks banks' before e
          c.drive_seats-end.ensures.ended;
      over = over_is_done acts m run parts ended after order all told left c.args.fair limit cores banks banks' before e
          c.drive_seats-end.ensures.ended;
      exhausted = exhausted_is_stopped acts m run parts ended after order all told left c.args.fair limit cores banks
          banks'
          before e c.drive_seats-end.ensures.ended opened c.drive_seats-end.ensures.banks c.in_ok-run.ensures.banks;
      turns_used = used_is_not_stopped acts m run parts ended after order all told left c.args.fair limit cores banks
          banks'
          before e c.drive_seats-end.ensures.ended opened c.drive_seats-end.ensures.banks c.in_ok-run.ensures.banks;
    }

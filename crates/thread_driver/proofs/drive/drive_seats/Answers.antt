use Rattle.std.proofs.Common.{inl, inr, refl, sym, subst, arith}
use Rattle.programs.specs.declared.ends.End.TheVariants as end
use Rattle.thread_driver.specs.declared.shift.Shift.{Shift}
use Rattle.thread_driver.specs.Given.{AtMost, SeatsGiven, quiet}
use Rattle.thread_driver.specs.Shifts.{AreOver, RefusedAtOnce}
use Rattle.thread_driver.proofs.Ordered.{Comes, ahead_at_first, comes_of}
use Rattle.thread_driver.proofs.Stops.{given_report}
use Rattle.thread_driver.proofs.Used.{given_by}
use Rattle.thread_driver.proofs.Worked.{not_given}
use Rattle.thread_driver.proofs.drive.drive_seats.Goals as goal

pub drive_shift-requires-clause-cores : goal.drive_shift-requires-clause-cores
drive_shift-requires-clause-cores g c κs bounds i p e = (c.requires.cores.0.each i p e).0

pub drive_shift-requires-clause-banks : goal.drive_shift-requires-clause-banks
drive_shift-requires-clause-banks g c κs bounds i p e = (c.requires.banks.each i p e).0

pub drive_shift-requires-clause-ahead : goal.drive_shift-requires-clause-ahead
drive_shift-requires-clause-ahead g c κs bounds =
    ahead_at_first c.args.machine.now g.P.Program.acts c.args.cores.items c.args.programs.items c.requires.cores.1
    c.requires.programs

pub drive_shift-requires-clause-few : goal.drive_shift-requires-clause-few
drive_shift-requires-clause-few g c κs bounds =
    let m = c.args.machine.now in
    let few = c.seats_are_few.ensures m.set_up m.good in
    let cores = c.requires.cores.0.long in
    let banks = c.requires.banks.long in
    (omega arith, omega arith)

pub returns-in-Err : goal.returns-in-Err
returns-in-Err g c =
    let acts = g.P.Program.acts in
    let m = c.args.machine.now in
    let cores = c.args.cores.items in
    let banks = c.args.banks.items in
    let programs = c.args.programs.items in
    let comes = subst (λ (s : Shift g.row.P.Denot). Comes acts m cores programs s.cores.items s.banks.items
    s.programs.items) (sym c.in-Err.ensures.refused)
    (comes_of acts m c.args.fair (AtMost c.args.turn_limit) cores cores banks banks programs programs quiet
    c.records_of_seats_are_counted.ensures.issued c.requires.cores.0 c.requires.cores.1 c.requires.banks
    c.requires.programs (not_given acts m c.args.fair (AtMost c.args.turn_limit) (omega arith) cores banks programs)) in
    record {
      cores = comes.in_order;
      banks = comes.behind;
      whole = comes.whole;
      served = comes.are_served;
      ended = inl (subst (λ (s : Shift g.row.P.Denot). RefusedAtOnce cores banks programs s.cores.items s.banks.items
          s.programs.items end.NoMemory) (sym c.in-Err.ensures.refused)
          (record { end_is = refl; same_cores = refl; same_banks = refl; same_programs = refl }));
    }

pub returns-in-Ok : goal.returns-in-Ok
returns-in-Ok g c =
    let acts = g.P.Program.acts in
    let m = c.args.machine.now in
    let limit = c.args.turn_limit in
    let cores = c.args.cores.items in
    let banks = c.args.banks.items in
    let programs = c.args.programs.items in
    let s = c.drive_shift.new.shift in
    let e = c.end_of_shift-shift.ensures in
    let given = c.in-Ok.ensures.worked in
    let comes = comes_of acts m c.args.fair
    (AtMost limit) cores s.cores.items banks s.banks.items programs s.programs.items
    c.in-Ok.told c.records_of_seats_are_counted.ensures.issued c.requires.cores.0 c.requires.cores.1 c.requires.banks
    c.requires.programs given in
    record {
      cores = comes.in_order;
      banks = comes.behind;
      whole = comes.whole;
      served = comes.are_served;
      ended = inr (record {
        told = c.in-Ok.told;
        given = given_by c.end_of_shift-shift.result c.in-Ok.told limit
            (λ Many. SeatsGiven acts m c.args.fair Many cores banks programs c.in-Ok.told s.cores.items s.banks.items
            s.programs.items)
            (AreOver acts s.cores.items s.programs.items) e.otherwise e.all_done given c.in-Ok.ensures.used;
        done = e.done;
        all_done = e.all_done;
        otherwise = e.otherwise;
        stopped = given_report acts m c.args.fair (AtMost limit) cores s.cores.items banks s.banks.items programs
            s.programs.items c.in-Ok.told c.requires.programs given;
      });
    }

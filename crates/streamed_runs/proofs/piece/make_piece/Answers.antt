use Rattle.std.proofs.Common.{◌≡◌, ◌-◌, ◌<◌, ◌++◌, List, sym, ap, ◌∙◌, subst, arith}
use Rattle.std.specs.List.{AllByRecursion}
use Rattle.std.specs.Vec.{vec_capacity, vec_len}
use Rattle.std.proofs.lemmas.List.{append_cancel_left}
use Rattle.physiological_order.specs.declared.operation.Record.{Record}
use Rattle.machine_table.specs.Machine.{Machine}
use Rattle.machine_theorem.proofs.Lemmas.{after_all_same}
use Rattle.streamed_runs.specs.declared.completed.Completed.{Completed}
use Rattle.streamed_runs.proofs.AddedRecords.{records_added}
use Rattle.streamed_runs.proofs.MadePieces.{none_left}
use Rattle.streamed_runs.proofs.piece.make_piece.Goals as goal

pub returns : goal.returns
returns c =
    let m = c.args.system.now in let after = c.run_on-end.new.system in let run = c.run_on-end.ensures in
    let count = c.run_on-end.auto.programs in
    let added : after.records ≡ m.records ++ c.run_on-end.result.1.records.items =
    ap (λ (n : Machine). n.records) run.ended.4
    ∙ records_added {W = Completed} (λ w. w.records.items) (λ w. 0 < vec_capacity w.records - vec_len w.records) m
    run.ended.0 c.args.records.items c.requires.none
    ∙ ap (λ (more : List Record). m.records ++ more) (sym run.ended.5) in
    record {
      begun = run.ended.1;
      events = run.ended.0;
      ended = run.ended.2;
      paced = run.ended.3;
      leads = run.ended.4;
      config = ap (λ (n : Machine). n.config) run.ended.4 ∙ (after_all_same m run.ended.0).config;
      added = added;
      there = subst (AllByRecursion (λ r. r.core < m.config.cores))
          (append_cancel_left m.records _ _ (sym run.served.records ∙ added)) run.served.there;
      idle = λ done. none_left c.run_on-end.new.programs m.config.cores (omega (arith, count, c.requires.one_each))
          (λ core below. (run.all_done done core below).1);
      rising = c.records_are_legal.ensures.rising;
      few = omega (arith, c.completed-completed.ensures, c.completed-completed.type_inv);
    }

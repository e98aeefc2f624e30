use Rattle.std.proofs.Common.{refl, sym, ap, ◌∙◌, true≢false}
use Rattle.stop_flags.specs.declared.words.Said.{Said}
use Rattle.thread_driver.specs.Given.{quiet}
use Rattle.thread_driver.specs.Teams.{ends}
use Rattle.thread_driver.proofs.Sums.{told_quiet}
use Rattle.thread_driver.proofs.work.worker_pass.Goals as goal

pub returns-then-look-clause-told : goal.returns-then-look-clause-told
returns-then-look-clause-told g c =
    ap (λ (h : Said). h.finished) c.read_signals-look.ensures.signaler.1 ∙
    (rw (c.deref.ensures.value, c.deref-2.ensures.value) at c.signal_finished_programs.ensures.told)

pub returns-then-all_turns_used-clause-told : goal.returns-then-all_turns_used-clause-told
returns-then-all_turns_used-clause-told g c =
    ap (λ (h : Said). h.finished) c.read_signals-look.ensures.signaler.1 ∙
    (rw (c.deref.ensures.value, c.deref-2.ensures.value) at c.signal_finished_programs.ensures.told)

pub returns-then-ends_all_turns-clause-told : goal.returns-then-ends_all_turns-clause-told
returns-then-ends_all_turns-clause-told g c =
    ap (λ (h : Said). h.finished) c.read_signals-look.ensures.signaler.1 ∙
    (rw (c.deref.ensures.value, c.deref-2.ensures.value) at c.signal_finished_programs.ensures.told)

pub returns-clause-told : goal.returns-clause-told
returns-clause-told g c = ap (λ (h : Said). h.finished) c.read_signals-look.ensures.signaler.1 ∙
    (rw (c.deref.ensures.value, c.deref-2.ensures.value) at c.signal_finished_programs.ensures.told)

pub returns-then-ends_all_turns-clause-passed : goal.returns-then-ends_all_turns-clause-passed
returns-then-ends_all_turns-clause-passed g c =
    let cores = c.core_pass-told.ensures in (
      record {
        cores_long = cores.long;
        programs_long = cores.ahead.long ∙ cores.long ∙ sym c.requires.ahead.long;
        limit = c.args.rota.turns;
        cores_had = c.args.cores_had.now;
        banks_had = c.args.banks_had.now;
        cores_have = c.core_pass-told.new.had;
        banks_have = c.args.banks_had.now;
        core_turns = cores.turns.0;
        bank_turns = 0;
        core_told = c.core_pass-told.result;
        bank_told = quiet;
        of_cores = cores.turns.2;
        of_banks = ends;
        all_cores = cores.turns.1;
        no_banks = λ ended. refl;
        all_banks = λ goes. absurd (true≢false (c.if-ends_all_turns.ensures ∙ goes));
        told_is = sym (told_quiet c.core_pass-told.result);
      },
      record {
        limit_is = refl;
        cores_had_is = refl;
        banks_had_is = refl;
        cores_have_is = refl;
        banks_have_is = refl;
      },
    )

pub returns-clause-passed : goal.returns-clause-passed
returns-clause-passed g c =
    let cores = c.core_pass-told.ensures in
    let banks = c.bank_pass-banks.ensures in (
      record {
        cores_long = cores.long;
        programs_long = cores.ahead.long ∙ cores.long ∙ sym c.requires.ahead.long;
        limit = c.args.rota.turns;
        cores_had = c.args.cores_had.now;
        banks_had = c.args.banks_had.now;
        cores_have = c.core_pass-told.new.had;
        banks_have = c.bank_pass-banks.new.had;
        core_turns = cores.turns.0;
        bank_turns = banks.turns.0;
        core_told = c.core_pass-told.result;
        bank_told = c.bank_pass-banks.result;
        of_cores = cores.turns.2;
        of_banks = banks.turns.2;
        all_cores = cores.turns.1;
        no_banks = λ ended. absurd (true≢false (sym ended ∙ sym c.if-ends_all_turns.ensures));
        all_banks = λ goes. banks.turns.1;
        told_is = c.told_by_both.ensures;
      },
      record {
        limit_is = refl;
        cores_had_is = refl;
        banks_had_is = refl;
        cores_have_is = refl;
        banks_have_is = refl;
      },
    )

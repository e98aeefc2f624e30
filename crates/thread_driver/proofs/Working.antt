-- A worker before each pass: what it gave its seats and what it has signaled. And how it ends.
use Rattle.std.proofs.Common.{◌≡◌, ℕ, ◌+◌, ◌%◌, ◌<◌, ◌≤◌, Bool, true, false, List, length, refl, sym, ap, ◌∙◌}
use Rattle.std.proofs.Common.{subst, arith, true≢false, inl, inr}
use Rattle.std.proofs.lemmas.Bool.{cases_lt, le-ltb, lt-ltb, or_parts}
use Rattle.std.specs.Prelude.{replicate}
use Rattle.std.specs.List.{zip}
use Rattle.mailboxes.specs.declared.machine.Machine.{Machine}
use Rattle.mailboxes.specs.Seats.{AllBankSeats, AllCoreSeats}
use Rattle.programs.specs.Acts.{Acts}
use Rattle.stop_flags.specs.declared.signaler.Signaler.{Signaler}
use Rattle.stop_flags.specs.declared.signals.Signals.{Signals}
use Rattle.stop_flags.specs.declared.words.Said.{Said}
use Rattle.stop_flags.specs.Signalers.{IsSignalerOf, last_look, number_of}
use Rattle.thread_driver.specs.declared.told.Told.{Told}
use Rattle.thread_driver.specs.declared.worker.Rota.{Rota}
use Rattle.thread_driver.specs.declared.worker.Worker.{Worker}
use Rattle.thread_driver.specs.Given.{quiet, told_by_both}
use Rattle.thread_driver.specs.Playing.{AreAhead}
use Rattle.thread_driver.specs.Teams.{HasCounts, HasUsedAll, HasWorked, IsAtWork, IsReady, SeatsPassed, ends_all}
use Rattle.thread_driver.specs.Teams.{over_in, rested}
use Rattle.thread_driver.proofs.Counted.{over_rises}
use Rattle.thread_driver.proofs.Passes.{none_ends, second_ends}
use Rattle.thread_driver.proofs.Pairs.{pairs_few}
use Rattle.thread_driver.proofs.Shares.{counted_long, counted_used}
use Rattle.thread_driver.proofs.Worked.{SeatsCounted, counted_within, given_all, given_more, not_counted}

-- how many passes count as idle, once so many came to nothing in a row
abbrev pub AreIdle : (idle passes : ℕ) → Type 0
AreIdle idle passes = (passes < 128 → idle ≡ passes) × (128 ≤ passes → idle ≡ 124 + passes % 4)

-- If no pass brought anything on so far, all of them came to nothing.
pub idle_passes : (all told both : Told) (idle passes turn : ℕ) (is_due : Bool) → both ≡ told_by_both all told →
    (passes, is_due) ≡ rested idle told.has_progressed →
    (all.has_progressed ≡ false → AreIdle idle turn) → both.has_progressed ≡ false → AreIdle passes (turn + 1)
idle_passes all told both idle passes turn is_due told_is rests was none =
    let parts = or_parts all.has_progressed told.has_progressed
    (sym (ap (λ (t : Told). t.has_progressed) told_is) ∙ none) in
    let before = was parts.0 in
    let now : (passes, is_due) ≡ rested idle false = rests ∙ ap (rested idle) parts.1 in
    elim (cases_lt idle 127) [
      | inl low ↦
          let more : passes ≡ idle + 1 = ap (λ (p : ℕ × Bool). p.0) (rw (lt-ltb _ _ low) at now) in
          (grind (arith, before.0, before.1), grind (arith, before.0, before.1))
      | inr high ↦
          let last : passes ≡ 124 = ap (λ (p : ℕ × Bool). p.0) (rw (le-ltb _ _ high) at now) in
          (grind (arith, before.0, before.1), grind (arith, before.0, before.1))
    ]

module _ {P : Type 0} (acts : Acts P) (m : Machine) (signals : Signals) where
  -- The worker w, now l, gave each of its seats so many turns, by their numbers: one a pass at least, of at most
  -- `rota.turns`. None ended all.
  pub record Working (rota : Rota) (passes : ℕ) (cores_have banks_have : List ℕ) (w l : Worker P) : Type 0 where
    pub at_work : IsAtWork m signals l
    pub ahead : AreAhead acts l.cores.items l.programs.items
    pub few : (length l.cores.items ≤ 72) × (length l.banks.items ≤ 72)
    pub number : number_of l.signaler ≡ number_of w.signaler
    pub given : SeatsCounted acts m rota.fair passes rota.turns cores_have banks_have w.cores.items w.banks.items
        w.programs.items
        l.told l.cores.items l.banks.items l.programs.items
    pub goes : ends_all l.told ≡ false
    pub silent : l.signaler.said.stops ≡ false
    pub finished : l.signaler.said.finished ≤ over_in acts (zip l.cores.items l.programs.items)

  pub at_first : (rota : Rota) (w : Worker P) → IsReady acts m signals w →
      Working rota 0 (replicate 72 0) (replicate 72 0) w (record w { told = quiet })
  at_first rota w ready =
      record {
        at_work = record {
          signaler = ready.0.signaler;
          cores = ready.0.cores;
          banks = ready.0.banks;
        };
        ahead = ready.1;
        few = (ready.3, ready.4);
        number = refl;
        given = not_counted acts m rota.fair rota.turns w.cores.items w.banks.items w.programs.items ready.3 ready.4;
        goes = refl;
        silent = ap (λ (h : Said). h.stops) ready.2;
        finished = let none = ap (λ (h : Said). h.finished) ready.2 in omega arith;
      }

  module _ {rota : Rota} {passes : ℕ} {cores_have banks_have : List ℕ} where
    -- it told what is finished, and may have looked
    pub after_telling : (w l : Worker P) (s : Signaler) → Working rota passes cores_have banks_have w l →
        IsSignalerOf signals s → number_of s ≡ number_of l.signaler → s.said.stops ≡ l.signaler.said.stops →
        s.said.finished ≡ over_in acts (zip l.cores.items l.programs.items) →
        Working rota passes cores_have banks_have w (record l { signaler = s })
    after_telling w l s was signaler number stops told =
        record {
          at_work = record { signaler = signaler; cores = was.at_work.cores; banks = was.at_work.banks };
          ahead = was.ahead;
          few = was.few;
          number = number ∙ was.number;
          given = was.given;
          goes = was.goes;
          silent = stops ∙ was.silent;
          finished = omega (arith, told);
        }

    -- its seats had all their turns
    pub all_used : (w l : Worker P) → Working rota passes cores_have banks_have w l →
        HasUsedAll rota l cores_have banks_have → Working rota rota.turns cores_have banks_have w l
    all_used w l was used =
        let g = was.given in
        let short = pairs_few w.cores.items w.programs.items in
        let long = g.cores_long in
        let banks_long = counted_long g.of_banks in
        record {
          at_work = was.at_work;
          ahead = was.ahead;
          few = was.few;
          number = was.number;
          given = record {
            cores_long = g.cores_long;
            programs_long = g.programs_long;
            core_told = g.core_told;
            bank_told = g.bank_told;
            of_cores = counted_used g.of_cores
                (λ i n lt at. (let e = used.0 i n (omega (arith, lt)) at in omega (arith, e)));
            of_banks = counted_used g.of_banks
                (λ i n lt at. (let e = used.1 i n (omega (arith, lt)) at in omega (arith, e)));
            told_is = g.told_is;
          };
          goes = was.goes;
          silent = was.silent;
          finished = was.finished;
        }

    -- it ends before a pass
    pub ends_before : (w t : Worker P) → Working rota passes cores_have banks_have w t →
        t.signaler.said.finished ≡ over_in acts (zip t.cores.items t.programs.items) →
        ((last_look t.signaler).is_stopped ≡ false → (last_look t.signaler).finished < rota.programs →
        passes ≡ rota.turns) → HasWorked acts m rota w t
    ends_before w t was said whole =
        record {
          number = was.number;
          given = counted_within acts m was.given (λ n low high. high);
          all_given = λ goes on left.
              counted_within acts m was.given (λ n low high. (let e = whole on left in omega (arith, low, high, e)));
          stops = was.silent ∙ sym was.goes;
          finished = was.finished;
          all_finished = λ goes. said;
        }

    module _ (w u v : Worker P) (told both : Told) (was : Working rota passes cores_have banks_have w u)
        (passed : SeatsPassed acts m rota.fair u.cores.items u.banks.items u.programs.items told v.cores.items
        v.banks.items
        v.programs.items) {core_counts bank_counts : List ℕ}
        (counts : HasCounts acts rota.turns cores_have banks_have core_counts bank_counts passed)
        (is : both ≡ told_by_both u.told told) where
      -- it ends after a pass, in which a turn ended all
      pub ends_after : (s : Signaler) → ends_all told ≡ true →
          number_of s ≡ number_of u.signaler → s.said.stops ≡ true →
          s.said.finished ≡ u.signaler.said.finished →
          HasWorked acts m rota w (record v { told = both; signaler = s })
      ends_after s ended number stops finished =
          let all : ends_all both ≡ true = ap ends_all is ∙ second_ends u.told told ended in
          record {
            number = number ∙ was.number;
            given = counted_within acts m (given_more acts m was.given passed counts is) (λ n low high. high);
            all_given = λ goes. absurd (true≢false (sym all ∙ goes));
            stops = stops ∙ sym all;
            finished =
                let few = was.finished in
                let more = over_rises acts m passed.of_cores in
                omega arith;
            all_finished = λ goes. absurd (true≢false (sym all ∙ goes));
          }

      -- it goes on
      pub goes_on_after : passes < rota.turns → AllCoreSeats m v.cores.items → AllBankSeats m v.banks.items →
          AreAhead acts v.cores.items v.programs.items → v.signaler ≡ u.signaler → ends_all told ≡ false →
          Working rota (passes + 1) core_counts bank_counts w (record v { told = both })
      goes_on_after lt cores banks ahead same on =
          let given = given_all acts m was.given passed counts is lt was.ahead.long on in
          record {
            at_work = record {
              signaler = subst (IsSignalerOf signals) (sym same) was.at_work.signaler;
              cores = cores;
              banks = banks;
            };
            ahead = ahead;
            few =
                let few = was.few in
                let long = passed.cores_long in
                let banks_long = counted_long given.of_banks ∙ sym (counted_long was.given.of_banks) in
                (omega arith, omega arith);
            number = ap number_of same ∙ was.number;
            given = given;
            goes = ap ends_all is ∙ none_ends u.told told was.goes on;
            silent = ap (λ (s : Signaler). s.said.stops) same ∙ was.silent;
            finished =
                let few = was.finished in
                let more = over_rises acts m passed.of_cores in
                let kept = ap (λ (s : Signaler). s.said.finished) same in
                omega arith;
          }

-- How a run by threads ends, said of the machine that the closed one shows.
use Rattle.std.proofs.Common.{◌≡◌, ◌⊎◌, inl, inr, ℕ, ◌<◌, Bool, true, false, ◌||◌, List, length, map, Option}
use Rattle.std.proofs.Common.{sym, ap, ap₂, ◌∙◌, arith}
use Rattle.std.specs.List.{list_any}
use Rattle.std.proofs.lemmas.Bool.{false_from_ne_true}
use Rattle.std.proofs.lemmas.Option.{slice_get_within}
use Rattle.programs.specs.declared.ends.End.{End}
use Rattle.programs.specs.declared.ends.End.TheVariants as end
use Rattle.programs.specs.Acts.{Acts, next_of}
use Rattle.mailboxes.specs.declared.machine.Machine.{Machine}
use Rattle.mailboxes.specs.declared.core_seat.CoreSeat.{CoreSeat}
use Rattle.mailboxes.specs.declared.bank_seat.BankSeat.{BankSeat}
use Rattle.closed_machine.specs.declared.run.Run.{Run}
use Rattle.mailboxes.specs.Remains.{bank_part, core_part}
use Rattle.closed_machine.specs.RunParts.{Parts}
use Rattle.thread_driver.specs.declared.told.Told.{Told}
use Rattle.thread_driver.specs.Shifts.{AreBanksInOrder, AreCoresInOrder, AreOver, Ran, RefusedAtOnce, one_stopped}
use Rattle.thread_driver.specs.ThreadRuns.{AreOpened, IsOver, is_one_stopped, machine_of}
use Rattle.thread_driver.proofs.Seats.{none_left, none_open}
use Rattle.thread_driver.proofs.AllServed.{there}
use Rattle.thread_driver.proofs.Reports.{by_end}
use Rattle.thread_driver.proofs.Stops.{any_map, new_stopped}

not_done : {A : Type 0} (e : End) → e ≡ end.NoMemory → e ≡ end.AllDone → A
not_done e lacks done = (let both : end.NoMemory ≡ end.AllDone = sym lacks ∙ done in absurd cc)

module _ {P : Type 0} (acts : Acts P) (m : Machine) (run : Run) (parts : Parts run) (ended : List CoreSeat)
    (after : List P) (order : AreCoresInOrder m ended) (all : length ended ≡ run.set_up.config.cores)
    (programs : length after ≡ length ended) (left : run.cores.items ≡ map core_part ended) where
  pub is_over : AreOver acts ended after → IsOver acts (machine_of run parts) after
  is_over over c below =
      let q = there ended c (omega (arith, below, all)) in
      let b = there after c (omega (arith, below, all, programs)) in
      let none = over c q.0 b.0 q.1 b.1 in (
        none_open run parts ended left c q.0 q.1 (order.each c q.0 q.1).1 below none.0,
        ap (λ (o : Option P). next_of acts o) b.1 ∙ none.1,
      )

  pub was_over : IsOver acts (machine_of run parts) after → AreOver acts ended after
  was_over over c q b q_is b_is =
      let within = slice_get_within ended c q q_is in
      let below : c < run.set_up.config.cores = omega (arith, within, all) in
      let none = over c below in (
        none_left run parts ended left c q q_is (order.each c q q_is).1 below none.0,
        sym (ap (λ (o : Option P). next_of acts o) b_is) ∙ none.1,
      )

  module _ (fair : Bool) (limit : ℕ) (cores : List CoreSeat) (banks banks' : List BankSeat) (before : List P) (e : End)
      (is : RefusedAtOnce cores banks before ended banks' after e
      ⊎ Ran acts m fair limit cores banks before ended banks' after e) where
    pub done_is_over : e ≡ end.AllDone → IsOver acts (machine_of run parts) after
    done_is_over done = elim is [
      | inl refused ↦ not_done e refused.end_is done
      | inr ran ↦ is_over (ran.done done)
    ]

    module _ (opened : AreOpened m cores banks) (behind : AreBanksInOrder m banks')
        (left_banks : run.banks.items ≡ map bank_part banks') where
      -- what the turns reported is what the closed machine shows
      shown : (told : Told) → told.is_exhausted ≡ (one_stopped (λ (p : CoreSeat). p.is_stopped) cores ended
          || one_stopped (λ (p : BankSeat). p.is_stopped) banks banks') → told.is_exhausted ≡ is_one_stopped run
      shown told stopped =
          stopped ∙ ap₂ (λ a b. a || b)
          (new_stopped (λ (p : CoreSeat). p.is_stopped) cores ended (order.long ∙ sym opened.all_cores)
          (λ i p at. (opened.new_cores i p at).4)
          ∙ sym (ap (list_any (λ p. p.is_stopped)) left ∙ any_map core_part (λ p. p.is_stopped) ended))
          (new_stopped (λ (p : BankSeat). p.is_stopped) banks banks' (behind.long ∙ sym opened.all_banks)
          (λ i p at. (opened.new_banks i p at).4)
          ∙ sym (ap (list_any (λ p. p.is_stopped)) left_banks ∙ any_map bank_part (λ p. p.is_stopped) banks'))

      pub exhausted_is_stopped : e ≡ end.Exhausted → is_one_stopped run ≡ true
      exhausted_is_stopped is_so = elim is [
        | inl refused ↦ absurd (let both : end.NoMemory ≡ end.Exhausted = sym refused.end_is ∙ is_so in cc)
        | inr ran ↦ sym (shown ran.told ran.stopped) ∙ ((by_end ran.told e
            (ran.otherwise (λ d. let both : end.Exhausted ≡ end.AllDone = sym is_so ∙ d in cc))).exhausted.0 is_so).1
      ]

      pub used_is_not_stopped : e ≡ end.TurnsUsed → is_one_stopped run ≡ false
      used_is_not_stopped is_so = elim is [
        | inl refused ↦ absurd (let both : end.NoMemory ≡ end.TurnsUsed = sym refused.end_is ∙ is_so in cc)
        | inr ran ↦ sym (shown ran.told ran.stopped) ∙ false_from_ne_true ran.told.is_exhausted ((by_end ran.told e
            (ran.otherwise (λ d. let both : end.TurnsUsed ≡ end.AllDone = sym is_so ∙ d in cc))).turns_used.0 is_so).1
      ]

    pub over_is_done : IsOver acts (machine_of run parts) after →
        (e ≡ end.AllDone) ⊎ RefusedAtOnce cores banks before ended banks' after e
    over_is_done over = elim is [
      | inl refused ↦ inr refused
      | inr ran ↦ inl (ran.all_done (was_over over))
    ]

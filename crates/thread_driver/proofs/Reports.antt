-- What turns report is what their calls answered, and it decides the end.
use Rattle.std.proofs.Common.{◌≡◌, ◌⊎◌, ◌↔◌, inl, inr, ⊎_elim, ℕ, Bool, true, false, ◌||◌, List, Option, Some, None}
use Rattle.std.proofs.Common.{Result, Ok, Err, refl, sym, ap, subst, ◌∙◌}
use Rattle.std.specs.Prelude.{if◌then◌else◌, not}
use Rattle.std.proofs.lemmas.Bool.{lt-ltb, ltb-true, true≢false}
use Rattle.physiological_order.specs.declared.operation.Op.{Op}
use Rattle.physiological_order.specs.declared.operation.Record.{Record}
use Rattle.machine_table.specs.declared.event.Refusal.{Refusal}
use Rattle.machine_table.specs.declared.event.Refusal.TheVariants as refusal
use Rattle.inbox.specs.declared.answer.Served.{Served}
use Rattle.inbox.specs.declared.answer.Served.TheVariants as served
use Rattle.mailboxes.specs.declared.machine.Machine.{Machine}
use Rattle.mailboxes.specs.declared.core_seat.CoreSeat.{CoreSeat}
use Rattle.mailboxes.specs.declared.bank_seat.BankSeat.{BankSeat}
use Rattle.mailboxes.specs.declared.turning.Turn.{Turn}
use Rattle.mailboxes.specs.BankTurns.{BankTurns}
use Rattle.programs.specs.declared.ends.End.{End}
use Rattle.programs.specs.declared.ends.End.TheVariants as end
use Rattle.programs.specs.declared.steps.Step.{Step}
use Rattle.programs.specs.declared.steps.Step.TheVariants as step
use Rattle.programs.specs.Acts.{Acts}
use Rattle.thread_driver.specs.declared.told.Told.{Told}
use Rattle.thread_driver.specs.Calls.{RoomMade}
use Rattle.thread_driver.specs.Given.{AllGiven, none, one_more, TurnsGiven, rests, more, quiet, told_by_both}
use Rattle.thread_driver.specs.Reports.{BankLacked, BankStopped, CoreLacked, CoreStopped, IsDecided, IsReport, Moved}
use Rattle.thread_driver.specs.Reports.{OneOf, OneOfAll, SomeLacked, SomeStopped, Stopped, Went, moved_in}
use Rattle.thread_driver.specs.Shifts.{Ran, end_told}
use Rattle.thread_driver.specs.Turns.{AfterAdvance, AfterAttempt, AfterIssue, AfterRefusal, BankHad, BankHadFairTurn}
use Rattle.thread_driver.specs.Turns.{CoreHadTurn, NextDone, OpenTried, RoomMadeIf, StepDone}
use Rattle.thread_driver.specs.Turns.{has_moved, has_stopped, is_done, is_served, lacks_memory, told_of_turn}

-- tests that hold exactly if something is so
abbrev Tests : Bool → Type 0 → Type 0
Tests b A = (b ≡ true) ↔ A

tests_or : (a b : Bool) {A B : Type 0} → Tests a A → Tests b B → Tests (a || b) (A ⊎ B)
tests_or true b f g = (λ e. inl (f.0 refl), λ x. refl)
tests_or false b f g = (λ e. inr (g.0 e), λ x. ⊎_elim (λ is. absurd (true≢false (sym (f.1 is)))) g.1 x)

tests_same : {a b : Bool} {A : Type 0} → a ≡ b → Tests b A → Tests a A
tests_same e f = (λ is. f.0 (sym e ∙ is), λ x. e ∙ f.1 x)

lacks_tests : {A : Type 0} (result : Result A Refusal) → Tests (lacks_memory result) (result ≡ Err refusal.NoMemory)
lacks_tests (Err refusal.NoMemory) = (λ e. refl, λ e. refl)
lacks_tests _ = (λ e. cc, λ e. cc)

stop_tests : (before after : Bool) → Tests (has_stopped before after) (Stopped before after)
stop_tests true true = (λ e. cc, λ x. cc)
stop_tests true false = (λ e. cc, λ x. cc)
stop_tests false true = (λ e. (refl, refl), λ x. refl)
stop_tests false false = (λ e. cc, λ x. cc)

done_tests : (done : Result Bool Refusal) → Tests (is_done done) (done ≡ Ok true)
done_tests (Ok true) = (λ e. refl, λ e. refl)
done_tests (Ok false) = (λ e. cc, λ e. cc)
done_tests (Err r) = (λ e. cc, λ e. cc)

served_tests : (s : Served) → Tests (is_served s) ((s ≡ served.Held → ⊥) × (s ≡ served.Nothing → ⊥))
served_tests served.Held = (λ e. cc, λ x. absurd (x.0 refl))
served_tests served.Nothing = (λ e. cc, λ x. absurd (x.1 refl))
served_tests _ = (λ e. ((λ h. cc), (λ h. cc)), λ x. refl)

move_tests : (moved : Result Turn Refusal) → Tests (has_moved moved) (Moved moved)
move_tests (Ok turn) = tests_or _ _ (ltb-true 0 turn.put, lt-ltb 0 turn.put) (served_tests turn.served)
move_tests (Err r) = (λ e. cc, λ x. absurd x)

-- A turn

seat_report : (p q : BankSeat) (told : Told) (moved : Result Turn Refusal) →
    told ≡ told_of_turn p.is_stopped q.is_stopped moved →
    IsReport told (moved ≡ Err refusal.NoMemory) (Stopped p.is_stopped q.is_stopped) (Moved moved)
seat_report p q told moved is =
    record {
      no_memory = tests_same (ap (λ (t : Told). t.no_memory) is) (lacks_tests moved);
      is_exhausted = tests_same (ap (λ (t : Told). t.is_exhausted) is) (stop_tests p.is_stopped q.is_stopped);
      has_progressed = tests_same (ap (λ (t : Told). t.has_progressed) is) (move_tests moved);
    }

pub bank_report : (fair : Bool) (m : Machine) (p q : BankSeat) (told : Told) (turn : BankHad fair m p told q) →
    let moved = moved_in fair m p told q turn in
    IsReport told (moved ≡ Err refusal.NoMemory) (Stopped p.is_stopped q.is_stopped) (Moved moved)
bank_report false m p q told turn = seat_report p q told turn.moved turn.told_is
bank_report true m p q told turn = seat_report p q told turn.moved turn.told_is

-- room is made exactly in a fair turn that made no progress
made_if : (moved : Bool) {A : Type 0} (p q : BankSeat) → Tests moved A → RoomMadeIf (not moved) p q →
    (A → q ≡ p) × ((A → ⊥) → RoomMade p q)
made_if true p q tests made = (λ is. made, λ none. absurd (none (tests.0 refl)))
made_if false p q tests made = (λ is. absurd (true≢false (sym (tests.1 is))), λ none. made)

pub fair_calls : (m : Machine) (p q : BankSeat) (told : Told) (turn : BankHadFairTurn m p told q) →
    BankTurns m p turn.moved turn.between × (Moved turn.moved → q ≡ turn.between)
    × ((Moved turn.moved → ⊥) → RoomMade turn.between q)
fair_calls m p q told turn =
    let made = made_if (has_moved turn.moved) turn.between q (move_tests turn.moved) turn.room_made in
    (turn.turned, made.0, made.1)

module _ {P : Type 0} (acts : Acts P) (m : Machine) where
  pub core_report : (p q : CoreSeat) (before after : P) (told : Told)
      (turn : CoreHadTurn acts m p before told q after) →
      IsReport told ((turn.moved ≡ Err refusal.NoMemory) ⊎ (turn.done ≡ Err refusal.NoMemory))
      (Stopped p.is_stopped q.is_stopped) (Moved turn.moved ⊎ (turn.done ≡ Ok true))
  core_report p q before after told turn =
      record {
        no_memory = tests_same (ap (λ (t : Told). t.no_memory) turn.told_is)
            (tests_or _ _ (lacks_tests turn.moved) (lacks_tests turn.done));
        is_exhausted = tests_same (ap (λ (t : Told). t.is_exhausted) turn.told_is)
            (stop_tests p.is_stopped q.is_stopped);
        has_progressed = tests_same (ap (λ (t : Told). t.has_progressed) turn.told_is)
            (tests_or _ _ (move_tests turn.moved) (done_tests turn.done));
      }

  -- a program goes on only by a step that is done
  module _ (before after : P) (done : Result Bool Refusal) where
    went : (result : Result Bool Refusal) → done ≡ result → Went acts result before after → Went acts done before after
    went result e is = subst (λ d. Went acts d before after) (sym e) is

    after_refusal : (r : Refusal) (p q : CoreSeat) → AfterRefusal r p done q → after ≡ before →
        Went acts done before after
    after_refusal refusal.NoRoom p q c e = went (Ok false) c.0 e
    after_refusal r p q c e = went (Err r) c.0 e

    after_attempt : (result : Result (Option Record) Refusal) (p q : CoreSeat) →
        AfterAttempt acts result p before done q after → Went acts done before after
    after_attempt (Ok (Some r)) p q c = went (Ok true) c.0 (r.received, c.2)
    after_attempt (Ok None) p q c = went (Ok false) c.0 c.2
    after_attempt (Err r) p q c = after_refusal r p q c.0 c.1

    open_tried : (p q : CoreSeat) → OpenTried acts m p before done q after → Went acts done before after
    open_tried p q (result, r, tried, rest) = after_attempt result r q rest

    after_issue : (result : Result (Unit {0}) Refusal) (p q : CoreSeat) →
        AfterIssue acts m result p before done q after → Went acts done before after
    after_issue (Ok issued) p q c = open_tried p q c
    after_issue (Err r) p q c = went (Err r) c.0 c.2

    after_advance : (result : Result (Unit {0}) Refusal) → AfterAdvance acts result before done after →
        Went acts done before after
    after_advance (Ok advanced) c = went (Ok true) c.0 (None, c.1)
    after_advance (Err r) c = went (Err r) c.0 c.1

    next_done : (next : Option Step) (p q : CoreSeat) → NextDone acts m next p before done q after →
        Went acts done before after
    next_done None p q c = went (Ok false) c.0 c.2
    next_done (Some step.Advance) p q (result, advanced, rest) = after_advance result rest
    next_done (Some (step.Op op)) p q (result, r, issued, rest) = after_issue result r q rest

    pub step_went : (o : Option Op) (p q : CoreSeat) → StepDone acts m o p before done q after →
        Went acts done before after
    step_went (Some op) p q c = open_tried p q c
    step_went None p q c = next_done (acts.next before) p q c

-- All turns

module _ (flag : Told → Bool) (not_quiet : flag quiet ≡ false)
    (of_both : (a b : Told) → flag (told_by_both a b) ≡ (flag a || flag b)) where
  module _ {X : Type 0} {Turn : X → Told → X → Type 0}
      (Is : (x : X) (told : Told) (y : X) → Turn x told y → Type 0)
      (law : (x : X) (told : Told) (y : X) (turn : Turn x told y) → Tests (flag told) (Is x told y turn)) where
    one_of : {x y : X} {n : ℕ} {told : Told} (given : TurnsGiven Turn x n told y) → Tests (flag told) (OneOf Is given)
    one_of rests = (λ e. absurd (true≢false (sym e ∙ not_quiet)), λ x. absurd x)
    one_of (more {all = all} {told = told} {y = y} {z = z} given last) =
        tests_same (of_both all told) (tests_or (flag all) (flag told) (one_of given) (law y told z last))

    one_of_all : {Many : ℕ → Type 0} {xs ys : List X} {told : Told} (given : AllGiven Turn Many xs told ys) →
        Tests (flag told) (OneOfAll Is given)
    one_of_all none = (λ e. absurd (true≢false (sym e ∙ not_quiet)), λ x. absurd x)
    one_of_all (one_more {told = told} {all = all} many given rest) =
        tests_same (of_both told all) (tests_or (flag told) (flag all) (one_of given) (one_of_all rest))

decided_so : (a b : Bool) {Lacked Stops : Type 0} → Tests a Lacked → Tests b Stops →
    IsDecided Lacked Stops (if a then end.NoMemory else (if b then end.Exhausted else end.TurnsUsed))
decided_so true b l s =
    record {
      no_memory = (λ x. l.0 refl, λ x. refl);
      exhausted = (λ x. absurd cc, λ x. absurd (x.0 (l.0 refl)));
      turns_used = (λ x. absurd cc, λ x. absurd (x.0 (l.0 refl)));
    }
decided_so false true l s =
    record {
      no_memory = (λ x. absurd cc, λ x. absurd (true≢false (sym (l.1 x))));
      exhausted = (λ x. ((λ y. true≢false (sym (l.1 y))), s.0 refl), λ x. refl);
      turns_used = (λ x. absurd cc, λ x. absurd (x.1 (s.0 refl)));
    }
decided_so false false l s =
    record {
      no_memory = (λ x. absurd cc, λ x. absurd (true≢false (sym (l.1 x))));
      exhausted = (λ x. absurd cc, λ x. absurd (true≢false (sym (s.1 x.1))));
      turns_used = (λ x. ((λ y. true≢false (sym (l.1 y))), (λ y. true≢false (sym (s.1 y)))), λ x. refl);
    }

decided : (a b : Bool) {Lacked Stops : Type 0} → Tests a Lacked → Tests b Stops → (e : End) →
    e ≡ (if a then end.NoMemory else (if b then end.Exhausted else end.TurnsUsed)) → IsDecided Lacked Stops e
decided a b {Lacked = Lacked} {Stops = Stops} l s e is = subst (IsDecided Lacked Stops) (sym is) (decided_so a b l s)

-- what the turns reported, by the end
pub by_end : (told : Told) (e : End) → e ≡ end_told told →
    IsDecided (told.no_memory ≡ true) (told.is_exhausted ≡ true) e
by_end told e is = decided told.no_memory told.is_exhausted ((λ x. x), (λ x. x)) ((λ x. x), (λ x. x)) e is

pub turns_decide : {P : Type 0} (acts : Acts P) (m : Machine) (fair : Bool) (limit : ℕ) (cores cores' : List CoreSeat)
    (banks banks' : List BankSeat) (programs programs' : List P) (e : End)
    (ran : Ran acts m fair limit cores banks programs cores' banks' programs' e) → (e ≡ end.AllDone → ⊥) →
    IsDecided (SomeLacked acts m ran.given) (SomeStopped acts m ran.given) e
turns_decide acts m fair limit cores cores' banks banks' programs programs' e ran left =
    let given = ran.given in
    let no_memory = λ (t : Told). t.no_memory in
    let stops = λ (t : Told). t.is_exhausted in
    decided ran.told.no_memory ran.told.is_exhausted
    (tests_same (ap no_memory given.told_is)
    (tests_or given.core_told.no_memory given.bank_told.no_memory
    (one_of_all no_memory refl (λ a b. refl) (CoreLacked acts m)
    (λ x t y is. (core_report acts m x.0 y.0 x.1 y.1 t is.turn).no_memory) given.of_cores)
    (one_of_all no_memory refl (λ a b. refl) (BankLacked fair m)
    (λ p t q is. (bank_report fair m p q t is.turn).no_memory)
    given.of_banks)))
    (tests_same (ap stops given.told_is)
    (tests_or given.core_told.is_exhausted given.bank_told.is_exhausted
    (one_of_all stops refl (λ a b. refl) (CoreStopped acts m)
    (λ x t y is. (core_report acts m x.0 y.0 x.1 y.1 t is.turn).is_exhausted) given.of_cores)
    (one_of_all stops refl (λ a b. refl) (BankStopped fair m)
    (λ p t q is. (bank_report fair m p q t is.turn).is_exhausted)
    given.of_banks)))
    e (ran.otherwise left)

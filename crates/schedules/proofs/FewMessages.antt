-- Rounds from a machine as it opens keep its recalls finding their owners; so one that stalls has few messages.
use Rattle.std.proofs.Common.{◌≡◌, ℕ, zero, suc, ◌+◌, ◌-◌, ◌^◌, ◌<◌, ◌≤◌, Bool, true, false, ◌&&◌, cond, List, []}
use Rattle.std.proofs.Common.{◌∷◌, length, map, Option, Some, None, inl, inr, ◌⊎◌, refl, sym, ap, ◌∙◌, subst}
use Rattle.std.proofs.Common.{⊎_elim, arith}
use Rattle.std.specs.Ordering.{nat_cmp}
use Rattle.std.specs.FinMap.{FinMap}
use Rattle.std.proofs.lemmas.Bool.{cases_lt, cond_both}
use Rattle.physiological_order.specs.declared.operation.Op.{Op}
use Rattle.network.specs.declared.message.Message.{Message}
use Rattle.network.specs.NumberedMessages.{IsRising}
use Rattle.machine_table.specs.Answered.{Answered}
use Rattle.machine_table.specs.declared.config.Config.{Config}
use Rattle.machine_table.specs.declared.event.Answer.{Answer}
use Rattle.machine_table.specs.declared.event.Answer.TheVariants as answer
use Rattle.machine_table.specs.declared.event.Event.{Event}
use Rattle.machine_table.specs.declared.event.Event.TheVariants as event
use Rattle.machine_table.specs.declared.event.Refusal.TheVariants as refusal
use Rattle.machine_table.specs.Machine.{Machine, open_op}
use Rattle.machine_table.specs.Opening.{at_start}
use Rattle.machine_table.specs.SetUp.{is_good}
use Rattle.machine_table.specs.Transition.{transition}
use Rattle.machine_table.proofs.Lemmas.{every_answer}
use Rattle.interleaving_core.specs.LookUps.{victim_for_core, make_room}
use Rattle.machine_theorem.specs.HeldRecalls.{RecallsFindOwners}
use Rattle.machine_theorem.specs.Rounds.{MovesOn}
use Rattle.machine_theorem.proofs.Lemmas.{few_after, Claim, Lasting, InTurn, Pends, Rested, AreOthers, turn_begins}
use Rattle.machine_theorem.proofs.Lemmas.{turn_passes}
use Rattle.machine_theorem.proofs.Lemmas.{issue_lasts, advance_lasts, attempt_lasts, copy_lasts, delivery_lasts}
use Rattle.machine_theorem.proofs.Lemmas.{again_lasts, line_lasts, delivery_begins, delivery_ends, rising_others}
use Rattle.machine_theorem.proofs.Lemmas.{opens_rested, rested_owns}
use Rattle.programs.specs.declared.ends.End.TheVariants.{Stalled}
use Rattle.programs.specs.declared.steps.Step.{Step}
use Rattle.programs.specs.declared.steps.Step.TheVariants as step
use Rattle.programs.specs.Acts.{Acts, next_in}
use Rattle.schedules.specs.Parts as parts
use Rattle.schedules.specs.Parts.{Action, Does, Advances, Lists, Standing, Part, after_action, after_actions}
use Rattle.schedules.specs.Parts.{after_answer, programs_told, told_advance, followed_by, for_each, one, only_if}
use Rattle.schedules.specs.Parts.{makes_place, finds_no_place, tries, makes_room, delivery, is_held, is_evicted}
use Rattle.schedules.specs.Parts.{is_no_room}
use Rattle.schedules.specs.RoundSchedule.{Round, no_round, rising, numbers_in_flight, step_of, steps_on, attempt_of}
use Rattle.schedules.specs.RoundSchedule.{attempts, core_turn, core_turns, deliveries, round_of, rounds, AreRounds}
use Rattle.schedules.specs.RoundSchedule.{none, more}
use Rattle.schedules.specs.Runs.{begin, opened, Ended, initial_position, plan_of}
use Rattle.schedules.specs.Stalls.{StallsSince, StallsFromOpening, full, unnumbered, too_many}
use Rattle.schedules.proofs.Parts.{after_both}
use Rattle.schedules.proofs.RunLaws.{not_cut, run_stands}
use Rattle.schedules.proofs.StillRounds.{GoesOn}
use Rattle.schedules.proofs.Stalls.{stands, machine_is, runs, as_many, none_moves, stalls_since, of_config}

no_room_is : (a : Answer) → is_no_room a ≡ true → a ≡ answer.Refused refusal.NoRoom
no_room_is (answer.Refused refusal.NoRoom) is = refl
no_room_is _ is = absurd (let z : false ≡ true = is in cc)

-- an attempt without room leaves the machine
no_room_leaves : (m : Machine) (a : Answer) (after : Machine) → Answered m a after →
    a ≡ answer.Refused refusal.NoRoom → after ≡ m
no_room_leaves m a after says is = subst (λ (b : Answer). Answered m b after) is says

module _ {P : Type 0} (acts : Acts P) where
  -- so it is of a turn's machine, unless times are exhausted
  abbrev Holds : Claim → Standing P → Type 0
  Holds K s = (s.is_out ≡ true) ⊎ Lasting K s.machine

  abbrev Leads : (K L : Claim) → Part P → Type 0
  Leads K L part = (s : Standing P) → Holds K s → Holds L (after_actions acts s (part s))

  event_leads : (K L : Claim) (e : Event) (tells : Answer → List P) (s : Standing P) →
      (Lasting K s.machine → Lasting L (transition s.machine e).1) → Holds K s →
      Holds L (cond s.is_out s (after_answer s tells (transition s.machine e)))
  event_leads K L e tells s leads so =
      cond_both s.is_out s (after_answer s tells (transition s.machine e)) (Holds L) (λ out. inl out)
      (λ more. ⊎_elim (λ (out : s.is_out ≡ true). absurd (let z : true ≡ false = sym out ∙ more in cc))
      (λ (k : Lasting K s.machine). inr (leads k)) so)

  both_lead : (M L : Claim) (f g : Part P) (s : Standing P) →
      Holds M (after_actions acts s (f s)) →
      (Holds M (after_actions acts s (f s)) →
      Holds L (after_actions acts (after_actions acts s (f s)) (g (after_actions acts s (f s))))) →
      Holds L (after_actions acts s (followed_by acts f g s))
  both_lead M L f g s first second =
      subst (Holds L) (sym (after_both acts s (f s) (g (after_actions acts s (f s))))) (second first)

  if_leads : (b : Bool) (K : Claim) (part : Part P) (s : Standing P) → Holds K s →
      (b ≡ true → Holds K (after_actions acts s (part s))) → Holds K (after_actions acts s (only_if b part s))
  if_leads true K part s so leads = leads refl
  if_leads false K part s so leads = so

  passes : (c : ℕ) (s : Standing P) → Holds (InTurn c) s → Holds (InTurn (c + 1)) s
  passes c s (inl out) = inl out
  passes c s (inr k) = inr (turn_passes c s.machine k)

  -- a core's turn
  steps_lead : (c : ℕ) → Leads (InTurn c) (InTurn (c + 1)) (steps_on acts c)
  steps_lead c s so = go (open_op s.machine c) (next_in acts s.programs c)
    where
      go : (o : Option (Op × Bool)) (next : Option Step) →
          Holds (InTurn (c + 1)) (after_actions acts s (step_of c o next s))
      go None None = passes c s so
      go None (Some (step.Op op)) = event_leads (InTurn c) (InTurn (c + 1)) (event.Issue c op)
          (programs_told acts s.programs) s (issue_lasts c op s.machine) so
      go None (Some step.Advance) = event_leads (InTurn (c + 1)) (InTurn (c + 1)) (event.Advance c)
          (told_advance acts s.programs c) s (advance_lasts c (c + 1) s.machine) (passes c s so)
      go (Some x) next = passes c s so

  attempt_leads : (c : ℕ) → Leads (InTurn (c + 1)) (InTurn (c + 1)) (one (Does (event.Attempt c)))
  attempt_leads c s so = event_leads (InTurn (c + 1)) (InTurn (c + 1)) (event.Attempt c)
      (programs_told acts s.programs) s
      (attempt_lasts c s.machine) so

  place_leads : (c : ℕ) (t : Standing P) → finds_no_place t.machine c ≡ true → Holds (InTurn (c + 1)) t →
      Holds (InTurn (c + 1)) (after_actions acts t (makes_place c t))
  place_leads c t no_place so = go (victim_for_core t.machine c (open_op t.machine c))
    where
      go : (o : Option ℕ) → Holds (InTurn (c + 1)) (after_actions acts t (parts.copy_leaves c o t))
      go None = so
      go (Some line) = event_leads (InTurn (c + 1)) (InTurn (c + 1)) (event.EvictCache c line)
          (programs_told acts t.programs) t
          (copy_lasts c line t.machine
          (no_room_is (transition t.machine (event.Attempt c)).0 no_place)) so

  tries_lead : (c : ℕ) → Leads (InTurn (c + 1)) (InTurn (c + 1)) (tries acts c)
  tries_lead c s so = both_lead (InTurn (c + 1)) (InTurn (c + 1)) (one (Does (event.Attempt c)))
      (only_if (finds_no_place s.machine c) (makes_place c)) s (attempt_leads c s so)
      (λ k. if_leads (finds_no_place s.machine c) (InTurn (c + 1)) (makes_place c) t k
      (λ no_place. place_leads c t (ap (λ (m : Machine). finds_no_place m c) (stays no_place) ∙ no_place) k))
    where
      t : Standing P
      t = after_action acts s (Does (event.Attempt c))

      stays : finds_no_place s.machine c ≡ true → t.machine ≡ s.machine
      stays no_place = cond_both s.is_out s (after_answer s (programs_told acts s.programs)
          (transition s.machine (event.Attempt c))) (λ u. u.machine ≡ s.machine) (λ out. refl)
          (λ more. no_room_leaves s.machine (transition s.machine (event.Attempt c)).0 _
          (every_answer s.machine (event.Attempt c)) (no_room_is (transition s.machine (event.Attempt c)).0 no_place))

  attempts_lead : (c : ℕ) → Leads (InTurn (c + 1)) (InTurn (c + 1)) (attempts acts c)
  attempts_lead c s so = go (open_op s.machine c)
    where
      go : (o : Option (Op × Bool)) → Holds (InTurn (c + 1)) (after_actions acts s (attempt_of acts c o s))
      go None = so
      go (Some x) = both_lead (InTurn (c + 1)) (InTurn (c + 1)) (tries acts c)
          (only_if (finds_no_place s.machine c) (one (Does (event.Attempt c)))) s (tries_lead c s so)
          (λ k. if_leads (finds_no_place s.machine c) (InTurn (c + 1)) (one (Does (event.Attempt c)))
          (after_actions acts s (tries acts c s)) k
          (λ no_place. attempt_leads c (after_actions acts s (tries acts c s)) k))

  turn_leads : (c : ℕ) → Leads (InTurn c) (InTurn (c + 1)) (core_turn acts c)
  turn_leads c s so = both_lead (InTurn (c + 1)) (InTurn (c + 1)) (steps_on acts c) (attempts acts c) s
      (steps_lead c s so) (attempts_lead c (after_actions acts s (steps_on acts c s)))

  -- the cores' turns, after which deliveries begin
  turns_lead : (count first : ℕ) (s : Standing P) → Holds (InTurn first) s →
      (next : ℕ) × Holds (InTurn next) (after_actions acts s (for_each acts (core_turn acts) (rising count first) s))
  turns_lead zero first s so = (first, so)
  turns_lead (suc count) first s so =
      let t = after_actions acts s (core_turn acts first s) in
      let k = turns_lead count (first + 1) t (turn_leads first s so) in (
        k.0,
        subst (Holds (InTurn k.0)) (sym (after_both acts s (core_turn acts first s)
            (for_each acts (core_turn acts) (rising count (first + 1)) t))) k.1,
      )

  -- a delivery, and what makes room for a request
  abbrev Wins : Bool → ℕ × ℕ → Standing P → Bool
  Wins fair x t = fair && is_evicted (transition t.machine (event.EvictBank x.0 x.1)).0

  room_leads : (fair : Bool) (n : ℕ) (ys : List (ℕ × Message)) → AreOthers n ys →
      Leads (Pends ys) (Pends ys) (makes_room acts fair n)
  room_leads fair n ys others t so = go (make_room t.machine n)
    where
      go : (o : Option (ℕ × ℕ)) →
          Holds (Pends ys) (after_actions acts t (parts.line_leaves acts fair n o t))
      go None = so
      go (Some x) = both_lead (Pends ys) (Pends ys)
          (one (Does (event.EvictBank x.0 x.1))) (only_if (Wins fair x t) (one (Does (event.Deliver n)))) t
          (event_leads (Pends ys) (Pends ys) (event.EvictBank x.0 x.1)
          (programs_told acts t.programs) t (line_lasts x.0 x.1 ys t.machine) so)
          (λ k. if_leads (Wins fair x t) (Pends ys) (one (Does (event.Deliver n)))
          (after_action acts t (Does (event.EvictBank x.0 x.1))) k
          (λ is. event_leads (Pends ys) (Pends ys) (event.Deliver n)
          (programs_told acts (after_action acts t (Does (event.EvictBank x.0 x.1))).programs)
          (after_action acts t (Does (event.EvictBank x.0 x.1)))
          (again_lasts n ys others (after_action acts t (Does (event.EvictBank x.0 x.1))).machine) k))

  one_delivered : (K : Claim) (fair : Bool) (n : ℕ) (ys : List (ℕ × Message)) →
      AreOthers n ys →
      ((m : Machine) → Lasting K m →
      Lasting (Pends ys) (transition m (event.Deliver n)).1) →
      Leads K (Pends ys) (delivery acts fair n)
  one_delivered K fair n ys others lasts s so =
      both_lead (Pends ys) (Pends ys) (one (Does (event.Deliver n)))
      (only_if (is_held (transition s.machine (event.Deliver n)).0) (makes_room acts fair n)) s
      (event_leads K (Pends ys) (event.Deliver n) (programs_told acts s.programs) s (lasts s.machine) so)
      (λ k. if_leads (is_held (transition s.machine (event.Deliver n)).0) (Pends ys)
      (makes_room acts fair n) (after_action acts s (Does (event.Deliver n))) k
      (λ is. room_leads fair n ys others (after_action acts s (Does (event.Deliver n))) k))

  all_delivered : (fair : Bool) (low high : ℕ) (ys : List (ℕ × Message)) → IsRising low ys high → (s : Standing P) →
      Holds (Pends ys) s →
      Holds (Pends []) (after_actions acts s (for_each acts (delivery acts fair)
      (map (λ message. message.0) ys) s))
  all_delivered fair low high [] rises s so = so
  all_delivered fair low high (y ∷ ys) rises s so =
      let t = after_actions acts s (delivery acts fair y.0 s) in
      let others = rising_others y.0 (y.0 + 1) high ys (omega arith) rises.1 in
      subst (Holds (Pends [])) (sym (after_both acts s (delivery acts fair y.0 s)
      (for_each acts (delivery acts fair) (map (λ message. message.0) ys) t)))
      (all_delivered fair (y.0 + 1) high ys rises.1 t
      (one_delivered (Pends (y ∷ ys)) fair y.0 ys others
      (delivery_lasts y.0 y.1 ys others) s so))

  -- once nothing is left to be delivered, any delivery leaves it so
  rest_delivered : (fair : Bool) (ns : List ℕ) (s : Standing P) → Holds (Pends []) s →
      Holds (Pends []) (after_actions acts s (for_each acts (delivery acts fair) ns s))
  rest_delivered fair [] s so = so
  rest_delivered fair (n ∷ ns) s so =
      let t = after_actions acts s (delivery acts fair n s) in
      subst (Holds (Pends [])) (sym (after_both acts s (delivery acts fair n s)
      (for_each acts (delivery acts fair) ns t)))
      (rest_delivered fair ns t
      (one_delivered (Pends []) fair n [] tt (again_lasts n [] tt) s so))

  -- a whole round
  delivered : (fair : Bool) (next : ℕ) (s : Standing P) → Holds (InTurn next) s →
      Holds (Pends []) (after_actions acts s (deliveries acts fair s))
  delivered fair next s (inl out) = rest_delivered fair (numbers_in_flight s.machine) s (inl out)
  delivered fair next s (inr k) = all_delivered fair 0 s.machine.mail.next s.machine.mail.messages k.0.rises s
      (inr (delivery_begins next s.machine k))

  begins : (s : Standing P) → Holds Rested s → Holds (InTurn 0) s
  begins s (inl out) = inl out
  begins s (inr k) = inr (turn_begins s.machine k)

  ends : (s : Standing P) → Holds (Pends []) s → Holds Rested s
  ends s (inl out) = inl out
  ends s (inr k) = inr (delivery_ends s.machine k)

  round_leads : (round : Round) → Leads Rested Rested (round_of acts round)
  round_leads round s so =
      let t = after_actions acts s (core_turns acts round.cores s) in
      let k = turns_lead round.cores 0 s (begins s so) in
      subst (Holds Rested) (sym (after_both acts s (core_turns acts round.cores s) (deliveries acts round.is_fair t)))
      (ends (after_actions acts t (deliveries acts round.is_fair t)) (delivered round.is_fair k.0 t k.1))

  -- so it is after any rounds
  rounds_lead : (round : Round) (start : Standing P) → Holds Rested start → (events : List Event) (s : Standing P) →
      AreRounds acts round start events s → Holds Rested s
  rounds_lead round start so _ _ none = so
  rounds_lead round start so _ _ (more {s = s} before) =
      round_leads round (begin s) (rounds_lead round start so _ s before)

-- a run by rounds, from a machine as it opens
module _ {P : Type 0} (acts : Acts P) (config : Config) (good : is_good config ≡ true) (memory : FinMap nat_cmp ℕ)
    (fair : Bool) (limit : ℕ) (opening : List P) {keeps : Bool} {events : List Event} {m : Machine} {programs : List P}
    (ended : Ended keeps (plan_of acts (rounds acts) limit)
    (initial_position acts (at_start config memory) opening (no_round fair config.cores)) events m programs Stalled)
  where
    abbrev round : Round
    round = no_round fair config.cores

    abbrev last : Standing P
    last = ended.last

    goes_on : GoesOn last
    goes_on = (stands acts config good memory [] fair limit opening refl ended).goes_on

    rested : Lasting Rested last.machine
    rested = let h = not_cut ended (λ bad. absurd cc) in
        let so : Holds acts Rested last =
        subst (Holds acts Rested) h.standing_is
        (rounds_lead acts round (opened (at_start config memory) opening)
        (inr (opens_rested config memory good)) _ _
        (run_stands acts limit round (at_start config memory) opening limit).rounds_are) in
        ⊎_elim (λ (out : last.is_out ≡ true). absurd (let z : true ≡ false = sym out ∙ goes_on.in_time in cc))
        (λ (k : Lasting Rested last.machine). k) so

    abbrev Few : Machine → Type 0
    Few n = n.is_stopped ≡ false → n.mail.next < 2 ^ 64 - 1 → RecallsFindOwners n →
        MovesOn n ⊎ (length n.mail.messages ≤ config.cores)

    few_left : last.machine.mail.next < 2 ^ 64 - 1 → length last.machine.mail.messages ≤ config.cores
    few_left numbers = ⊎_elim
        (λ (moves : MovesOn last.machine). absurd (none_moves acts round last goes_on
        (as_many acts config good memory [] fair limit opening refl ended)
        (stands acts config good memory [] fair limit opening refl ended).still moves))
        (λ (most : length last.machine.mail.messages ≤ config.cores). most)
        (subst Few (sym (machine_is acts config good memory [] fair limit opening refl ended))
        (few_after config good memory events) running numbers (rested_owns last.machine running numbers
        rested))
      where
        running : last.machine.is_stopped ≡ false
        running = runs acts config good memory [] fair limit opening refl ended

    by_cause : last.machine.mail.next < 2 ^ 64 - 1 → StallsSince acts m programs →
        StallsFromOpening acts config m programs
    by_cause numbers (full is) =
        let most = few_left numbers in
        let same = ap (λ (n : Machine). length n.mail.messages) ended.machine_is in
        let places = ap (λ (n : Machine). n.config.messages) ended.machine_is in
        let of_all = of_config acts config good memory [] fair limit opening refl ended in
        let set_up = ap (λ (c : Config). c.messages) of_all in
        full (omega (arith, is, most, same, places, set_up))
    by_cause numbers (unnumbered is) = unnumbered is
    by_cause numbers (too_many free core op below next is) = too_many free core op below next is

    pub stalls_whole : StallsFromOpening acts config m programs
    stalls_whole =
        let same = ap (λ (n : Machine). n.mail.next) ended.machine_is in
        elim (cases_lt last.machine.mail.next (2 ^ 64 - 1)) [
          | inr used ↦ unnumbered (omega (arith, used, same))
          | inl numbers ↦ by_cause numbers (stalls_since acts config good memory [] fair limit opening refl ended)
        ]

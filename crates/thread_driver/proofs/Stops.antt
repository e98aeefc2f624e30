-- A seat that is stopped stays stopped, and turns report that a seat stopped exactly where one did.
use Rattle.std.proofs.Common.{◌≡◌, ℕ, zero, suc, Bool, true, false, ◌||◌, List, [], ◌∷◌, length, map}
use Rattle.std.proofs.Common.{Option, Some, None, Result, Ok, Err, refl, sym, ap, ap₂, ◌∙◌, arith}
use Rattle.std.specs.Prelude.{slice_get}
use Rattle.std.specs.List.{list_any, zip}
use Rattle.std.proofs.lemmas.Bool.{true≢false}
use Rattle.physiological_order.specs.declared.operation.Op.{Op}
use Rattle.physiological_order.specs.declared.operation.Record.{Record}
use Rattle.machine_table.specs.declared.event.Answer.{Answer}
use Rattle.machine_table.specs.declared.event.Refusal.{Refusal}
use Rattle.machine_table.specs.declared.event.Refusal.TheVariants as refusal
use Rattle.programs.specs.declared.steps.Step.{Step}
use Rattle.programs.specs.declared.steps.Step.TheVariants as step
use Rattle.programs.specs.Acts.{Acts}
use Rattle.mailboxes.specs.declared.machine.Machine.{Machine}
use Rattle.mailboxes.specs.declared.core_seat.CoreSeat.{CoreSeat}
use Rattle.mailboxes.specs.declared.bank_seat.BankSeat.{BankSeat}
use Rattle.mailboxes.specs.declared.outcome.Outcome.{Outcome}
use Rattle.mailboxes.specs.declared.outcome.Outcome.TheVariants.{Keeps, Exhausts, Requests, Completes}
use Rattle.mailboxes.specs.declared.turning.Turn.{Turn}
use Rattle.mailboxes.specs.Attempts.{AttemptsSo, outcome}
use Rattle.mailboxes.specs.BankTurns.{BankPuts, BankServes, BankTakes, BankTurns, bank_hand}
use Rattle.mailboxes.specs.CoreTurns.{CorePuts, CoreServes, CoreTakes, CoreTurns, core_hand}
use Rattle.thread_driver.specs.declared.told.Told.{Told}
use Rattle.thread_driver.specs.Calls.{LineLeft, VictimLeft, victim_of_seat}
use Rattle.thread_driver.specs.Given.{AllGiven, none, one_more, IsBankTurn, IsCoreTurn, SeatsGiven}
use Rattle.thread_driver.specs.Given.{TurnsGiven, rests, more}
use Rattle.thread_driver.specs.Shifts.{one_stopped}
use Rattle.thread_driver.specs.Turns.{AfterAttempt, AfterIssue, AfterRefusal, BankHad, NextDone, OpenTried}
use Rattle.thread_driver.specs.Turns.{RoomMadeIf, StepDone, has_stopped}
use Rattle.thread_driver.proofs.TurnLaws.{turns_keep}

-- what is stopped, or true of what is stopped, stays so
abbrev pub Stays : Bool → Bool → Type 0
Stays before after = before ≡ true → after ≡ true

stays_same : (p q : Bool) → q ≡ p → Stays p q
stays_same p q e on = e ∙ on

stays_or : (p b q : Bool) → q ≡ (p || b) → Stays p q
stays_or p b q e on = e ∙ ap (λ x. x || b) on

stays_on : (p r q : Bool) → Stays p r → Stays r q → Stays p q
stays_on p r q f g on = g (f on)

-- a core's seat
module _ (m : Machine) where
  core_turns : (result : Result Turn Refusal) (p q : CoreSeat) → CoreTurns m p result q →
      Stays p.is_stopped q.is_stopped
  core_turns =
      turns_keep (CoreServes m) (CoreTakes m) core_hand (CorePuts m) (λ p q. Stays p.is_stopped q.is_stopped)
      (λ p q e. stays_same p.is_stopped q.is_stopped (ap (λ (x : CoreSeat). x.is_stopped) e))
      (λ p r q f g. stays_on p.is_stopped r.is_stopped q.is_stopped f g)
      (λ result p q c. stays_or p.is_stopped _ q.is_stopped c.3)
      (λ t p q c. stays_same p.is_stopped q.is_stopped c.0.4)
      (λ b p q c. stays_same p.is_stopped q.is_stopped c.0.4)

  bank_turns : (result : Result Turn Refusal) (p q : BankSeat) → BankTurns m p result q →
      Stays p.is_stopped q.is_stopped
  bank_turns =
      turns_keep (BankServes m) (BankTakes m) bank_hand (BankPuts m) (λ p q. Stays p.is_stopped q.is_stopped)
      (λ p q e. stays_same p.is_stopped q.is_stopped (ap (λ (x : BankSeat). x.is_stopped) e))
      (λ p r q f g. stays_on p.is_stopped r.is_stopped q.is_stopped f g)
      (λ result p q c. stays_or p.is_stopped _ q.is_stopped c.3)
      (λ t p q c. stays_same p.is_stopped q.is_stopped c.0.3)
      (λ b p q c. stays_same p.is_stopped q.is_stopped c.0.3)

  attempted : (p q : CoreSeat) (a : Answer) (o : Outcome) → AttemptsSo m p a q o → Stays p.is_stopped q.is_stopped
  attempted p q a (Keeps kept) c = stays_same p.is_stopped q.is_stopped c.2
  attempted p q a Exhausts c = λ on. c.2
  attempted p q a (Requests request) c = stays_same p.is_stopped q.is_stopped c.3
  attempted p q a (Completes d) c = stays_same p.is_stopped q.is_stopped c.4

same_seat : (p q : CoreSeat) → q ≡ p → Stays p.is_stopped q.is_stopped
same_seat p q e = stays_same p.is_stopped q.is_stopped (ap (λ (x : CoreSeat). x.is_stopped) e)

victim_left : (o : Option ℕ) (p q : CoreSeat) → VictimLeft o p q → Stays p.is_stopped q.is_stopped
victim_left None p q e = same_seat p q e
victim_left (Some line) p q (result, evicted) = stays_same p.is_stopped q.is_stopped evicted.stopped

line_left : (o : Option ℕ) (p q : BankSeat) → LineLeft o p q → Stays p.is_stopped q.is_stopped
line_left None p q e = stays_same p.is_stopped q.is_stopped (ap (λ (x : BankSeat). x.is_stopped) e)
line_left (Some line) p q (result, evicted) = stays_same p.is_stopped q.is_stopped evicted.stopped

after_refusal : (r : Refusal) (p q : CoreSeat) (done : Result Bool Refusal) → AfterRefusal r p done q →
    Stays p.is_stopped q.is_stopped
after_refusal refusal.NoRoom p q done c = victim_left (victim_of_seat p p.part.core.open_op) p q c.1
after_refusal _ p q done c = same_seat p q c.1

module _ {P : Type 0} (acts : Acts P) (m : Machine) (before after : P) (done : Result Bool Refusal) where
  after_attempt : (result : Result (Option Record) Refusal) (p q : CoreSeat) →
      AfterAttempt acts result p before done q after → Stays p.is_stopped q.is_stopped
  after_attempt (Ok (Some r)) p q c = same_seat p q c.1
  after_attempt (Ok None) p q c = same_seat p q c.1
  after_attempt (Err r) p q c = after_refusal r p q done c.0

  open_tried : (p q : CoreSeat) → OpenTried acts m p before done q after → Stays p.is_stopped q.is_stopped
  open_tried p q (result, r, tried, rest) =
      stays_on p.is_stopped r.is_stopped q.is_stopped
      (attempted m p r tried.0 (outcome p.is_stopped p.part) tried.2.attempt) (after_attempt result r q rest)

  after_issue : (result : Result (Unit {0}) Refusal) (p q : CoreSeat) →
      AfterIssue acts m result p before done q after → Stays p.is_stopped q.is_stopped
  after_issue (Ok issued) p q c = open_tried p q c
  after_issue (Err r) p q c = same_seat p q c.1

  next_done : (next : Option Step) (p q : CoreSeat) → NextDone acts m next p before done q after →
      Stays p.is_stopped q.is_stopped
  next_done None p q c = same_seat p q c.1
  next_done (Some step.Advance) p q (result, advanced, rest) = stays_or p.is_stopped _ q.is_stopped advanced.stopped
  next_done (Some (step.Op op)) p q (result, r, issued, rest) =
      stays_on p.is_stopped r.is_stopped q.is_stopped (stays_same p.is_stopped r.is_stopped issued.stopped)
      (after_issue result r q rest)

  step_done : (o : Option Op) (p q : CoreSeat) → StepDone acts m o p before done q after →
      Stays p.is_stopped q.is_stopped
  step_done (Some op) p q c = open_tried p q c
  step_done None p q c = next_done (acts.next before) p q c

-- turns report that their seat stopped exactly where it did, and a stopped one stays so
abbrev pub Reports : {X : Type 0} → (X → Bool) → X → Told → X → Type 0
Reports stopped x told y =
    (told.is_exhausted ≡ has_stopped (stopped x) (stopped y)) × Stays (stopped x) (stopped y)

module _ {P : Type 0} (acts : Acts P) (m : Machine) where
  pub core_reports : (x : CoreSeat × P) (told : Told) (y : CoreSeat × P) → IsCoreTurn acts m x told y →
      Reports (λ (z : CoreSeat × P). z.0.is_stopped) x told y
  core_reports x told y is =
      let t = is.turn in (
        ap (λ (a : Told). a.is_exhausted) t.told_is,
        stays_on x.0.is_stopped t.between.is_stopped y.0.is_stopped
            (step_done acts m x.1 y.1 t.done x.0.part.core.open_op x.0 t.between t.step_done)
            (core_turns m t.moved t.between y.0 t.turned),
      )

room_made_if : (due : Bool) (p q : BankSeat) → RoomMadeIf due p q → Stays p.is_stopped q.is_stopped
room_made_if true p q c = line_left _ p q c
room_made_if false p q e = line_left None p q e

bank_had : (fair : Bool) (m : Machine) (x : BankSeat) (told : Told) (y : BankSeat) → BankHad fair m x told y →
    Reports (λ (z : BankSeat). z.is_stopped) x told y
bank_had false m x told y t = (
  ap (λ (a : Told). a.is_exhausted) t.told_is,
  stays_on x.is_stopped t.between.is_stopped y.is_stopped (line_left _ x t.between t.room_made)
      (bank_turns m t.moved t.between y t.turned),
)
bank_had true m x told y t = (
  ap (λ (a : Told). a.is_exhausted) t.told_is,
  stays_on x.is_stopped t.between.is_stopped y.is_stopped (bank_turns m t.moved x t.between t.turned)
      (room_made_if _ t.between y t.room_made),
)

pub bank_reports : (fair : Bool) (m : Machine) (x : BankSeat) (told : Told) (y : BankSeat) →
    IsBankTurn fair m x told y → Reports (λ (z : BankSeat). z.is_stopped) x told y
bank_reports fair m x told y is = bank_had fair m x told y is.turn

-- what stops in one of two turns is what is stopped after both and wasn't before
not_both : (a : Bool) → false ≡ has_stopped a a
not_both true = refl
not_both false = refl

either : (p r q : Bool) → Stays p r → Stays r q → (has_stopped p r || has_stopped r q) ≡ has_stopped p q
either true false q f g = absurd (true≢false (sym (f refl)))
either false true false f g = absurd (true≢false (sym (g refl)))
either _ _ _ f g = refl

module _ {X : Type 0} (Turn : X → Told → X → Type 0) (stopped : X → Bool)
    (law : (x : X) (told : Told) (y : X) → Turn x told y → Reports stopped x told y) where
  pub turns_report : {x y : X} {n : ℕ} {told : Told} → TurnsGiven Turn x n told y → Reports stopped x told y
  turns_report {x = x} rests = (not_both (stopped x), λ on. on)
  turns_report {x = x} (more {told = told} {y = y} {z = z} given last) =
      let first = turns_report given in
      let second = law y told z last in (
        ap₂ (λ a b. a || b) first.0 second.0 ∙ either (stopped x) (stopped y) (stopped z) first.1 second.1,
        λ on. second.1 (first.1 on),
      )

  pub all_report : {Many : ℕ → Type 0} {xs ys : List X} {told : Told} → AllGiven Turn Many xs told ys →
      told.is_exhausted ≡ one_stopped stopped xs ys
  all_report none = refl
  all_report (one_more few given rest) = ap₂ (λ a b. a || b) (turns_report given).0 (all_report rest)

-- cores with their programs are stopped where the cores are
module _ {P : Type 0} where
  of_pairs : (cores cores' : List CoreSeat) (programs programs' : List P) → length programs ≡ length cores →
      length cores' ≡ length cores → length programs' ≡ length programs →
      one_stopped (λ (z : CoreSeat × P). z.0.is_stopped) (zip cores programs) (zip cores' programs') ≡
      one_stopped (λ (p : CoreSeat). p.is_stopped) cores cores'
  of_pairs [] cores' programs programs' e f g = refl
  of_pairs (p ∷ ps) (q ∷ qs) (a ∷ left) (b ∷ left') e f g =
      ap (λ x. has_stopped p.is_stopped q.is_stopped || x)
      (of_pairs ps qs left left' (omega arith) (omega arith) (omega arith))
  of_pairs _ _ _ _ e f g = absurd (omega arith)

  pub given_report : (acts : Acts P) (m : Machine) (fair : Bool) (Many : ℕ → Type 0) (cores cores' : List CoreSeat)
      (banks banks' : List BankSeat) (programs programs' : List P) (told : Told) → length programs ≡ length cores →
      SeatsGiven acts m fair Many cores banks programs told cores' banks' programs' →
      told.is_exhausted ≡ (one_stopped (λ (p : CoreSeat). p.is_stopped) cores cores'
      || one_stopped (λ (p : BankSeat). p.is_stopped) banks banks')
  given_report acts m fair Many cores cores' banks banks' programs programs' told many given =
      ap (λ (a : Told). a.is_exhausted) given.told_is
      ∙ ap₂ (λ a b. a || b)
      (all_report (IsCoreTurn acts m) (λ (z : CoreSeat × P). z.0.is_stopped) (core_reports acts m) given.of_cores
      ∙ of_pairs cores cores' programs programs' many given.cores_long given.programs_long)
      (all_report (IsBankTurn fair m) (λ (p : BankSeat). p.is_stopped) (bank_reports fair m) given.of_banks)

-- of seats none of which was stopped, one stopped exactly if one is stopped
fresh : (p q : Bool) → p ≡ false → has_stopped p q ≡ q
fresh true q e = absurd (true≢false e)
fresh false true e = refl
fresh false false e = refl

pub new_stopped : {S : Type 0} (stopped : S → Bool) (ps qs : List S) → length qs ≡ length ps →
    ((i : ℕ) (p : S) → slice_get ps i ≡ Some p → stopped p ≡ false) →
    one_stopped stopped ps qs ≡ list_any stopped qs
new_stopped stopped [] [] e new = refl
new_stopped stopped [] (q ∷ qs) e new = absurd (omega arith)
new_stopped stopped (p ∷ ps) [] e new = absurd (omega arith)
new_stopped stopped (p ∷ ps) (q ∷ qs) e new =
    ap₂ (λ a b. a || b) (fresh (stopped p) (stopped q) (new zero p refl))
    (new_stopped stopped ps qs (omega arith) (λ i x at. new (suc i) x at))

-- a test of a list's images
pub any_map : {A B : Type 0} (f : A → B) (test : B → Bool) (xs : List A) →
    list_any test (map f xs) ≡ list_any (λ x. test (f x)) xs
any_map f test [] = refl
any_map f test (x ∷ xs) = ap (λ b. test (f x) || b) (any_map f test xs)

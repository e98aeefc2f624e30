-- The schedule of rounds: the cores have their turns in rising order, and then each message in flight is delivered.
use Rattle.std.specs.Prelude.{◌≡◌, ℕ, zero, suc, ◌+◌, Bool, true, List, [], ◌∷◌, ◌++◌, map, Option, Some, None}
use Rattle.physiological_order.specs.declared.operation.Op.{Op}
use Rattle.programs.specs.declared.steps.Step.{Step}
use Rattle.programs.specs.declared.steps.Step.TheVariants as step
use Rattle.machine_table.specs.declared.event.Event.{Event}
use Rattle.machine_table.specs.declared.event.Event.TheVariants as event
use Rattle.machine_table.specs.Machine.{Machine, open_op}
use Rattle.programs.specs.Acts.{Acts, next_in}
use Rattle.schedules.specs.Parts.{Action, Does, Advances, Lists, Standing, Part, after_actions, events_of, followed_by}
use Rattle.schedules.specs.Parts.{for_each, one, only_if, finds_no_place, tries, delivery}
use Rattle.schedules.specs.Schedules.{Schedule}
use Rattle.schedules.specs.Runs.{begin}

-- how many cores have turns, and whether rounds are fair
pub record Round : Type 0 where
  pub cores : ℕ
  pub is_fair : Bool

abbrev pub no_round : Bool → ℕ → Round
no_round fair cores = record { cores = cores; is_fair = fair }

-- n numbers, which rise from this one
abbrev pub rising : ℕ → ℕ → List ℕ
rising zero n = []
rising (suc count) n = n ∷ rising count (n + 1)

-- the numbers of the messages in flight, which rise: a machine has its messages in the order of sending
abbrev pub numbers_in_flight : Machine → List ℕ
numbers_in_flight m = map (λ message. message.0) m.mail.messages

-- a step of a core's program
abbrev pub step_action : ℕ → Step → Action
step_action core (step.Op op) = Does (event.Issue core op)
step_action core step.Advance = Advances core

-- at most one: a core without an open operation does its program's next step
abbrev pub step_of : {P : Type 0} → ℕ → Option (Op × Bool) → Option Step → Part P
step_of core None (Some next) s = one (step_action core next) s
step_of core None None s = []
step_of core (Some x) next s = []

module _ {P : Type 0} (acts : Acts P) where
  abbrev pub steps_on : ℕ → Part P
  steps_on core s = step_of core (open_op s.machine core) (next_in acts s.programs core) s

  -- after a first attempt without a place there is a second one, and no second eviction
  abbrev pub tries_twice : ℕ → Part P
  tries_twice core s =
      followed_by acts (tries acts core)
      (only_if (finds_no_place s.machine core) (one (Does (event.Attempt core)))) s

  abbrev pub attempt_of : ℕ → Option (Op × Bool) → Part P
  attempt_of core None s = []
  attempt_of core (Some x) s = tries_twice core s

  -- an open operation is attempted
  abbrev pub attempts : ℕ → Part P
  attempts core s = attempt_of core (open_op s.machine core) s

  abbrev pub core_turn : ℕ → Part P
  core_turn core = followed_by acts (steps_on core) (attempts core)

  abbrev pub core_turns : ℕ → Part P
  core_turns cores = for_each acts core_turn (rising cores 0)

  -- the messages that are in flight then are listed, and each is delivered once
  abbrev pub deliveries : Bool → Part P
  deliveries fair s = Lists ∷ for_each acts (delivery acts fair) (numbers_in_flight s.machine) s

  -- the cores' turns, and then the deliveries
  abbrev pub round_of : Round → Part P
  round_of round = followed_by acts (core_turns round.cores) (deliveries round.is_fair)

  abbrev pub rounds : Schedule P Round
  rounds = record { turn = round_of; next = λ round. round; stalls = true }

-- no round, or rounds and one more: they have these events, and lead from the one to the other. Exhausted times cut the
-- last one short
pub data AreRounds {P : Type 0} (acts : Acts P) (round : Round) (start : Standing P) : List Event → Standing P →
    Type 0 where
  none : AreRounds acts round start [] start
  more : {events : List Event} {s : Standing P} → AreRounds acts round start events s →
      AreRounds acts round start (events ++ events_of acts (begin s) (round_of acts round (begin s)))
      (after_actions acts (begin s) (round_of acts round (begin s)))

-- whole rounds, and the first actions of one more
pub record ArePartOfRounds {P : Type 0} (acts : Acts P) (round : Round) (start : Standing P) (events : List Event) :
    Type 0 where
  pub before : List Event
  pub begun : Standing P
  pub rounds_are : AreRounds acts round start before begun
  pub made : List Action
  pub left : List Action
  pub events_are : events ≡ before ++ events_of acts (begin begun) made
  pub round_is : round_of acts round (begin begun) ≡ made ++ left

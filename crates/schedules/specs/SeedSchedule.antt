-- The seeded schedule: a turn is one event, drawn from a list of events by two words of a generator.
use Rattle.std.specs.Prelude.{ℕ, zero, suc, ◌%◌, List, [], ◌∷◌, ◌++◌, length, map, get_or}
use Rattle.std.specs.Prelude.{Bool, false, Option, Some, None, if◌then◌else◌}
use Rattle.std.specs.List.{flat_map, range_with_len}
use Rattle.rand_core.specs.Pcg32Seed.{pcg32_seed}
use Rattle.rand_pcg.specs.Lcg.{Lcg}
use Rattle.rand_pcg.specs.Pcg.{pcg32, pcg32_of_seed}
use Rattle.physiological_order.specs.declared.operation.Op.{Op}
use Rattle.programs.specs.declared.steps.Step.{Step}
use Rattle.machine_table.specs.declared.event.Event.{Event}
use Rattle.machine_table.specs.declared.event.Event.TheVariants as event
use Rattle.machine_table.specs.Machine.{Machine, open_op}
use Rattle.ranked_lines.specs.Rising.{sorted}
use Rattle.interleaving_core.specs.LookUps.{entries, free_copies}
use Rattle.programs.specs.Acts.{Acts, next_in}
use Rattle.schedules.specs.Parts.{Action, Does, Lists, Part, one, tries, delivery}
use Rattle.schedules.specs.Schedules.{Schedule}
use Rattle.schedules.specs.RoundSchedule.{numbers_in_flight, step_action}

-- an entry of a list of events
pub data Choice : Type 0 where
  -- one action
  Makes : Action → Choice
  -- the eviction of a line, before which the lines are listed
  Evicts : Event → Choice
  -- a core attempts its open operation; if there is no place for its line, a copy goes
  Tries : ℕ → Choice
  -- the message with this number is delivered; if it is held, a line leaves its bank if that makes room
  Delivers : ℕ → Choice
  -- nothing: the list is empty
  Nothing : Choice

-- an advance of each core
abbrev pub advances : Machine → List Choice
advances m = map (λ core. Makes (Does (event.Advance core))) (range_with_len 0 m.config.cores)

-- an event for each line of each of n holders of lines, both in rising order
abbrev pub line_events : (ℕ → ℕ → Event) → (ℕ → List ℕ) → ℕ → List Choice
line_events eviction lines holders =
    flat_map (λ holder. map (λ line. Evicts (eviction holder line)) (sorted (lines holder))) (range_with_len 0 holders)

-- an eviction of each copy that isn't pinned, and of each line that a bank has Shared or Exclusive
abbrev pub cache_evictions : Machine → List Choice
cache_evictions m = line_events event.EvictCache (free_copies m) m.config.cores

abbrev pub bank_evictions : Machine → List Choice
bank_evictions m = line_events event.EvictBank (entries m) m.config.banks

-- a core without an open operation does its program's next step; one that has no request out attempts its operation
abbrev pub core_step : ℕ → Option (Op × Bool) → Option Step → List Choice
core_step core None None = []
core_step core None (Some next) = Makes (step_action core next) ∷ []
core_step core (Some x) next = if x.1 then [] else Tries core ∷ []

-- a step of each core that has one, and a delivery of each message in flight, by rising number
abbrev pub core_steps : {P : Type 0} → Acts P → Machine → List P → ℕ → List Choice
core_steps acts m programs cores =
    flat_map (λ core. core_step core (open_op m core) (next_in acts programs core)) (range_with_len 0 cores)

abbrev pub steps : {P : Type 0} → Acts P → Machine → List P → List Choice
steps acts m programs =
    core_steps acts m programs m.config.cores ++ map (λ number. Delivers number) (numbers_in_flight m)

-- of sixteen draws one is of an advance, one of each kind of eviction, and thirteen of a step
abbrev pub drawn_list : {P : Type 0} → Acts P → Machine → List P → ℕ → List Choice
drawn_list acts m programs zero = advances m
drawn_list acts m programs (suc zero) = cache_evictions m
drawn_list acts m programs (suc (suc zero)) = bank_evictions m
drawn_list acts m programs (suc (suc (suc k))) = steps acts m programs

-- the entry at a number, modulo the list's length; an empty list has none
abbrev pub choice_at : List Choice → ℕ → Choice
choice_at choices b = get_or choices (b % length choices) Nothing

-- what an entry makes, with the eviction that follows
abbrev pub chosen : {P : Type 0} → Acts P → Choice → Part P
chosen acts (Makes action) s = one action s
chosen acts (Evicts e) s = Lists ∷ Does e ∷ []
chosen acts (Tries core) s = tries acts core s
chosen acts (Delivers number) s = delivery acts false number s
chosen acts Nothing s = []

-- the first word draws the list, the second one its entry
abbrev pub drawn : {P : Type 0} → Acts P → ℕ → ℕ → Part P
drawn acts a b s = chosen acts (choice_at (drawn_list acts s.machine s.programs (a % 16)) b) s

-- a generator once a turn has drawn its two words
abbrev pub two_drawn : Lcg → Lcg
two_drawn generator = (pcg32 (pcg32 generator).1).1

-- two words are drawn when a turn begins; a seeded run never stalls
abbrev pub seeded : {P : Type 0} → Acts P → Schedule P Lcg
seeded acts = record {
  turn = λ generator. let a = pcg32 generator in let b = pcg32 a.1 in drawn acts a.0 b.0;
  next = two_drawn;
  stalls = false;
}

-- before the first turn
abbrev pub of_seed : ℕ → Lcg
of_seed seed = pcg32_of_seed (pcg32_seed 16 seed)

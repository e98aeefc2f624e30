-- A run in pieces before its first turn: empty lists, on a machine without an open operation.
use Rattle.std.proofs.Common.{◌≡◌, ℕ, zero, suc, ◌+◌, ◌&&◌, is_none, Bool, true, false, cond, List, [], ◌∷◌, length}
use Rattle.std.proofs.Common.{Option, None, inl, inr, refl, ap, ap₂, arith}
use Rattle.std.specs.Prelude.{replicate, slice_get}
use Rattle.std.specs.Ordering.{nat_cmp}
use Rattle.std.specs.FinMap.{FinMap}
use Rattle.std.proofs.lemmas.List.{length-replicate}
use Rattle.physiological_order.specs.declared.operation.Op.{Op}
use Rattle.machine_table.specs.declared.config.Config.{Config}
use Rattle.machine_table.specs.Machine.{Machine, open_op, open_op_of}
use Rattle.machine_table.specs.Opening.{at_start, open_core, row}
use Rattle.programs.specs.declared.ends.End.TheVariants.{AllDone, TurnsUsed}
use Rattle.programs.specs.declared.steps.Step.{Step}
use Rattle.programs.specs.Acts.{next_in}
use Rattle.schedules.specs.declared.policy.Policy.{Policy}
use Rattle.schedules.specs.declared.policy.Policy.TheVariants.{Rounds, FairRounds, Seed}
use Rattle.schedules.specs.LongerLists.{GoesOnBy, end_before, joined, step_acts}
use Rattle.schedules.specs.Policies.{EndsBy}
use Rattle.schedules.specs.RoundSchedule.{no_round, rounds}
use Rattle.schedules.specs.Runs.{Ended, are_over, initial_position, opened, plan_of, run}
use Rattle.schedules.specs.Schedules.{Schedule}
use Rattle.schedules.specs.SeedSchedule.{of_seed, seeded}
use Rattle.schedules.proofs.LongerRuns.{steps_behind}
use Rattle.schedules.proofs.RunsGoingOn.{goes_on_at_first}

none_open : (config : Config) (start n k : ℕ) → open_op_of (slice_get (row (open_core config) start n) k) ≡ None
none_open config start zero k = refl
none_open config start (suc n) zero = refl
none_open config start (suc n) (suc k) = none_open config (start + 1) n k

pub opens_idle : (config : Config) (memory : FinMap nat_cmp ℕ) (core : ℕ) → open_op (at_start config memory) core ≡ None
opens_idle config memory core = none_open config 0 config.cores core

-- an empty list for each core
abbrev empties : ℕ → List (List Step)
empties n = replicate n []

pub all_behind : (behind : List (List Step)) → joined (empties (length behind)) behind ≡ behind
all_behind [] = refl
all_behind (list ∷ behind) = ap (λ (lists : List (List Step)). list ∷ lists) (all_behind behind)

none_next : (n core : ℕ) → next_in step_acts (empties n) core ≡ None
none_next zero core = refl
none_next (suc n) zero = refl
none_next (suc n) (suc core) = none_next n core

module _ (keeps : Bool) (m : Machine) (idle : (core : ℕ) → open_op m core ≡ None) where
  over : (n cores : ℕ) → are_over step_acts m (empties n) cores ≡ true
  over n zero = refl
  over n (suc cores) =
      ap₂ (λ (x y : Bool). x && y) (over n cores)
      (ap₂ (λ (o : Option (Op × Bool)) (next : Option Step). is_none o && is_none next) (idle cores)
      (none_next n cores))

  abbrev lists : List (List Step)
  lists = empties m.config.cores

  ends_first : {S : Type 0} (schedule : Schedule (List Step) S) (own : S) →
      Ended keeps (plan_of step_acts schedule 0) (initial_position step_acts m lists own) [] m lists AllDone
  unfolding run
  ends_first schedule own = record {
    last = opened m lists;
    machine_is = refl;
    programs_are = refl;
    ends = inl (record {
      standing_is = refl;
      events_are = refl;
      end_is = ap (λ (b : Bool). cond b AllDone TurnsUsed) (over m.config.cores m.config.cores);
    });
  }

  done_first : (policy : Policy) → GoesOnBy keeps step_acts policy 0 0 m lists [] m lists AllDone
  done_first Rounds = ends_first (rounds step_acts) (no_round false m.config.cores)
  done_first FairRounds = ends_first (rounds step_acts) (no_round true m.config.cores)
  done_first (Seed seed) = ends_first (seeded step_acts) (of_seed seed)

pub no_turns : (keeps : Bool) (policy : Policy) (m : Machine) (behind : List (List Step)) →
    ((core : ℕ) → open_op m core ≡ None) → length behind ≡ m.config.cores →
    let lists = joined (empties m.config.cores) behind in
    EndsBy keeps step_acts policy 0 m lists [] m lists (end_before behind AllDone)
no_turns keeps policy m behind idle count =
    let lists = empties m.config.cores in
    (goes_on_at_first step_acts keeps policy 0 m m (joined lists behind) (joined lists behind) []
    (end_before behind AllDone)).0
    (steps_behind keeps policy 0 0 m m lists behind lists [] AllDone (length-replicate m.config.cores []) count
    (λ core. inr (omega arith)) (done_first keeps m idle policy))

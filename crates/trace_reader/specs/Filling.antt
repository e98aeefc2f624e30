-- Steps of a text that are read ahead: each is met, and put into the queue of its core.
use Rattle.std.specs.Prelude.{◌≡◌, ℕ, max, ◌≤◌, ◌<◌, ◌⊎◌, Bool, true, false, List, [], ◌∷◌, ◌++◌, length, map}
use Rattle.std.specs.Prelude.{Option, Some, None}
use Rattle.std.specs.FinMap.{FinMap}
use Rattle.std.specs.Ordering.{nat_cmp}
use Rattle.programs.specs.declared.steps.Step.{Step}
use Rattle.trace_reader.specs.declared.read_ahead.AheadError.{AheadError}
use Rattle.trace_reader.specs.declared.read_ahead.AheadError.TheVariants.{Text, NoQueue, NoMemory}
use Rattle.trace_reader.specs.declared.step_streams.StepStream.{StepStream}
use Rattle.trace_reader.specs.Steps.{cores_of, lane, named, steps_of}
use Rattle.trace_reader.specs.Streams.{Interrupts, StepsTold, Yields}

-- What is read ahead of a text: its reader, the steps that wait for each core, the greatest core that was met plus 1,
-- and the words that were named, if these are asked for.
pub record AheadState : Type 0 where
  pub stream : StepStream
  pub queues : List (List Step)
  pub met : ℕ
  pub words : FinMap nat_cmp ℕ
  pub names : Bool

-- steps with their cores, without the numbers of their lines
abbrev pub unnumbered : List (ℕ × (ℕ × Step)) → List (ℕ × Step)
unnumbered taken = map (λ one. one.1) taken

-- what a core's queue has, once these steps were put behind those that it had
abbrev pub queued : List (List Step) → List (ℕ × (ℕ × Step)) → ℕ → List Step
queued queues taken core = lane queues core ++ steps_of core (unnumbered taken)

-- there are as many queues as before, and each has the steps of its core behind those that it had; no core without a
-- queue has a step among these
abbrev pub AreQueued : List (List Step) → List (List Step) → List (ℕ × (ℕ × Step)) → Type 0
AreQueued old new taken = (length new ≡ length old) × ((core : ℕ) → lane new core ≡ queued old taken core)

-- the same if the steps are kept; else the queues stay as they are
abbrev pub AreKept : (keeps : Bool) → List (List Step) → List (List Step) → List (ℕ × (ℕ × Step)) → Type 0
AreKept true old new taken = AreQueued old new taken
AreKept false old new taken = new ≡ old

-- What stays of steps that were read: they were met, and stand in their cores' queues if they are kept. Each is of a
-- core that has a queue.
pub record HasTaken (keeps : Bool) (old new : AheadState) (taken : List (ℕ × (ℕ × Step))) : Type 0 where
  pub queued : AreKept keeps old.queues new.queues taken
  pub met : new.met ≡ max old.met (cores_of (unnumbered taken))
  pub words : new.words ≡ named old.names old.words (unnumbered taken)
  pub names : new.names ≡ old.names
  pub few : cores_of (unnumbered taken) ≤ length old.queues

-- of two values that are to come, the first yields one step more than the second, and it was taken
abbrev pub HasTakenOne : (keeps : Bool) → Option StepsTold → Option StepsTold → AheadState → AheadState → Type 0
HasTakenOne keeps before after old new = (one : ℕ × (ℕ × Step)) × Yields before after (one ∷ [])
    × HasTaken keeps old new (one ∷ [])

-- a core's queue has no step
abbrev pub HasEmpty : ℕ → (ℕ → List Step) → Type 0
HasEmpty queues steps = (core : ℕ) × (core < queues) × (steps core ≡ [])

-- fewer steps were taken than asked for, or a queue has none behind those that it had
abbrev pub AreTooFew : ℕ → List (List Step) → List (ℕ × (ℕ × Step)) → Type 0
AreTooFew wanted old taken = (length taken < wanted) ⊎ HasEmpty (length old) (queued old taken)

-- no step is taken but while those before it are too few
abbrev pub AreNeeded : ℕ → List (List Step) → List (ℕ × (ℕ × Step)) → Type 0
AreNeeded wanted old taken = (taken ≡ []) ⊎ ((front : List (ℕ × (ℕ × Step))) × (last : ℕ × (ℕ × Step))
    × (taken ≡ front ++ last ∷ []) × AreTooFew wanted old front)

-- this holds of the next step to come, where it is known
abbrev pub ComesFirst : Option StepsTold → (ℕ × (ℕ × Step) → Type 0) → Type 0
ComesFirst None P = Unit {0}
ComesFirst (Some told) P = (one : ℕ × (ℕ × Step)) × (later : List (ℕ × (ℕ × Step))) × (told.0 ≡ one ∷ later) × P one

-- Why reading ahead ended. No step is told; or the next step, which stays, is of a core without a queue, and this is
-- its line; or there is no memory for it.
abbrev pub Stops : ℕ → ℕ → ℕ → Option StepsTold → AheadError → Type 0
Stops queues old new to_come (Text e) = Interrupts old new to_come e
Stops queues old new to_come (NoQueue line) =
    (new ≡ old) × ComesFirst to_come (λ one. (one.0 ≡ line) × (queues ≤ one.1.0))
Stops queues old new to_come NoMemory = (new ≡ old) × ComesFirst to_come (λ one. one.1.0 < queues)

-- Workers of a batch.
use Rattle.std.specs.Prelude.{◌≡◌, ◌⊎◌, ◌<◌, ◌≤◌, ◌+◌, ◌++◌, ◌∷◌, ℕ, List, [], map, None, Some}
use Rattle.std.specs.Int.{div_ceil}
use Rattle.std.specs.VecDeque.{deque_capacity}
use Rattle.drawn_numbers.specs.declared.numbers.Numbers.{Numbers}
use Rattle.drawn_numbers.specs.Drawers.{IsDrawerOf}
use Rattle.shared_jobs.specs.declared.workers.Stop.{Stop}
use Rattle.shared_jobs.specs.declared.workers.Stop.TheVariants as stop
use Rattle.shared_jobs.specs.declared.workers.Worker.{Worker}
use Rattle.shared_jobs.specs.Results.{AllGiven, AreOfJobsBelow}

-- the worker claims jobs by these numbers, and each of its results is that of a job below the count
abbrev pub IsAtWork : {X : Type 0} → Numbers → (ℕ → X → Type 0) → ℕ → Worker X → Type 0
IsAtWork numbers gives count w =
    IsDrawerOf numbers w.drawer × AreOfJobsBelow count w.results.items × AllGiven gives w.results.items

-- the worker can claim jobs by these numbers, has drawn none of them, has no result yet, and hasn't stopped
abbrev pub IsNewWorker : {X : Type 0} → Numbers → Worker X → Type 0
IsNewWorker numbers w =
    IsDrawerOf numbers w.drawer × (w.results.items ≡ []) × (w.drawer.drawn.items ≡ []) × (w.stop ≡ None)

-- The worker has room for one result more than an equal share of the jobs: it has a place before it learns that no job
-- is left. It has room for none if that memory was refused.
abbrev pub HasShare : {X : Type 0} → ℕ → ℕ → Worker X → Type 0
HasShare count workers w = (deque_capacity w.results ≡ div_ceil count workers + 1) ⊎ (deque_capacity w.results ≡ 0)

-- the numbers that the worker drew are those of its results, in order, and then these
abbrev pub HasDone : {X : Type 0} → Worker X → List ℕ → Type 0
HasDone w more = w.drawer.drawn.items ≡ map (λ p. p.0) w.results.items ++ more

-- Where the worker stopped. It has done all jobs that it claimed, and drew a number that is no job's, or had no place
-- for one more result. Or it was refused something else, and left the last job that it claimed undone, or none.
abbrev pub HasStopped : {X : Type 0} → ℕ → Stop → Worker X → Type 0
HasStopped count stop.NoMoreJobs w = (number : ℕ) × (count ≤ number) × HasDone w (number ∷ [])
HasStopped count stop.NoPlace w = HasDone w []
HasStopped count stop.Refused w = HasDone w [] ⊎ ((number : ℕ) × (number < count) × HasDone w (number ∷ []))

-- the worker has stopped, and says why
pub record HasEnded {X : Type 0} (count : ℕ) (w : Worker X) : Type 0 where
  pub stop : Stop
  pub said : w.stop ≡ Some stop
  pub so : HasStopped count stop w

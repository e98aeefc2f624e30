-- The report on every end of a litmus test, and why a text has none.
use Rattle.std.specs.Prelude.{◌≡◌, ◌⊎◌, ℕ, ◌≤◌, Bool, true, List}
use Rattle.std.specs.List.{Contains, IsDistinct}
use Rattle.std.specs.List.Sorted.{IsSorted}
use Rattle.std.specs.Cmp.Lexicographic.{slice_cmp}
use Rattle.std.specs.Ordering.{nat_cmp}
use Rattle.std.specs.Str.{bytes_eq}
use Rattle.litmus_reader.specs.Grammar.{IsTest}
use Rattle.litmus_reader.specs.Litmus.{Litmus}
use Rattle.run_options.specs.declared.options.EndsOptions.{EndsOptions}
use Rattle.run_results.specs.declared.results.RunError.{RunError}
use Rattle.run_results.specs.declared.results.RunError.TheVariants.{NoMemory, TooManyStates}
use Rattle.sequential_ends.specs.Every.{values_in, CountsStates, Every, IsTooMany}
use Rattle.sequential_ends.specs.Layers.{kept_at}
use Rattle.sequential_ends.specs.Orders.{AreEndOrders}
use Rattle.sequential_machine.specs.SequentialMachine.{IsOutcome}
use Rattle.report.specs.EveryText.{every_text}
use Rattle.report.specs.Layouts.{layout_of}
use Rattle.report.specs.Litmus.{HasNoTest, ReadingAllocates}

-- an end is listed exactly if it is an outcome of the test; they rise, each once, and the points that were met are
-- counted, of which at most so many were kept at once; if orders are asked for, each end has one that leads there
pub record ListsEnds (test : Litmus) (options : EndsOptions) (every : Every) : Type 0 where
  pub outcomes : (values : List ℕ) → Contains (values_in every) values → IsOutcome test values
  pub all : (values : List ℕ) → IsOutcome test values → Contains (values_in every) values
  pub rising : IsSorted (slice_cmp nat_cmp) (values_in every)
  pub once : IsDistinct bytes_eq (values_in every)
  pub states : CountsStates test every.states
  pub few : (k : ℕ) → kept_at test k ≤ options.most_states
  pub orders : AreEndOrders options.orders test every.ends

-- the bytes are the text of a test, and the text lists its ends; that is always all
pub record IsEndsReport (options : EndsOptions) (bytes : List ℕ) (all_done : Bool) (text : List ℕ) : Type 0 where
  pub test : Litmus
  pub every : Every
  pub is_test : IsTest bytes test
  pub lists : ListsEnds test options every
  pub text_is : text ≡ every_text (layout_of options.json) test every options.orders
  pub done : all_done ≡ true

-- why bytes have no list of ends: they are no test, or it has a layer that has more points with the next
abbrev pub HasNoEnds : EndsOptions → List ℕ → RunError → Type 0
HasNoEnds options bytes (TooManyStates most enough) =
    (most ≡ options.most_states) × (test : Litmus) × IsTest bytes test × IsTooMany test most enough
HasNoEnds options bytes e = HasNoTest bytes e

-- why a text in memory has no list of ends; NoMemory only if reading it allocates, or it is a test
abbrev pub HasNoEndsInMemory : EndsOptions → List ℕ → RunError → Type 0
HasNoEndsInMemory options bytes NoMemory = ReadingAllocates bytes ⊎ ((test : Litmus) × IsTest bytes test)
HasNoEndsInMemory options bytes e = HasNoEnds options bytes e

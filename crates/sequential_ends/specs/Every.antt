-- Every end of a test, in rising order.
use Rattle.std.specs.Prelude.{◌≡◌, ℕ, ◌<◌, ◌≤◌, ◌+◌, ◌-◌, ◌*◌, ◌^◌, min, List, [], length}
use Rattle.litmus_reader.specs.Litmus.{Litmus}
use Rattle.sequential_ends.specs.Rows.{rows_in}
use Rattle.sequential_ends.specs.Layers.{layer, kept_at, states_before}

pub record Every : Type 0 where
  -- for each end the values of the condition's names, and an order of the threads' turns
  pub ends : List (List ℕ × List ℕ)
  -- how many points were met
  pub states : ℕ

abbrev pub values_in : Every → List (List ℕ)
values_in every = rows_in every.ends

-- a layer without points is the last, and so many points are in those before it
pub record CountsStates (test : Litmus) (states : ℕ) : Type 0 where
  pub last : ℕ
  pub none_left : layer test last ≡ []
  -- 2^64 - 1 stands for more
  pub count : states ≡ min (states_before test last) (2 ^ 64 - 1)

-- Some layer and the next have more points than this. So many are enough for the first such layer and the next: those
-- of the layer, and one more of each of its points for each thread.
pub record IsTooMany (test : Litmus) (most enough : ℕ) : Type 0 where
  pub stop : ℕ
  pub before : (k : ℕ) → k < stop → kept_at test k ≤ most
  pub over : most < kept_at test stop
  -- 2^64 - 1 stands for more
  pub enough_is : enough ≡ min (length (layer test stop) * (1 + test.threads)) (2 ^ 64 - 1)
  pub fits : min (kept_at test stop) (2 ^ 64 - 1) ≤ enough
  pub greater : most < enough

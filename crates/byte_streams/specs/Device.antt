-- What a read and a write do, and that a failure is counted.
use Rattle.std.specs.Prelude.{◌≡◌, ℕ, suc, ◌<◌, ◌≤◌, List, [], ◌++◌, length, take, Option, Some, None, Result, Ok}
use Rattle.std.specs.Prelude.{Err}
use Rattle.byte_streams.specs.declared.device.DeviceError.{DeviceError}

-- known bytes begin with these, and lose them
abbrev pub Loses : Option (List ℕ) → Option (List ℕ) → List ℕ → Type 0
Loses None new bytes = Unit {0}
Loses (Some old) None bytes = ⊥
Loses (Some old) (Some new) bytes = old ≡ bytes ++ new

abbrev pub AtEnd : Option (List ℕ) → Type 0
AtEnd None = Unit {0}
AtEnd (Some bytes) = bytes ≡ []

-- n bytes came, which are the buffer's first; none only at the end or without room
abbrev pub GivesBytes : Option (List ℕ) → Option (List ℕ) → Result ℕ DeviceError → List ℕ → Type 0
GivesBytes old new (Ok n) buffer =
    (n ≤ length buffer) × Loses old new (take n buffer) × (n ≡ 0 → 0 < length buffer → AtEnd old)
GivesBytes old new (Err e) buffer = Loses old new []

-- known bytes grow by these
abbrev pub Grows : Option (List ℕ) → Option (List ℕ) → List ℕ → Type 0
Grows None new bytes = Unit {0}
Grows (Some old) None bytes = ⊥
Grows (Some old) (Some new) bytes = new ≡ old ++ bytes

-- the first n bytes were written; n is 0 only if there are none
abbrev pub TakesBytes : Option (List ℕ) → Option (List ℕ) → Result ℕ DeviceError → List ℕ → Type 0
TakesBytes old new (Ok n) bytes = (n ≤ length bytes) × Grows old new (take n bytes) × (0 < length bytes → 0 < n)
TakesBytes old new (Err e) bytes = Grows old new []

-- a failure is counted, and nothing else
abbrev pub Counts : {A : Type 0} → ℕ → ℕ → Result A DeviceError → Type 0
Counts old new (Ok x) = new ≡ old
Counts old new (Err e) = new ≡ suc old

-- What an owner holds, if it holds something.
use Rattle.std.specs.Prelude.{◌≡◌, Option, Some, None, IsSome}
use Rattle.std.proofs.Common.{refl}
use mathlib.Core.Bool.{false≢true}

pub held_value : {A : Type 0} (held : Option A) → IsSome held → (value : A) × held ≡ Some value
held_value None full = absurd (false≢true full)
held_value (Some value) full = (value, refl)

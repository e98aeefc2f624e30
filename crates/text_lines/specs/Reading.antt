-- Reading from left to right, up to the first fault.
use Rattle.std.specs.Prelude.{Option, Some, None, Result, Ok, Err}

-- what is read next, unless a fault was met before
infixl 10 ◌>>=◌
abbrev pub ◌>>=◌ : {E A B : Type 0} → Result A E → (A → Result B E) → Result B E
(Ok x) >>= f = f x
(Err e) >>= f = Err e

-- what is read of something that must be there; this fault if it isn't
abbrev pub found : {E A B : Type 0} → E → Option A → (A → Result B E) → Result B E
found fault (Some x) f = f x
found fault None f = Err fault

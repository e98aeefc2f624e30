-- What the code's values stand for, as reading gives it.
use Rattle.std.specs.Prelude.{◌≡◌, ℕ, List, Result, Ok, Err}
use Rattle.trace_lines.specs.declared.errors.Kind.{Kind}
use Rattle.trace_lines.specs.Fields.{fields_of}
use denote.Bor.{Bor}

-- What a function returned, seen by view, is what reading gives.
abbrev pub GivesViewed : {X Y : Type 0} → (X → Y) → Result X Kind → Result Y Kind → Type 0
GivesViewed view (Ok x) read = read ≡ Ok (view x)
GivesViewed view (Err e) read = read ≡ Err e

-- what is read, and the fields after it
abbrev pub view_fields_read : {X : Type 0} → X × Bor (List ℕ) → X × List (List ℕ)
view_fields_read read = (read.0, fields_of read.1.now)

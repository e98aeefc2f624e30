-- What a core's seat and its program do in turns: the program gave the operations, one after the other, and received
-- what each completed one did.
use Rattle.std.specs.Prelude.{◌≡◌, ℕ, List, [], ◌∷◌, ◌++◌, length, Option, Some, None, IfSome, Result, Ok, Err}
use Rattle.std.specs.Prelude.{slice_get}
use Rattle.physiological_order.specs.declared.operation.Op.{Op}
use Rattle.physiological_order.specs.declared.operation.Record.{Record}
use Rattle.machine_table.specs.declared.event.Refusal.{Refusal}
use Rattle.mailboxes.specs.declared.core_seat.CoreSeat.{CoreSeat}
use Rattle.programs.specs.declared.steps.Step.TheVariants as step
use Rattle.programs.specs.Acts.{Acts}
use Rattle.programs.specs.Performs.{Performs}

-- the seat keeps its number, its records and its open operation
pub record SameWork (p q : CoreSeat) : Type 0 where
  pub number : q.mail.number ≡ p.mail.number
  pub records : q.records.items ≡ p.records.items
  pub open_op : q.part.core.open_op ≡ p.part.core.open_op

-- the seat has no open operation, and is issued this one, which is open then
pub record OpensWork (op : Op) (p q : CoreSeat) : Type 0 where
  pub number : q.mail.number ≡ p.mail.number
  pub records : q.records.items ≡ p.records.items
  pub before : p.part.core.open_op ≡ None
  pub after : q.part.core.open_op ≡ Some op

-- the seat completes its open operation, and has a record more
pub record EndsWork (r : Record) (p q : CoreSeat) : Type 0 where
  pub number : q.mail.number ≡ p.mail.number
  pub records : q.records.items ≡ p.records.items ++ r ∷ []
  pub before : p.part.core.open_op ≡ Some r.op
  pub after : q.part.core.open_op ≡ None

-- an attempt completes the open operation, or leaves the work as it is
abbrev pub AttemptsWork : Result (Option Record) Refusal → CoreSeat → CoreSeat → Type 0
AttemptsWork (Ok (Some r)) p q = EndsWork r p q
AttemptsWork (Ok None) p q = SameWork p q
AttemptsWork (Err refusal) p q = SameWork p q

-- an issue opens the operation, or leaves the work as it is
abbrev pub IssuesWork : Op → Result (Unit {0}) Refusal → CoreSeat → CoreSeat → Type 0
IssuesWork op (Ok done) p q = OpensWork op p q
IssuesWork op (Err refusal) p q = SameWork p q

module _ {P : Type 0} (acts : Acts P) where
  -- an open operation is the program's next step
  abbrev pub IsAhead : CoreSeat → P → Type 0
  IsAhead p program = IfSome p.part.core.open_op (λ op. acts.next program ≡ Some (step.Op op))

  -- there is one program a core's seat, and each of them is so
  pub record AreAhead (cores : List CoreSeat) (programs : List P) : Type 0 where
    pub long : length programs ≡ length cores
    pub each : (i : ℕ) (p : CoreSeat) (a : P) → slice_get cores i ≡ Some p → slice_get programs i ≡ Some a →
        IsAhead p a

  -- A core's seat and its program, p and `before`, are q and `after` now: the seat keeps its number. It has these
  -- records more; their operations are those that the program gave, and the program received what each did. An
  -- operation that is open is the program's next step.
  pub record Plays (p : CoreSeat) (before : P) (q : CoreSeat) (after : P) : Type 0 where
    pub number : q.mail.number ≡ p.mail.number
    pub added : List Record
    pub records : q.records.items ≡ p.records.items ++ added
    pub performs : Performs acts added before after
    pub ahead : IsAhead q after

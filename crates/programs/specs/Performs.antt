-- What a program did: it gave operations, one after the other, and received what each of them did.
use Rattle.std.specs.Prelude.{◌≡◌, List, [], ◌∷◌, Option, Some, None, IfSome}
use Rattle.physiological_order.specs.declared.operation.Op.{Op}
use Rattle.physiological_order.specs.declared.operation.Record.{Record}
use Rattle.programs.specs.declared.steps.Step.TheVariants as step
use Rattle.programs.specs.Acts.{Acts}

-- a program gave these records' operations, one after the other, and received what each did; in between it advanced,
-- any number of times; it is now this one
pub data Performs {P : Type 0} (acts : Acts P) : List Record → P → P → Type 0 where
  rests : {p : P} → Performs acts [] p p
  advances : {p q : P} {rs : List Record} → acts.next p ≡ Some step.Advance → Performs acts rs (acts.done p None) q →
      Performs acts rs p q
  does : {p q : P} {r : Record} {rs : List Record} → acts.next p ≡ Some (step.Op r.op) →
      Performs acts rs (acts.done p r.received) q → Performs acts (r ∷ rs) p q

-- A program gave the operations of these records, one after the other, received what each did, and is now this one. If
-- an operation is still open, that is its next.
pub record IsTold {P : Type 0} (acts : Acts P) (added : List Record) (still_open : Option Op) (before : P)
    (after : Option P) : Type 0 where
  pub now : P
  pub is_now : after ≡ Some now
  pub performs : Performs acts added before now
  pub ahead : IfSome still_open (λ op. acts.next now ≡ Some (step.Op op))

-- The program of a core, if it has one, gave the operations of the core's records and received what they did. A core
-- without a program has no records, and no open operation.
abbrev pub Told : {P : Type 0} → Acts P → List Record → Option Op → Option P → Option P → Type 0
Told acts added still_open None after = (added ≡ []) × (still_open ≡ None) × (after ≡ None)
Told acts added still_open (Some before) after = IsTold acts added still_open before after

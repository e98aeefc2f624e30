-- A turn of a seat whose servings never answer a refusal never answers it either.
use Rattle.std.proofs.Common.{◌≡◌, Bool, true, false, Result, Ok, Err, ap, sym, ◌∙◌}
use Rattle.machine_table.specs.declared.event.Refusal.{Refusal}
use Rattle.inbox.specs.declared.answer.Served.{Served}
use Rattle.mailboxes.specs.declared.taken.Take.{Take}
use Rattle.mailboxes.specs.declared.taken.Take.TheVariants.{Taken, Nothing, HandFull}
use Rattle.mailboxes.specs.declared.turning.Turn.{Turn}
use Rattle.mailboxes.specs.Turns.{Ends, Goes, Rests, Turns, is_idle}

abbrev refusal_of : Refusal → Result Turn Refusal → Refusal
refusal_of other (Ok turn) = other
refusal_of other (Err r) = r

module _ {S : Type 0} (serves : Result Served Refusal → S → S → Type 0) (takes : Take → S → S → Type 0)
    (no : Refusal) (never : (result : Result Served Refusal) (p q : S) → serves result p q → result ≡ Err no → ⊥)
  where
    abbrev No : Result Served Refusal → Type 0
    No result = result ≡ Err no → ⊥

    ends : (t : Take) (before : Result Served Refusal) (p : S) (result : Result Served Refusal) (q : S) → No before →
        Ends serves takes t before p result q → No result
    ends Taken before p result q not e = never result p q e
    ends HandFull before p result q not e = never result p q e
    ends Nothing before p result q not e = λ is. not (sym e.0 ∙ is)

    goes : (idle : Bool) (before : Result Served Refusal) (p : S) (result : Result Served Refusal) (q : S) →
        No before → Goes serves takes idle before p result q → No result
    goes true before p result q not g = ends g.0 before g.1 result q not g.3
    goes false before p result q not g = λ is. not (sym g.0 ∙ is)

    rests : (full : Bool) (p : S) (result : Result Served Refusal) (q : S) → Rests serves takes full p result q →
        No result
    rests true p result q s = never result p q s
    rests false p result q s = goes (is_idle s.0) s.0 s.1 result q (never s.0 p s.1 s.2) s.3

    pub turns_never : (full : S → Bool) (puts : Bool → S → S → Type 0) (p : S) (result : Result Turn Refusal) (q : S) →
        Turns serves takes full puts p result q → result ≡ Err no → ⊥
    turns_never full puts p (Ok turn) q t is = let e = is in cc
    turns_never full puts p (Err r) q t is =
        rests (full t.1.0) t.1.0 (Err r) q t.1.2 (ap Err (ap (refusal_of no) is))

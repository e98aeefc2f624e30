-- What is read off the state of which a closed machine leaves the parts.
use Rattle.std.proofs.Common.{◌≡◌, ℕ, suc, ◌+◌, List, [], ◌∷◌, length, Some, refl, sym, ap, ◌∙◌, get_or, arith}
use Rattle.std.specs.Prelude.{slice_get}
use Rattle.physiological_order.specs.declared.operation.Record.{Record}
use Rattle.physiological_order.specs.StaleHits.{RisesByNumber}
use Rattle.std.proofs.lemmas.Option.{slice_get_read, slice_get_within}
use Rattle.seat_views.proofs.Lemmas.{some_is}
use Rattle.closed_machine.specs.declared.run.Run.{Run}
use Rattle.closed_machine.specs.declared.parts.CorePart.{CorePart}
use Rattle.closed_machine.specs.RunParts.{Parts, state_of_run}

-- records that stand at the places of their numbers rise
rises_from : (n : ℕ) (rs : List Record) →
    ((k : ℕ) (r : Record) → slice_get rs k ≡ Some r → r.number ≡ n + k) → RisesByNumber rs
rises_from n [] at = tt
rises_from n (r ∷ []) at = tt
rises_from n (r ∷ s ∷ rs) at = (
  (let a = at 0 r refl in let b = at 1 s refl in omega arith),
  rises_from (n + 1) (s ∷ rs)
      (λ k t e. let c = at (suc k) t e in omega arith),
)

pub rises : (rs : List Record) → ((k : ℕ) (r : Record) → slice_get rs k ≡ Some r → r.number ≡ k) → RisesByNumber rs
rises rs at = rises_from 0 rs (λ k r e. let a = at k r e in omega arith)

-- a core's part has what the core was issued
pub issued_is : (run : Run) (parts : Parts run) (core i : ℕ) (p : CorePart) → slice_get run.cores.items i ≡ Some p →
    p.number ≡ core → p.issued.items ≡ (state_of_run run parts).issued core
issued_is run parts core i p e n =
    sym (parts.of_cores i p e).issued ∙ ap (λ c. (state_of_run run parts).issued c) n

-- the part that is read at a place where one of a number stands
pub found : {A : Type 0} → (number : A → ℕ) (items : List A) (n at : ℕ) (p q : A) → slice_get items at ≡ Some p →
    number p ≡ n → q ≡ get_or items at q → (slice_get items at ≡ Some q) × (number q ≡ n)
found number items n at p q e is read =
    let here = slice_get_read items (length items) at q refl (slice_get_within items at p e) read in
    (here, ap number (some_is (sym here ∙ e)) ∙ is)

-- and so has the part that is read at a place where one of its number stands
pub found_issued : (run : Run) (parts : Parts run) (core at : ℕ) (p q : CorePart) →
    slice_get run.cores.items at ≡ Some p → p.number ≡ core → q ≡ get_or run.cores.items at q →
    q.issued.items ≡ (state_of_run run parts).issued core
found_issued run parts core at p q e n is =
    let here = found (λ (x : CorePart). x.number) run.cores.items core at p q e n is in
    issued_is run parts core at q here.0 here.1

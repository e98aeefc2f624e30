-- The last write before a record, of one record more.
use Rattle.std.proofs.Common.{List, [], ◌∷◌, ◌++◌, Option, Some, None, MatchOption, arith}
use Rattle.std.specs.Prelude.{⊤}
use Rattle.std.proofs.lemmas.List.Elements.{All-push, All-weaker, Contains-append_left, Contains-push}
use Rattle.physiological_order.specs.declared.operation.Record.{Record}
use Rattle.physiological_order.specs.Order.{Before, NotAfter}
use Rattle.tardis_c.specs.Writes.{IsEarlier, IsLastWrite}

not_after : (r w : Record) → (Before w r → ⊥) → NotAfter r w
not_after r w h = grind arith

not_after-itself : (r : Record) → NotAfter r r
not_after-itself r = grind arith

not_after-before : (s w r : Record) → NotAfter s w → Before w r → NotAfter s r
not_after-before s w r h k = grind arith

-- one that is no earlier write
pub other : (faulty r : Record) (rs : List Record) (last : Option Record) → (IsEarlier faulty r → ⊥) →
    IsLastWrite faulty rs last → IsLastWrite faulty (rs ++ r ∷ []) last
other faulty r rs None isnt h = All-push (λ s. IsEarlier faulty s → ⊥) rs r h isnt
other faulty r rs (Some w) isnt h = (
  Contains-append_left rs (r ∷ []) w h.0,
  h.1,
  All-push (λ s. IsEarlier faulty s → NotAfter s w) rs r h.2 (λ e. absurd (isnt e)),
)

-- one that doesn't come after the last one
pub sooner : (faulty r : Record) (rs : List Record) (last : Option Record) →
    (MatchOption last ⊤ (λ w. Before w r) → ⊥) → IsLastWrite faulty rs last →
    IsLastWrite faulty (rs ++ r ∷ []) last
sooner faulty r rs None isnt h = absurd (isnt tt)
sooner faulty r rs (Some w) isnt h = (
  Contains-append_left rs (r ∷ []) w h.0,
  h.1,
  All-push (λ s. IsEarlier faulty s → NotAfter s w) rs r h.2 (λ e. not_after r w isnt),
)

-- one that comes after it
pub later : (faulty r : Record) (rs : List Record) (last : Option Record) → IsEarlier faulty r →
    MatchOption last ⊤ (λ w. Before w r) → IsLastWrite faulty rs last →
    IsLastWrite faulty (rs ++ r ∷ []) (Some r)
later faulty r rs None is after h = (
  Contains-push rs r,
  is,
  All-push (λ s. IsEarlier faulty s → NotAfter s r) rs r
      (All-weaker (λ s. IsEarlier faulty s → ⊥) (λ s. IsEarlier faulty s → NotAfter s r)
      (λ s out e. absurd (out e)) rs h)
      (λ e. not_after-itself r),
)
later faulty r rs (Some w) is after h = (
  Contains-push rs r,
  is,
  All-push (λ s. IsEarlier faulty s → NotAfter s r) rs r
      (All-weaker (λ s. IsEarlier faulty s → NotAfter s w) (λ s. IsEarlier faulty s → NotAfter s r)
      (λ s le e. not_after-before s w r (le e) after) rs h.2)
      (λ e. not_after-itself r),
)

-- A place for a line stays where other lines of a cache are changed or leave.
use Rattle.std.proofs.Common.{◌≡◌, ◌≢◌, ℕ, ◌<◌, ◌≤◌, true, ltb, List, length, length-set, set, Some, arith, inl, inr}
use Rattle.std.proofs.Common.{mod-lt, rules}
use Rattle.std.proofs.lemmas.Bool.{cases_eq}
use Rattle.line_sets.specs.Order.{without, put_in_place}
use Rattle.line_sets.specs.SetTable.{Sets, set_at}
use Rattle.line_sets.proofs.Lemmas.{length-without_le, length-put_in_place, set_at-set_same, set_at-set_other}
use Rattle.private_cache.specs.declared.line_copy.LineCopy.{LineCopy}
use Rattle.private_cache.specs.CopyTable.{set_of, copy_of, place_for, with_changed, without_copy}
use Rattle.machine_theorem.proofs.Lookups.{change_now, drop_now}

-- a set is written with no more lines than it had
pub set_le : {X : Type 0} (sets : List (List (ℕ × X))) (i j : ℕ) (ps : List (ℕ × X)) → i < length sets →
    length ps ≤ length (set_at sets i) → length (set_at (set sets i ps) j) ≤ length (set_at sets j)
set_le sets i j ps within le = elim (cases_eq j i) [
  | inl e ↦ rw (e, set_at-set_same sets i ps within) le
  | inr ne ↦ rw (set_at-set_other sets i j ps ne) (omega arith)
]

module _ (cache : Sets LineCopy) (some : 0 < length cache.sets) (line k : ℕ) (other : k ≢ line)
    (place : place_for cache k ≡ true) where
  -- the line's set is written with no more lines than it had, and the copy of the other line stays
  place-kept : (ps : List (ℕ × LineCopy)) → length ps ≤ length (set_at cache.sets (set_of cache line)) →
      let new = record cache { sets = set cache.sets (set_of cache line) ps } in
      copy_of new k ≡ copy_of cache k → place_for new k ≡ true
  place-kept ps le same = search (rules, length-set, set_le, mod-lt)

  pub place-changed : (copy old : LineCopy) → copy_of cache line ≡ Some old →
      place_for (with_changed cache line copy) k ≡ true
  place-changed copy old there =
      place-kept (put_in_place (set_at cache.sets (set_of cache line)) line copy)
      (let n = length-put_in_place (set_at cache.sets (set_of cache line)) line copy in omega arith)
      ((change_now (λ j. j) cache.sets some line copy old there).there k other)

  pub place-without : place_for (without_copy cache line) k ≡ true
  place-without =
      cc (place-kept (without (set_at cache.sets (set_of cache line)) line) (length-without_le (set_at cache.sets
      (set_of cache line)) line) ((drop_now (λ j. j) cache.sets some line).there k other))

-- a copy is its own place
pub place-there : (cache : Sets LineCopy) (line : ℕ) (copy : LineCopy) → copy_of cache line ≡ Some copy →
    place_for cache line ≡ true
place-there cache line copy there = grind (arith, ltb (length (set_at cache.sets (set_of cache line))) cache.ways)

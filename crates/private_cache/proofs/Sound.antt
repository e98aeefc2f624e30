-- What a cache keeps when a copy is put, changed or taken out, and that a victim makes a place.
use Rattle.std.proofs.Common.{◌≡◌, ◌≢◌, ℕ, zero, suc, ◌<◌, ◌≤◌, ◌%◌, true, false, ltb, List, [], ◌∷◌, length}
use Rattle.std.proofs.Common.{replicate, Some, refl, sym, ap, ◌∙◌, arith, ⊎_elim, IsTrue}
use Rattle.std.specs.Option.{is_some}
use Rattle.std.proofs.lemmas.List.{length-replicate}
use Rattle.std.proofs.lemmas.Bool.{cases_eq, cond-true, eq-eqb, lt-ltb, or_right}
use Rattle.line_sets.specs.Order.{is_there, find, oldest, without}
use Rattle.line_sets.specs.SetTable.{Sets, set_at, look, put, put_within, drop_line, empty_sets}
use Rattle.line_sets.proofs.Lemmas.{length-without_there, set_at-set_same, look-put_other, look-put_other_set}
use Rattle.line_sets.proofs.Lemmas.{look-put_same}
use Rattle.line_sets.proofs.Lemmas.{look-put_within_other, look-put_within_other_set, look-drop_line_other}
use Rattle.line_sets.proofs.Lemmas.{look-drop_line_other_set, length-put, length-put_within, length-drop_line}
use Rattle.private_cache.specs.declared.line_copy.LineCopy.{LineCopy}
use Rattle.private_cache.specs.CopyTable.{set_of, copy_of, place_for, without_copy, first_line}
use Rattle.private_cache.specs.OwnSets.{InOwnSets, IsSound}

-- a change of one line in its own set
own :
    (sets new : List (List (ℕ × LineCopy))) (line : ℕ) → length new ≡ length sets →
    ((k j : ℕ) → j ≢ line → look new k j ≡ look sets k j) →
    ((k j : ℕ) → k ≢ line % length sets → look new k j ≡ look sets k j) → InOwnSets sets → InOwnSets new
own sets new line len others other_sets h = λ k j there.
    let as_before : look new k j ≡ look sets k j → j % length new ≡ k =
    λ same. rw len (h k j (sym (ap is_some same) ∙ there)) in
    ⊎_elim
    (λ (e : j ≡ line).
    ⊎_elim
    (λ (s : k ≡ line % length sets). rw (len, e) (sym s))
    (λ (d : k ≡ line % length sets → ⊥). as_before (other_sets k j d))
    (cases_eq k (line % length sets)))
    (λ (d : j ≡ line → ⊥). as_before (others k j d))
    (cases_eq j line)

below : (line n : ℕ) → 0 < n → line % n < n
below line n h = omega arith

pub sound-put :
    (cache new : Sets LineCopy) (set line : ℕ) (copy : LineCopy) → IsSound cache → set ≡ set_of cache line →
    new ≡ record cache { sets = put cache.sets set line copy } → IsSound new
sound-put cache new set line copy sound is e =
    let i : line % length cache.sets < length cache.sets = below line (length cache.sets) sound.some_sets in
    let len : length (put cache.sets (set_of cache line) line copy) ≡ length cache.sets =
    length-put cache.sets (set_of cache line) line copy in
    rw (e, is) (record {
      some_sets = rw len sound.some_sets;
      some_ways = sound.some_ways;
      own_sets = own cache.sets (put cache.sets (set_of cache line) line copy) line len
          (λ k j ne. look-put_other cache.sets (set_of cache line) line k j copy i ne)
          (λ k j ne. look-put_other_set cache.sets (set_of cache line) line k j copy ne)
          sound.own_sets;
    })

-- the line that is put has this copy
pub put-there :
    (cache new : Sets LineCopy) (set line : ℕ) (copy : LineCopy) → IsSound cache → set ≡ set_of cache line →
    new ≡ record cache { sets = put cache.sets set line copy } → copy_of new line ≡ Some copy
put-there cache new set line copy sound is e =
    rw (e, is) (rw (length-put cache.sets (set_of cache line) line copy) (look-put_same cache.sets (set_of cache line)
    line copy (below line (length cache.sets) sound.some_sets)))

pub sound-put_within :
    (cache new : Sets LineCopy) (set line : ℕ) (copy : LineCopy) → IsSound cache → set ≡ set_of cache line →
    new ≡ record cache { sets = put_within cache.sets set line copy } → IsSound new
sound-put_within cache new set line copy sound is e =
    let i : line % length cache.sets < length cache.sets = below line (length cache.sets) sound.some_sets in
    let len : length (put_within cache.sets (set_of cache line) line copy) ≡ length cache.sets =
    length-put_within cache.sets (set_of cache line) line copy in
    rw (e, is) (record {
      some_sets = rw len sound.some_sets;
      some_ways = sound.some_ways;
      own_sets = own cache.sets (put_within cache.sets (set_of cache line) line copy) line len
          (λ k j ne. look-put_within_other cache.sets (set_of cache line) line k j copy i ne)
          (λ k j ne. look-put_within_other_set cache.sets (set_of cache line) line k j copy ne)
          sound.own_sets;
    })

pub sound-drop_line :
    (cache new : Sets LineCopy) (set line : ℕ) → IsSound cache → set ≡ set_of cache line →
    new ≡ record cache { sets = drop_line cache.sets set line } → IsSound new
sound-drop_line cache new set line sound is e =
    let i : line % length cache.sets < length cache.sets = below line (length cache.sets) sound.some_sets in
    let len : length (drop_line cache.sets (set_of cache line) line) ≡ length cache.sets =
    length-drop_line cache.sets (set_of cache line) line in
    rw (e, is) (record {
      some_sets = rw len sound.some_sets;
      some_ways = sound.some_ways;
      own_sets = own cache.sets (drop_line cache.sets (set_of cache line) line) line len
          (λ k j ne. look-drop_line_other cache.sets (set_of cache line) line k j i ne)
          (λ k j ne. look-drop_line_other_set cache.sets (set_of cache line) line k j ne)
          sound.own_sets;
    })

-- the first line of a set is there
first-there : (ps : List (ℕ × LineCopy)) (line : ℕ) → first_line ps ≡ Some line → is_there ps line ≡ true
first-there [] line e = cc
first-there (p ∷ ps) line e =
    let same : p.0 ≡ line = cc in
    ap is_some (cond-true _ (Some p.1) (find ps line) (eq-eqb p.0 line same))

-- a victim has a copy, and without it there is a place for the line
pub victim-copy :
    (cache : Sets LineCopy) (line victim : ℕ) → IsSound cache →
    first_line (set_at cache.sets (set_of cache line)) ≡ Some victim →
    (set_of cache victim ≡ set_of cache line) × (is_some (copy_of cache victim) ≡ true)
victim-copy cache line victim sound e =
    let there : is_there (set_at cache.sets (set_of cache line)) victim ≡ true =
    first-there (set_at cache.sets (set_of cache line)) victim e in
    let same : set_of cache victim ≡ set_of cache line = sound.own_sets (set_of cache line) victim there in
    (same, rw same there)

pub victim-place :
    (cache : Sets LineCopy) (line victim : ℕ) → IsSound cache →
    length (set_at cache.sets (set_of cache line)) ≤ cache.ways →
    first_line (set_at cache.sets (set_of cache line)) ≡ Some victim →
    IsTrue (place_for (without_copy cache victim) line)
victim-place cache line victim sound fits e =
    let there : is_there (set_at cache.sets (set_of cache line)) victim ≡ true =
    first-there (set_at cache.sets (set_of cache line)) victim e in
    let same : set_of cache victim ≡ set_of cache line = sound.own_sets (set_of cache line) victim there in
    let len : length (drop_line cache.sets (set_of cache victim) victim) ≡ length cache.sets =
    length-drop_line cache.sets (set_of cache victim) victim in
    let i : set_of cache line < length cache.sets = below line (length cache.sets) sound.some_sets in
    let at : set_at (drop_line cache.sets (set_of cache victim) victim) (set_of cache line) ≡ without
    (set_at cache.sets (set_of cache line)) victim =
    rw same (set_at-set_same cache.sets (set_of cache line) (without (set_at cache.sets (set_of cache line)) victim)
    i) in
    let less : length (without (set_at cache.sets (set_of cache line)) victim) < cache.ways =
    omega (arith, length-without_there (set_at cache.sets (set_of cache line)) victim there) in
    or_right (is_there (set_at (drop_line cache.sets (set_of cache victim) victim)
    (line % length (drop_line cache.sets (set_of cache victim) victim))) line)
    (ltb (length (set_at (drop_line cache.sets (set_of cache victim) victim)
    (line % length (drop_line cache.sets (set_of cache victim) victim)))) cache.ways)
    (rw (len, at) (lt-ltb (length (without (set_at cache.sets (set_of cache line)) victim)) cache.ways less))

-- the first line of a set
first-oldest : (ps : List (ℕ × LineCopy)) (line : ℕ) → Some line ≡ oldest ps → first_line ps ≡ Some line
first-oldest [] line e = cc
first-oldest (p ∷ ps) line e = sym e

-- the first line of a full set, as the code reads it
pub record IsVictim (cache : Sets LineCopy) (line victim : ℕ) : Type 0 where
  pub there : is_some (copy_of cache victim) ≡ true
  pub makes_place : IsTrue (place_for (without_copy cache victim) line)

pub victim-first :
    (table cache : Sets LineCopy) (line set victim : ℕ) → table ≡ cache → IsSound table → set ≡ set_of cache line →
    length (set_at table.sets set) ≤ table.ways → Some victim ≡ oldest (set_at table.sets set) →
    IsVictim cache line victim
victim-first table cache line set victim view sound number within read =
    let sound_cache : IsSound cache = rw (← view) sound in
    let fits : length (set_at cache.sets (set_of cache line)) ≤ cache.ways = rw (← number, ← view) within in
    let first : first_line (set_at cache.sets (set_of cache line)) ≡ Some victim =
    first-oldest (set_at cache.sets (set_of cache line)) victim (rw (← number, ← view) read) in
    record {
      there = (victim-copy cache line victim sound_cache first).1;
      makes_place =
          victim-place cache line victim sound_cache fits first;
    }

-- Where the next look begins after a message was taken.
use Rattle.std.proofs.Common.{◌≡◌, ℕ, zero, suc, ◌+◌, ◌%◌, ◌<◌, inl, Bool, true, false, nat_lt, List, [], ◌∷◌}
use Rattle.std.proofs.Common.{◌++◌, Some, None, sym, ap, ◌∙◌, arith}
use Rattle.std.proofs.lemmas.Bool.{ltb-false, ltb-true}
use Rattle.std.proofs.lemmas.Nat.{mod_below}
use Rattle.std.proofs.Math.Nat.{mod-eq_of_lt, mod_self}
use Rattle.std.proofs.lemmas.Bool.Decides.{nat_tests}
use Rattle.std.proofs.lemmas.Grind.{common_steps}
use Rattle.mailboxes.specs.declared.mailbox.Mailbox.{Mailbox}
use Rattle.mailboxes.specs.declared.taken.Take.TheVariants.{Taken, Nothing, HandFull}
use Rattle.mailboxes.specs.BoxMoves.{hold}
use Rattle.mailboxes.specs.Places.{found_empty, incoming, incoming_count}
use Rattle.seat_edges.specs.TurnLaws.{IsNextGoingRound, TakesBegin, TakesMoveOn}

module _ (count place : ℕ) (within : place < count) where
  next : (b : Bool) → nat_lt (place + 1) count ≡ b → IsNextGoingRound count place ((place + 1) % count)
  next true e = let lt = ltb-true (place + 1) count e in inl (lt, mod-eq_of_lt lt)
  next false e = let q0 = ltb-false (place + 1) count e in let q1 = mod_self count in grind (arith, nat_tests, q0, q1)

pub moves_on : TakesMoveOn
moves_on z p q t = grind (arith, nat_tests, common_steps, mod_below, nat_lt, next)

-- Where a take looks first

module _ (p : Mailbox) (within : p.cursor < incoming_count p.cores p.banks p.number) where
  abbrev slot : ℕ → ℕ
  slot place = incoming p.cores p.banks p.number place

  abbrev count : ℕ
  count = incoming_count p.cores p.banks p.number

  abbrev empties : ℕ → List (ℕ × ℕ)
  empties n = found_empty p.cores p.banks p.number p.cursor n

  -- these looks begin at the cursor
  abbrev Begins : List (ℕ × ℕ) → Type 0
  Begins looks = (seen : ℕ) × (rest : List (ℕ × ℕ)) × (looks ≡ (slot p.cursor, seen) ∷ rest)

  at-cursor : (p.cursor + 0) % count ≡ p.cursor
  at-cursor = let none : p.cursor + 0 ≡ p.cursor = omega arith in ap (λ n. n % count) none ∙ mod-eq_of_lt within

  some-empty : (n : ℕ) → Begins (empties (suc n))
  some-empty zero = (0, [], ap (λ n. (slot n, 0) ∷ []) at-cursor)
  some-empty (suc n) =
      let before = some-empty n in
      let last : List (ℕ × ℕ) = (slot ((p.cursor + suc n) % count), 0) ∷ [] in
      (before.0, before.1 ++ last, ap (λ xs. xs ++ last) before.2)

  then-full : (n : ℕ) → Begins (empties n ++ (slot ((p.cursor + n) % count), 1) ∷ [])
  then-full zero = (1, [], ap (λ n. (slot n, 1) ∷ []) at-cursor)
  then-full (suc n) =
      let before = some-empty n in
      let last : List (ℕ × ℕ) = (slot ((p.cursor + suc n) % count), 1) ∷ [] in
      (before.0, before.1 ++ last, ap (λ xs. xs ++ last) before.2)

  all-empty : (n : ℕ) → 0 < n → Begins (empties n)
  all-empty zero some = absurd (omega (arith, some))
  all-empty (suc n) some = some-empty n

  looks-on : (q : Mailbox) (looks : List (ℕ × ℕ)) → (hold q).looks ≡ (hold p).looks ++ looks → Begins looks →
      (seen : ℕ) × (rest : List (ℕ × ℕ)) × ((hold q).looks ≡ (hold p).looks ++ (slot p.cursor, seen) ∷ rest)
  looks-on q looks e b = (b.0, b.1, e ∙ ap (λ xs. (hold p).looks ++ xs) b.2)

pub begins : TakesBegin
begins z p q Taken t empty within =
    let n = t.1.0 in
    let count = incoming_count p.cores p.banks p.number in
    looks-on p within q
    (found_empty p.cores p.banks p.number p.cursor n
    ++ (incoming p.cores p.banks p.number ((p.cursor + n) % count), 1) ∷ []) t.1.3.3 (then-full p within n)
begins z p q Nothing t empty within =
    let count = incoming_count p.cores p.banks p.number in
    looks-on p within q (found_empty p.cores p.banks p.number p.cursor count) t.1.0
    (all-empty p within count (omega (arith, within)))
begins z p q HandFull t empty within = absurd (let some : None ≡ Some t.0.0 = sym empty ∙ t.0.1 in cc)

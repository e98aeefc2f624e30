-- What is found in lists, tables and bags of messages after each change.
use Rattle.std.proofs.Common.{arith, ◌≡◌, ◌≢◌, ℕ, zero, suc, ◌%◌, ◌<◌, true, false, eqb, List, [], ◌∷◌, length, set}
use Rattle.std.proofs.Common.{Option, Some, None, refl, sym, ap, ◌∙◌, subst, ⊎_elim, is_some, mod-lt}
use Rattle.std.specs.List.{slice_get, AllByRecursion as Each}
use Rattle.std.proofs.lemmas.Bool.{cases_Bool, ne_eqb, eq-eqb, cond-true, cond-false}
use Rattle.network.specs.declared.message.Message.{Message}
use Rattle.network.specs.NumberedMessages.{at_number}
use Rattle.line_sets.specs.SetTable.{look, put, put_within, drop_line}
use Rattle.line_sets.proofs.Lemmas.{look-put_within_same, look-put_within_other, look-drop_line_other, length-drop_line}
use Rattle.line_sets.proofs.Lemmas.{look-put_same, look-put_other, look-drop_line_same, length-put, length-put_within}
use Rattle.protocol.proofs.Lemmas.{Some_injective}
use Rattle.machine_theorem.specs.View.{message_seen, messages_of}

-- lists
pub get-set_same : {X : Type 0} (xs : List X) (i : ℕ) (x y : X) → slice_get xs i ≡ Some y →
    slice_get (set xs i x) i ≡ Some x
get-set_same [] i x y h = absurd (cc)
get-set_same (z ∷ xs) zero x y h = refl
get-set_same (z ∷ xs) (suc i) x y h = get-set_same xs i x y h

pub get-set_other : {X : Type 0} (xs : List X) (i j : ℕ) (x : X) → j ≢ i → slice_get (set xs i x) j ≡ slice_get xs j
get-set_other [] i j x ne = refl
get-set_other (z ∷ xs) zero zero x ne = absurd (ne refl)
get-set_other (z ∷ xs) zero (suc j) x ne = refl
get-set_other (z ∷ xs) (suc i) zero x ne = refl
get-set_other (z ∷ xs) (suc i) (suc j) x ne = get-set_other xs i j x (λ e. ne (ap suc e))

pub each_at_number : (P : ℕ × Message → Type 0) (n : ℕ) (ms : List (ℕ × Message)) (m : Message) →
    at_number n ms ≡ Some m → Each P ms → ((k : ℕ) → P (k, m) → P (n, m)) → P (n, m)
each_at_number P n [] m h e any = absurd (cc)
each_at_number P n (x ∷ xs) m h e any =
    ⊎_elim
    (λ (t : eqb x.0 n ≡ true). any x.0 (subst (λ (y : Message). P (x.0, y))
    (Some_injective x.1 m (sym (cond-true (eqb x.0 n) (Some x.1) (at_number n xs) t) ∙ h)) e.0))
    (λ (f : eqb x.0 n ≡ false). each_at_number P n xs m (sym (cond-false (eqb x.0 n) (Some x.1) (at_number n xs) f)
    ∙ h) e.1 any)
    (cases_Bool (eqb x.0 n))

-- a table whose lines stand in sets by a number of theirs
module _ {X : Type 0} (home : ℕ → ℕ) where
  abbrev pub found : List (List (ℕ × X)) → ℕ → Option X
  found sets line = look sets (home line % length sets) line

  -- what there is of a line is now this, and what there is of the others stays
  pub record IsNow (sets new : List (List (ℕ × X))) (line : ℕ) (o : Option X) : Type 0 where
    pub some : 0 < length new
    pub here : found new line ≡ o
    pub there : (k : ℕ) → k ≢ line → found new k ≡ found sets k

  module _ (sets : List (List (ℕ × X))) (some : 0 < length sets) (line : ℕ) where
    abbrev pub set_of : ℕ
    set_of = home line % length sets

    within : set_of < length sets
    within = mod-lt (home line) some

    is_now : (new : List (List (ℕ × X))) (o : Option X) → length new ≡ length sets → look new set_of line ≡ o →
        ((i k : ℕ) → k ≢ line → look new i k ≡ look sets i k) → IsNow sets new line o
    is_now new o long here there = grind (arith, here, there)

    pub put_now : (x : X) → IsNow sets (put sets set_of line x) line (Some x)
    put_now x = is_now _ _ (length-put sets set_of line x) (look-put_same sets set_of line x within)
        (λ i k ne. look-put_other sets set_of line i k x within ne)

    pub change_now : (x y : X) → found sets line ≡ Some y → IsNow sets (put_within sets set_of line x) line (Some x)
    change_now x y there = is_now _ _ (length-put_within sets set_of line x)
        (look-put_within_same sets set_of line x within (ap is_some there))
        (λ i k ne. look-put_within_other sets set_of line i k x within ne)

    pub drop_now : IsNow sets (drop_line sets set_of line) line None
    drop_now = is_now _ _ (length-drop_line sets set_of line) (look-drop_line_same sets set_of line within)
        (λ i k ne. look-drop_line_other sets set_of line i k within ne)

-- the messages of a line, after one more
pub messages_here : (q : Message) (bag : List Message) →
    messages_of (q ∷ bag) q.line ≡ message_seen q ∷ messages_of bag q.line
messages_here q bag = cond-true (eqb q.line q.line) _ _ (eq-eqb q.line q.line refl)

pub messages_there : (q : Message) (bag : List Message) (k : ℕ) → k ≢ q.line →
    messages_of bag k ≡ messages_of (q ∷ bag) k
messages_there q bag k ne = sym (cond-false (eqb q.line k) _ _ (ne_eqb q.line k (λ e. ne (sym e))))

-- Points in rows.
use Rattle.std.proofs.Common.{◌≡◌, ℕ, zero, suc, ◌+◌, ◌-◌, ◌<◌, Bool, true, false, List, [], ◌∷◌, ◌++◌, length, map}
use Rattle.std.proofs.Common.{Result, Err, Option, Some, None, is_some, fold, ◌||◌, take, drop, refl, sym, ap, ap₂}
use Rattle.std.proofs.Common.{◌∙◌, subst, arith, length-append, append_assoc}
use Rattle.std.specs.Prelude.{slice_index_or, slice_get, replicate, option_map}
use Rattle.std.specs.List.{AllByRecursion as Each}
use Rattle.litmus_reader.specs.Litmus.{Litmus}
use Rattle.std.proofs.Math.Seq.{take-append_seam}
use Rattle.physiological_order.specs.declared.operation.Op.{Op}
use Rattle.sequential_machine.specs.Turns.{Point, value_for, words_after, with_received, turned}
use Rattle.sequential_machine.specs.Turns.{operation_at, thread_at, threads_at}
use Rattle.sequential_ends.specs.Packed.{packed, packed_lists}
use Rattle.std.specs.Str.{bytes_eq}
use Rattle.sequential_ends.specs.Rows.{rows_in, with_ordered, with_row}
use Rattle.sequential_ends.proofs.RowLists.{added_by, ordered_added}
use Rattle.sequential_ends.specs.Layers.{with_point, with_some, with_turns, has_turn}

pub zeros_next : (n : ℕ) → replicate {A = ℕ} (suc n) 0 ≡ replicate {A = ℕ} n 0 ++ 0 ∷ []
zeros_next zero = refl
zeros_next (suc n) = ap (λ (ws : List ℕ). 0 ∷ ws) (zeros_next n)

pub none_packed : (n : ℕ) → packed_lists (let lists : List (List ℕ) = replicate n [] in lists) ≡ replicate {A = ℕ} n 0
none_packed zero = refl
none_packed (suc n) = ap (λ (ws : List ℕ). 0 ∷ ws) (none_packed n)

-- the list of a thread, and what is behind it
pub list_there : (lists : List (List ℕ)) (t : ℕ) → t < length lists →
    packed_lists (drop t lists) ≡ length (slice_index_or lists t []) ∷ slice_index_or lists t []
    ++ packed_lists (drop (suc t) lists)
list_there [] t lt = absurd (omega (arith, lt))
list_there (vs ∷ lists) zero lt = refl
list_there (vs ∷ lists) (suc t) lt = list_there lists t (omega (arith, lt))

pub split_at : (lists : List (List ℕ)) (t : ℕ) → packed_lists lists ≡ packed_lists (take t lists)
    ++ packed_lists (drop t lists)
split_at lists zero = refl
split_at [] (suc t) = refl
split_at (vs ∷ lists) (suc t) =
    ap (λ (ws : List ℕ). length vs ∷ vs ++ ws) (split_at lists t)
    ∙ ap (λ (ws : List ℕ). length vs ∷ ws) (sym (append_assoc vs _ _))

-- what is behind the lists before a thread's, with one value more in its list
abbrev from_list : List (List ℕ) → ℕ → ℕ → List ℕ
from_list lists t v =
    (length (slice_index_or lists t []) + 1) ∷ slice_index_or lists t [] ++ v ∷ packed_lists (drop (suc t) lists)

received_packed : (lists : List (List ℕ)) (t v : ℕ) → t < length lists →
    packed_lists (with_received lists t v) ≡ packed_lists (take t lists) ++ from_list lists t v
received_packed [] t v lt = absurd (omega (arith, lt))
received_packed (vs ∷ lists) zero v lt =
    ap₂ (λ (n : ℕ) (ws : List ℕ). n ∷ ws) (length-append vs (v ∷ [])) (append_assoc vs (v ∷ []) (packed_lists lists))
received_packed (vs ∷ lists) (suc t) v lt =
    let before = packed_lists (take t lists) in
    let rest = from_list lists t v in
    ap (λ (ws : List ℕ). length vs ∷ vs ++ ws) (received_packed lists t v (omega (arith, lt)))
    ∙ ap (λ (ws : List ℕ). length vs ∷ ws) (sym (append_assoc vs before rest))

before_left : (lists left : List ℕ) (all : List (List ℕ)) (t : ℕ) → lists ≡ packed_lists all →
    left ≡ packed_lists (drop t all) → take (length lists - length left) lists ≡ packed_lists (take t all)
before_left lists left all t a b =
    let front = packed_lists (take t all) in
    let whole : lists ≡ front ++ left = a ∙ split_at all t ∙ ap (λ (ws : List ℕ). front ++ ws) (sym b) in
    let long = ap length whole ∙ length-append front left in
    let count : length lists - length left ≡ length front = omega (arith, long) in
    ap₂ (λ (n : ℕ) (ws : List ℕ). take n ws) count whole ∙ take-append_seam front left

-- the row behind a turn, of the parts of the row before it
pub turned_packed : (p : Point) (t : ℕ) (x : Op) (after lists left before list behind : List ℕ) (value : ℕ) →
    t < length p.received → after ≡ words_after p.words x → value ≡ value_for p.words x →
    lists ≡ packed_lists p.received → left ≡ packed_lists (drop t p.received) →
    before ≡ take (length lists - length left) lists →
    list ≡ slice_index_or p.received t [] → behind ≡ packed_lists (drop (suc t) p.received) →
    length after ∷ after ++ before ++ (length list + 1) ∷ list ++ value ∷ behind ≡ packed (turned p t x)
turned_packed p t x after lists left before list behind value lt a v l e b m h =
    let front = b ∙ before_left lists left p.received t l e in
    let words : List ℕ = length (words_after p.words x) ∷ words_after p.words x in
    let before = packed_lists (take t p.received) in
    let list : List ℕ = (length (slice_index_or p.received t []) + 1) ∷ slice_index_or p.received t [] in
    let rest : List ℕ = value_for p.words x ∷ packed_lists (drop (suc t) p.received) in
    let packs = sym (received_packed p.received t (value_for p.words x) lt) in
    rw (a, front, m, v, h) (append_assoc (words ++ before) list rest ∙ append_assoc words before (list ++ rest)
    ∙ ap (λ (ws : List ℕ). words ++ ws) packs)

-- ---- rows of points, each once

pub point_added : (points : List Point) (p : Point) →
    with_row (map packed points) (packed p) ≡ map packed (with_point points p)
point_added points p = added_by bytes_eq packed points p

-- ---- one row is that of one point

same_parts : (x y : List ℕ) (xs ys : List ℕ) → length x ≡ length y → x ++ xs ≡ y ++ ys → (x ≡ y) × (xs ≡ ys)
same_parts [] [] xs ys l e = (refl, e)
same_parts [] (b ∷ y) xs ys l e = absurd (omega (arith, l))
same_parts (a ∷ x) [] xs ys l e = absurd (omega (arith, l))
same_parts (a ∷ x) (b ∷ y) xs ys l e =
    let first : a ≡ b = cc in
    let behind : x ++ xs ≡ y ++ ys = cc in
    let rest = same_parts x y xs ys (omega (arith, l)) behind in
    (ap₂ (λ (n : ℕ) (ns : List ℕ). n ∷ ns) first rest.0, rest.1)

same_lists : (xs ys : List (List ℕ)) → length xs ≡ length ys → packed_lists xs ≡ packed_lists ys → xs ≡ ys
same_lists [] [] l e = refl
same_lists [] (y ∷ ys) l e = absurd (omega (arith, l))
same_lists (x ∷ xs) [] l e = absurd (omega (arith, l))
same_lists (x ∷ xs) (y ∷ ys) l e =
    let long : length x ≡ length y = cc in
    let behind : x ++ packed_lists xs ≡ y ++ packed_lists ys = cc in
    let parts = same_parts x y (packed_lists xs) (packed_lists ys) long behind in
    ap₂ (λ (n : List ℕ) (ns : List (List ℕ)). n ∷ ns) parts.0 (same_lists xs ys (omega (arith, l)) parts.1)

point_of : List (List ℕ) → Point
point_of [] = record { words = []; received = [] }
point_of (words ∷ received) = record { words = words; received = received }

pub same_point : (p q : Point) → length p.received ≡ length q.received → packed p ≡ packed q → p ≡ q
unfolding point_of
same_point p q l e = ap point_of (same_lists (p.words ∷ p.received) (q.words ∷ q.received) (ap suc l) e)

-- ---- the parts of a row

pub opened_packed : (row start words W : List ℕ) (counter n : ℕ) → row ≡ start ++ replicate {A = ℕ} counter 0 →
    start ≡ length words ∷ words → words ≡ W → counter ≡ n →
    row ≡ packed_lists (W ∷ (let lists : List (List ℕ) = replicate n [] in lists))
opened_packed row start words W counter n a b c d =
    a ∙ ap₂ (λ (xs : List ℕ) (k : ℕ). xs ++ replicate {A = ℕ} k 0) b d
    ∙ ap (λ (ws : List ℕ). (length ws ∷ ws) ++ replicate {A = ℕ} n 0) c
    ∙ ap (λ (zs : List ℕ). (length W ∷ W) ++ zs) (sym (none_packed n))

pub plus_one : (n : ℕ) → suc n ≡ n + 1
plus_one n = omega arith

pub list_next : (lists : List (List ℕ)) (t : ℕ) → t < length lists →
    packed_lists (drop t lists) ≡ length (slice_index_or lists t []) ∷ slice_index_or lists t []
    ++ packed_lists (drop (t + 1) lists)
list_next lists t lt = rw (← plus_one t) (list_there lists t lt)

pub turns_next : (test : Litmus) (p : Point) (t : ℕ) (points : List Point) (o : Option Op) → operation_at test p t ≡ o →
    with_turns test p (t + 1) points ≡ with_some (with_turns test p t points) (option_map (turned p t) o)
turns_next test p t points o e =
    ap (λ (n : ℕ). with_turns test p n points) (sym (plus_one t))
    ∙ ap (λ (x : Option Op). with_some (with_turns test p t points) (option_map (turned p t) x)) e

pub has_next : (test : Litmus) (p : Point) (t : ℕ) (o : Option Op) → operation_at test p t ≡ o →
    has_turn test p (t + 1) ≡ (has_turn test p t || is_some o)
has_next test p t o e =
    ap (has_turn test p) (sym (plus_one t)) ∙ ap (λ (x : Option Op). has_turn test p t || is_some x) e

pub or_true : (b : Bool) → true ≡ (b || true)
or_true true = refl
or_true false = refl

pub or_false : (b : Bool) → b ≡ (b || false)
or_false true = refl
or_false false = refl

pub threads_next : (test : Litmus) (p : Point) (t : ℕ) →
    threads_at test p t ++ thread_at test p t ∷ [] ≡ threads_at test p (t + 1)
threads_next test p t = ap (threads_at test p) (plus_one t)

-- a fold over a list's first items
pub fold_next : {X Y : Type 0} (f : Y → X → Y) (start : Y) (xs : List X) (i : ℕ) (x : X) → slice_get xs i ≡ Some x →
    fold f start (take (i + 1) xs) ≡ f (fold f start (take i xs)) x
fold_next f start xs i x e =
    rw (← plus_one i) (one f start xs i x e)
  where
    one : {X Y : Type 0} (f : Y → X → Y) (start : Y) (xs : List X) (i : ℕ) (x : X) → slice_get xs i ≡ Some x →
        fold f start (take (suc i) xs) ≡ f (fold f start (take i xs)) x
    one f start [] i x e = absurd cc
    one f start (y ∷ xs) zero x e = let same : y ≡ x = cc in ap (f start) same
    one f start (y ∷ xs) (suc i) x e = one f (f start y) xs i x e

pub get_packed : (points : List Point) (rows : List (List ℕ × List ℕ)) (i : ℕ) (row : List ℕ × List ℕ) →
    rows_in rows ≡ map packed points → slice_get rows i ≡ Some row →
    (p : Point) × (slice_get points i ≡ Some p) × (row.0 ≡ packed p)
get_packed points [] i row are e = absurd cc
get_packed [] (r ∷ rows) i row are e = absurd cc
get_packed (p ∷ points) (r ∷ rows) zero row are e = (p, refl, cc)
get_packed (p ∷ points) (r ∷ rows) (suc i) row are e =
    let behind : rows_in rows ≡ map packed points = cc in get_packed points rows i row behind e

pub each_at : {X : Type 0} (P : X → Type 0) (xs : List X) (i : ℕ) (x : X) → Each P xs → slice_get xs i ≡ Some x → P x
each_at P [] i x h e = absurd cc
each_at P (y ∷ xs) zero x h e = let same : y ≡ x = cc in subst P same h.0
each_at P (y ∷ xs) (suc i) x h e = each_at P xs i x h.1 e

pub none_missing : {X : Type 0} (xs : List X) (i : ℕ) → i < length xs → slice_get xs i ≡ None → ⊥
none_missing [] i lt e = absurd (omega (arith, lt))
none_missing (x ∷ xs) zero lt e = cc
none_missing (x ∷ xs) (suc i) lt e = none_missing xs i (omega (arith, lt)) e

-- one turn more, in rows
pub turn_added : (test : Litmus) (p : Point) (t : ℕ) (points : List Point) (x : Op) (next : List (List ℕ × List ℕ))
    (row : List ℕ × List ℕ) → rows_in next ≡ map packed (with_turns test p t points) → row.0 ≡ packed (turned p t x) →
    operation_at test p t ≡ Some x →
    rows_in (with_ordered next row) ≡ map packed (with_turns test p (t + 1) points)
turn_added test p t points x next row e f g =
    sym (ordered_added next row) ∙ ap₂ with_row e f ∙ point_added (with_turns test p t points) (turned p t x)
    ∙ ap (map packed) (sym (turns_next test p t points (Some x) g))

-- an error goes on as it is
pub passed_on : {A B E : Type 0} (x y : E) → (let r : Result A E = Err x in r) ≡ (let r : Result A E = Err y in r) →
    (let r : Result B E = Err x in r) ≡ (let r : Result B E = Err y in r)
passed_on x y e = let same : x ≡ y = cc in ap Err same

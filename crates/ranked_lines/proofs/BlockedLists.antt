-- Rising lists in blocks, and what is put into a block or taken out.
use Rattle.std.proofs.Common.{◌≡◌, ℕ, zero, suc, ◌+◌, ◌-◌, ◌<◌, ◌≤◌, ◌⊎◌, true, false, ltb, List, []}
use Rattle.std.proofs.Common.{◌∷◌, ◌++◌, Bool, length, get_or, set, take, drop, inl, inr, Option, Some, refl}
use Rattle.std.proofs.Common.{sym, drop-cons}
use Rattle.std.proofs.Common.{ap, ap₂, ◌∙◌, arith, append_assoc, append-nil, length-append}
use Rattle.std.specs.List.{insert, remove, slice_get}
use Rattle.arrayvec.specs.ArrayVec.{ArrayVec}
use Rattle.std.proofs.lemmas.List.{drop-take, get_or_default, length-drop, length-take-le, take-append-drop, take-take}
use Rattle.std.proofs.lemmas.List.{take_rest}
use Rattle.std.proofs.lemmas.Bool.{cases_eq, cases_lt}
use Rattle.ranked_lines.specs.Rising.{all_below, all_but, put_in, take_out, AllFrom, Rises}
use Rattle.ranked_lines.specs.Blocked.{block_at, joined, size_at, Filled, IsPlaceOf, DenseBut, Dense}
use Rattle.ranked_lines.proofs.BlockNeighbours.{dense-but-set, pair-before, pair-next, dense-dense-but, dense-push}
use Rattle.ranked_lines.proofs.BlockNeighbours.{dense-remove, dense-set, split-dense}
use Rattle.ranked_lines.proofs.SortedLists.{from-weaker}
use Rattle.ranked_lines.proofs.RisingEdits.{at-from, at-less, less-most}
use Rattle.ranked_lines.proofs.RisingEdits.{all_but-above, less}
use Rattle.ranked_lines.proofs.RisingEdits.{most}
use Rattle.ranked_lines.proofs.RisingEdits.{most-none, none-below}

-- a list whose numbers are all below one

pub ends-below : (x : ℕ) (ys : List ℕ) → Rises ys → 0 < length ys →
    ltb (get_or ys (length ys - 1) 0) x ≡ all_below x ys
ends-below x ys r some =
    let more = at-less x ys (length ys - 1) 0 r in let few = at-from x ys (length ys - 1) 0 in grind arith

-- what is put in or taken out behind such a list, or before what comes behind another
put-behind : (x : ℕ) (fs bs : List ℕ) → length fs ≤ less x fs → put_in x (fs ++ bs) ≡ fs ++ put_in x bs
put-behind x [] bs le = refl
put-behind x (a ∷ fs) bs le = let later = put-behind x fs bs in grind arith

put-before : (x : ℕ) (fs bs : List ℕ) → less x fs < length fs → put_in x (fs ++ bs) ≡ put_in x fs ++ bs
put-before x [] bs lt = absurd (omega (arith, lt))
put-before x (a ∷ fs) bs lt = let later = put-before x fs bs in grind arith

take-behind : (x : ℕ) (fs bs : List ℕ) → length fs ≤ less x fs → take_out x (fs ++ bs) ≡ fs ++ take_out x bs
take-behind x [] bs le = refl
take-behind x (a ∷ fs) bs le = let later = take-behind x fs bs in grind arith

take-before : (x : ℕ) (fs bs : List ℕ) → less x fs < length fs → take_out x (fs ++ bs) ≡ take_out x fs ++ bs
take-before x [] bs lt = absurd (omega (arith, lt))
take-before x (a ∷ fs) bs lt = let later = take-before x fs bs in grind arith

-- the blocks before the one of a number
block-cases : (x : ℕ) (b : ArrayVec ℕ) (bs : List (ArrayVec ℕ)) →
    ((less x b.items < length b.items) × (block_at x (b ∷ bs) ≡ 0))
    ⊎ ((length b.items ≤ less x b.items) × (block_at x (b ∷ bs) ≡ suc (block_at x bs)))
block-cases x b bs = grind arith

pub put-block : (x : ℕ) (bs : List (ArrayVec ℕ)) (k : ℕ) (d w : ArrayVec ℕ) → k < length bs →
    k ≤ block_at x bs → (suc k < length bs → k ≡ block_at x bs) → w.items ≡ put_in x (get_or bs k d).items →
    joined (set bs k w) ≡ put_in x (joined bs)
put-block x [] k d w lt le last e = absurd (omega (arith, lt))
put-block x (b ∷ bs) zero d w lt le last e = elim (block-cases x b bs) [
  | inl h ↦ ap (λ zs. zs ++ joined bs) e ∙ sym (put-before x b.items (joined bs) h.0)
  | inr h ↦ lone bs (λ more. absurd (let same = last more in let at = h.1 in omega (arith, same, at)))
]
  where
    lone : (cs : List (ArrayVec ℕ)) → (1 < suc (length cs) → ⊥) →
        w.items ++ joined cs ≡ put_in x (b.items ++ joined cs)
    lone [] h = append-nil w.items ∙ e ∙ ap (put_in x) (sym (append-nil b.items))
    lone (c ∷ cs) h = absurd (h (omega arith))
put-block x (b ∷ bs) (suc k) d w lt le last e = elim (block-cases x b bs) [
  | inl h ↦ absurd (let none = h.1 in omega (arith, none, le))
  | inr h ↦
      let at = h.1 in
      ap (λ zs. b.items ++ zs) (put-block x bs k d w (omega (arith, lt)) (omega (arith, le, at))
      (λ more. (let same = last (omega (arith, more)) in omega (arith, same, at))) e)
      ∙ sym (put-behind x b.items (joined bs) h.0)
]

pub take-block : (x : ℕ) (bs : List (ArrayVec ℕ)) (k : ℕ) (d w : ArrayVec ℕ) → k < length bs →
    k ≡ block_at x bs → w.items ≡ take_out x (get_or bs k d).items → joined (set bs k w) ≡ take_out x (joined bs)
take-block x [] k d w lt same e = absurd (omega (arith, lt))
take-block x (b ∷ bs) zero d w lt same e = let before = take-before x b.items (joined bs) in grind arith
take-block x (b ∷ bs) (suc k) d w lt same e = let later = take-block x bs k d w in
    let behind = take-behind x b.items (joined bs) in grind arith

emptied : (x : ℕ) (ys : List ℕ) → less x ys < length ys → length ys ≤ 1 → take_out x ys ≡ []
emptied x [] lt le = refl
emptied x (y ∷ []) lt le = grind arith
emptied x (y ∷ z ∷ zs) lt le = absurd (omega (arith, le))

pub drop-block : (x : ℕ) (bs : List (ArrayVec ℕ)) (k : ℕ) (d : ArrayVec ℕ) → k < length bs →
    k ≡ block_at x bs → length (get_or bs k d).items ≤ 1 → joined (remove bs k) ≡ take_out x (joined bs)
drop-block x [] k d lt same one = absurd (omega (arith, lt))
drop-block x (b ∷ bs) zero d lt same one = let before = take-before x b.items (joined bs) in
    let none = emptied x b.items in grind arith
drop-block x (b ∷ bs) (suc k) d lt same one = let later = drop-block x bs k d in
    let behind = take-behind x b.items (joined bs) in grind arith

put-longer : (x : ℕ) (ys : List ℕ) → length ys ≤ length (put_in x ys)
put-longer x [] = omega arith
put-longer x (y ∷ ys) = let later = put-longer x ys in grind arith

put-some : (x : ℕ) (ys : List ℕ) → 0 < length (put_in x ys)
put-some x [] = omega arith
put-some x (y ∷ ys) = grind arith

take-shorter : (x : ℕ) (ys : List ℕ) → length ys ≤ suc (length (take_out x ys))
take-shorter x [] = omega arith
take-shorter x (y ∷ ys) = let later = take-shorter x ys in grind arith

pub take-none : (x : ℕ) (bs : List (ArrayVec ℕ)) → length bs ≤ block_at x bs → joined bs ≡ take_out x (joined bs)
take-none x [] le = refl
take-none x (b ∷ bs) le = let later = take-none x bs in let behind = take-behind x b.items (joined bs) in grind arith

-- blocks that aren't empty
pub filled-set : (bs : List (ArrayVec ℕ)) (k : ℕ) (w : ArrayVec ℕ) → Filled bs → 0 < length w.items →
    Filled (set bs k w)
filled-set [] k w h some = tt
filled-set (b ∷ bs) zero w h some = (some, h.1)
filled-set (b ∷ bs) (suc k) w h some = (h.0, filled-set bs k w h.1 some)

pub filled-remove : (bs : List (ArrayVec ℕ)) (k : ℕ) → Filled bs → Filled (remove bs k)
filled-remove [] zero h = tt
filled-remove [] (suc k) h = tt
filled-remove (b ∷ bs) zero h = h.1
filled-remove (b ∷ bs) (suc k) h = (h.0, filled-remove bs k h.1)

pub filled-at : (bs : List (ArrayVec ℕ)) (k : ℕ) (d : ArrayVec ℕ) → Filled bs → k < length bs →
    0 < length (get_or bs k d).items
filled-at [] k d h lt = absurd (omega (arith, lt))
filled-at (b ∷ bs) zero d h lt = h.0
filled-at (b ∷ bs) (suc k) d h lt = filled-at bs k d h.1 (omega (arith, lt))

pub filled-push : (bs : List (ArrayVec ℕ)) (w : ArrayVec ℕ) → Filled bs → 0 < length w.items →
    Filled (bs ++ w ∷ [])
filled-push [] w h some = (some, tt)
filled-push (b ∷ bs) w h some = (h.0, filled-push bs w h.1 some)

pub joined-push : (bs : List (ArrayVec ℕ)) (w : ArrayVec ℕ) → joined (bs ++ w ∷ []) ≡ joined bs ++ w.items
joined-push [] w = append-nil w.items
joined-push (b ∷ bs) w =
    ap (λ zs. b.items ++ zs) (joined-push bs w) ∙ sym (append_assoc b.items (joined bs) w.items)

pub split-joined : (n : ℕ) (bs : List (ArrayVec ℕ)) (k : ℕ) (d u w : ArrayVec ℕ) → k < length bs →
    u.items ≡ drop n (get_or bs k d).items → w.items ≡ take n (get_or bs k d).items →
    joined (set (insert bs (suc k) u) k w) ≡ joined bs
split-joined n [] k d u w lt e f = absurd (omega (arith, lt))
split-joined n (b ∷ bs) zero d u w lt e f = sym (append_assoc w.items u.items (joined bs))
    ∙ ap (λ zs. zs ++ joined bs) (ap₂ (λ xs ys. xs ++ ys) f e ∙ take-append-drop n b.items)
split-joined n (b ∷ bs) (suc k) d u w lt e f =
    ap (λ zs. b.items ++ zs) (split-joined n bs k d u w (omega (arith, lt)) e f)

pub split-filled : (bs : List (ArrayVec ℕ)) (k : ℕ) (u w : ArrayVec ℕ) → Filled bs → 0 < length u.items →
    0 < length w.items → Filled (set (insert bs (suc k) u) k w)
split-filled [] zero u w h some more = (more, tt)
split-filled [] (suc k) u w h some more = (some, tt)
split-filled (b ∷ bs) zero u w h some more = (more, (some, h.1))
split-filled (b ∷ bs) (suc k) u w h some more = (h.0, split-filled bs k u w h.1 some more)

pub split-kept : (bs : List (ArrayVec ℕ)) (k : ℕ) (d : ArrayVec ℕ) (u : ArrayVec ℕ) → k < length bs →
    get_or (insert bs (suc k) u) k d ≡ get_or bs k d
split-kept [] k d u lt = absurd (omega (arith, lt))
split-kept (b ∷ bs) zero d u lt = refl
split-kept (b ∷ bs) (suc k) d u lt = split-kept bs k d u (omega (arith, lt))

-- the halves that a number may belong to afterwards
both-below : (x : ℕ) (fs bs : List ℕ) → length fs ≤ less x fs → length bs ≤ less x bs →
    length (fs ++ bs) ≤ less x (fs ++ bs)
both-below x [] bs low high = high
both-below x (a ∷ fs) bs low high = let later = both-below x fs bs in grind arith

split-later : (x : ℕ) (bs : List (ArrayVec ℕ)) (k : ℕ) (u w : ArrayVec ℕ) → k < length bs → k ≤ block_at x bs →
    k ≤ block_at x (set (insert bs (suc k) u) k w)
split-later x [] k u w lt le = absurd (omega (arith, lt))
split-later x (b ∷ bs) zero u w lt le = omega arith
split-later x (b ∷ bs) (suc k) u w lt le = let later = split-later x bs k u w in grind arith

split-near : (x : ℕ) (bs : List (ArrayVec ℕ)) (k : ℕ) (d u w : ArrayVec ℕ) → k < length bs → k ≡ block_at x bs →
    w.items ++ u.items ≡ (get_or bs k d).items → block_at x (set (insert bs (suc k) u) k w) ≤ suc k
split-near x [] k d u w lt same e = absurd (omega (arith, lt))
split-near x (b ∷ bs) zero d u w lt same e = let all = both-below x w.items u.items in
    let long = ap length e in let below = ap (less x) e in grind arith
split-near x (b ∷ bs) (suc k) d u w lt same e = let later = split-near x bs k d u w in grind arith

split-length : (bs : List (ArrayVec ℕ)) (k : ℕ) (u w : ArrayVec ℕ) → k < length bs →
    length (set (insert bs (suc k) u) k w) ≡ suc (length bs)
split-length [] k u w lt = absurd (omega (arith, lt))
split-length (b ∷ bs) zero u w lt = refl
split-length (b ∷ bs) (suc k) u w lt = ap suc (split-length bs k u w (omega (arith, lt)))

split-lower : (bs : List (ArrayVec ℕ)) (k : ℕ) (u w : ArrayVec ℕ) → k < length bs →
    size_at k (set (insert bs (suc k) u) k w) ≡ length w.items
split-lower [] k u w lt = absurd (omega (arith, lt))
split-lower (b ∷ bs) zero u w lt = refl
split-lower (b ∷ bs) (suc k) u w lt = split-lower bs k u w (omega (arith, lt))

split-upper : (bs : List (ArrayVec ℕ)) (k : ℕ) (u w : ArrayVec ℕ) → k < length bs →
    size_at (suc k) (set (insert bs (suc k) u) k w) ≡ length u.items
split-upper [] k u w lt = absurd (omega (arith, lt))
split-upper (b ∷ bs) zero u w lt = refl
split-upper (b ∷ bs) (suc k) u w lt = split-upper bs k u w (omega (arith, lt))

half-place : (x : ℕ) (bs : List (ArrayVec ℕ)) (k j : ℕ) (d u w : ArrayVec ℕ) →
    w.items ++ u.items ≡ (get_or bs k d).items → IsPlaceOf x k bs →
    IsPlaceOf x j (set (insert bs (suc k) u) k w) → (j ≡ k) ⊎ (j ≡ suc k)
half-place x bs k j d u w e here there =
    let lt = here.0 in let in_list = there.0 in let before = there.1 in
    let long = split-length bs k u w here.0 in
    let later = split-later x bs k u w here.0 here.1 in
    let most : j ≤ suc k = elim (cases_lt (suc k) (length bs)) [
      | inl more ↦ (let near = split-near x bs k d u w here.0 (here.2 (omega (arith, more))) e in
          omega (arith, before, near))
      | inr last ↦ omega (arith, last, long, in_list)
    ] in
    let least : k ≤ j = elim (cases_lt (suc j) (length (set (insert bs (suc k) u) k w))) [
      | inl more ↦ (let same = there.2 (omega (arith, more)) in omega (arith, same, later))
      | inr last ↦ omega (arith, last, long, lt)
    ] in
    elim (cases_eq j k) [
      | inl same ↦ inl same
      | inr other ↦ inr (omega (arith, most, least, other))
    ]

half-room : (x : ℕ) (bs : List (ArrayVec ℕ)) (k j : ℕ) (d u w : ArrayVec ℕ) →
    w.items ++ u.items ≡ (get_or bs k d).items → length w.items < 128 → length u.items < 128 →
    IsPlaceOf x k bs → IsPlaceOf x j (set (insert bs (suc k) u) k w) →
    size_at j (set (insert bs (suc k) u) k w) < 128
half-room x bs k j d u w e low high here there = elim (half-place x bs k j d u w e here there) [
  | inl same ↦ (let size = ap (λ i. size_at i (set (insert bs (suc k) u) k w)) same
      ∙ split-lower bs k u w here.0 in omega (arith, size, low))
  | inr same ↦ (let size = ap (λ i. size_at i (set (insert bs (suc k) u) k w)) same
      ∙ split-upper bs k u w here.0 in omega (arith, size, high))
]

-- parts of a rising list rise
from-front : (x : ℕ) (fs bs : List ℕ) → AllFrom x (fs ++ bs) → AllFrom x fs
from-front x [] bs h = tt
from-front x (a ∷ fs) bs h = (h.0, from-front x fs bs h.1)

from-back : (x : ℕ) (fs bs : List ℕ) → AllFrom x (fs ++ bs) → AllFrom x bs
from-back x [] bs h = h
from-back x (a ∷ fs) bs h = from-back x fs bs h.1

rises-front : (fs bs : List ℕ) → Rises (fs ++ bs) → Rises fs
rises-front [] bs h = tt
rises-front (a ∷ fs) bs h = (from-front a fs bs h.0, rises-front fs bs h.1)

rises-back : (fs bs : List ℕ) → Rises (fs ++ bs) → Rises bs
rises-back [] bs h = h
rises-back (a ∷ fs) bs h = rises-back fs bs h.1

pub rises-block : (bs : List (ArrayVec ℕ)) (k : ℕ) (d : ArrayVec ℕ) → k < length bs → Rises (joined bs) →
    Rises (get_or bs k d).items
rises-block [] k d lt h = absurd (omega (arith, lt))
rises-block (b ∷ bs) zero d lt h = rises-front b.items (joined bs) h
rises-block (b ∷ bs) (suc k) d lt h = rises-block bs k d (omega (arith, lt)) (rises-back b.items (joined bs) h)

-- a search by the blocks' last numbers
from-seam : (x : ℕ) (fs bs : List ℕ) → Rises (fs ++ bs) → less x fs < length fs → AllFrom x bs
from-seam x [] bs h lt = absurd (omega (arith, lt))
from-seam x (a ∷ fs) bs h lt = let later = from-seam x fs bs h.1 in
    let weaker = from-weaker x a bs in let back = from-back a fs bs h.0 in grind arith

none-before : (x : ℕ) (bs : List (ArrayVec ℕ)) → Filled bs → AllFrom x (joined bs) → block_at x bs ≡ 0
none-before x [] h from = refl
none-before x (b ∷ bs) h from =
    let none = none-below x b.items (from-front x b.items (joined bs) from) in grind arith

pub at-least : (x : ℕ) (bs : List (ArrayVec ℕ)) (k : ℕ) (d : ArrayVec ℕ) → Rises (joined bs) → Filled bs →
    k < length bs → all_below x (get_or bs k d).items ≡ true → suc k ≤ block_at x bs
at-least x [] k d r h lt e = absurd (omega (arith, lt))
at-least x (b ∷ bs) zero d r h lt e = grind arith
at-least x (b ∷ bs) (suc k) d r h lt e =
    let later = at-least x bs k d (rises-back b.items (joined bs) r) h.1 (omega (arith, lt)) e in
    let none = none-before x bs h.1 in let seam = from-seam x b.items (joined bs) r in grind arith

pub at-most : (x : ℕ) (bs : List (ArrayVec ℕ)) (k : ℕ) (d : ArrayVec ℕ) → k < length bs →
    all_below x (get_or bs k d).items ≡ false → block_at x bs ≤ k
at-most x [] k d lt e = omega arith
at-most x (b ∷ bs) zero d lt e = grind arith
at-most x (b ∷ bs) (suc k) d lt e = let later = at-most x bs k d (omega (arith, lt)) e in grind arith

pub at-bound : (x : ℕ) (bs : List (ArrayVec ℕ)) → block_at x bs ≤ length bs
at-bound x [] = omega arith
at-bound x (b ∷ bs) = let later = at-bound x bs in grind arith

-- how many numbers there are but one
pub most-length : (b : ℕ) (ys : List ℕ) → most b ys ≤ length ys
most-length b [] = omega arith
most-length b (y ∷ ys) = let later = most-length b ys in grind arith

pub length-all_but : (b : ℕ) (ys : List ℕ) → Rises ys →
    length (all_but (Some b) ys) ≡ length ys - (most b ys - less b ys)
length-all_but b [] r = refl
length-all_but b (y ∷ ys) r = let later = length-all_but b ys r.1 in let within = most-length b ys in
    let none = none-below b ys in let rest = all_but-above b y ys in grind arith

pub all-below : (b : ℕ) (ys : List ℕ) → Rises ys → get_or ys (length ys - 1) 0 < b → 0 < length ys →
    length ys ≡ length (all_but (Some b) ys)
all-below b ys r lt some =
    let more = at-less b ys (length ys - 1) 0 r (omega (arith, some)) lt in
    let order = less-most b ys in let within = most-length b ys in let long = length-all_but b ys r in
    omega (arith, some, more, order, within, long)

pub all-above : (b : ℕ) (ys : List ℕ) → Rises ys → b < get_or ys 0 0 → length ys ≡ length (all_but (Some b) ys)
all-above b [] r lt = refl
all-above b (y ∷ ys) r lt =
    let none = most-none b y ys lt in let order = less-most b (y ∷ ys) in
    let long = length-all_but b (y ∷ ys) r in omega (arith, none, order, long)

pub but-length : (but : Option ℕ) (b n : ℕ) (ys : List ℕ) → but ≡ Some b → n ≡ length (all_but (Some b) ys) →
    n ≡ length (all_but but ys)
but-length but b n ys e long = long ∙ ap (λ o. length (all_but o ys)) (sym e)

pub all_but-length : (but : Option ℕ) (ys : List ℕ) → length (all_but but ys) ≤ length ys
all_but-length but [] = omega arith
all_but-length but (y ∷ ys) = let later = all_but-length but ys in grind arith

-- the numbers at an index of joined blocks but one number
all_but-joined : (but : Option ℕ) (fs bs : List ℕ) → all_but but (fs ++ bs) ≡ all_but but fs ++ all_but but bs
all_but-joined but [] bs = refl
all_but-joined but (a ∷ fs) bs = let later = all_but-joined but fs bs in grind arith

get-front : (fs bs : List ℕ) (k : ℕ) → k < length fs → slice_get (fs ++ bs) k ≡ slice_get fs k
get-front [] bs k lt = absurd (omega (arith, lt))
get-front (a ∷ fs) bs zero lt = refl
get-front (a ∷ fs) bs (suc k) lt = get-front fs bs k (omega (arith, lt))

get-back : (fs bs : List ℕ) (k : ℕ) → length fs ≤ k → slice_get (fs ++ bs) k ≡ slice_get bs (k - length fs)
get-back [] bs k le = ap (λ n. slice_get bs n) (omega arith)
get-back (a ∷ fs) bs zero le = absurd (omega (arith, le))
get-back (a ∷ fs) bs (suc k) le =
    get-back fs bs k (omega (arith, le)) ∙ ap (λ n. slice_get bs n) (omega arith)

parted : (but : Option ℕ) (bs : List (ArrayVec ℕ)) (i : ℕ) (d : ArrayVec ℕ) → i < length bs →
    all_but but (joined (drop i bs)) ≡ all_but but (get_or bs i d).items ++ all_but but (joined (drop (suc i) bs))
parted but bs i d lt = ap (λ cs. all_but but (joined cs)) (drop-cons bs i d lt)
    ∙ all_but-joined but (get_or bs i d).items (joined (drop (suc i) bs))

pub found-here : (but : Option ℕ) (bs : List (ArrayVec ℕ)) (i k : ℕ) (d : ArrayVec ℕ) → i < length bs →
    k < length (all_but but (get_or bs i d).items) →
    slice_get (all_but but (joined (drop i bs))) k ≡ slice_get (all_but but (get_or bs i d).items) k
found-here but bs i k d lt here = ap (λ zs. slice_get zs k) (parted but bs i d lt)
    ∙ get-front (all_but but (get_or bs i d).items) (all_but but (joined (drop (suc i) bs))) k here

pub found-later : (but : Option ℕ) (bs : List (ArrayVec ℕ)) (i k : ℕ) (d : ArrayVec ℕ) → i < length bs →
    length (all_but but (get_or bs i d).items) ≤ k → slice_get (all_but but (joined (drop i bs))) k
    ≡ slice_get (all_but but (joined (drop (suc i) bs))) (k - length (all_but but (get_or bs i d).items))
found-later but bs i k d lt behind = ap (λ zs. slice_get zs k) (parted but bs i d lt)
    ∙ get-back (all_but but (get_or bs i d).items) (all_but but (joined (drop (suc i) bs))) k behind

-- a block that was read or is borrowed
pub block-rises : (bs : List (ArrayVec ℕ)) (k : ℕ) (d : ArrayVec ℕ) (ys : List ℕ) → k < length bs →
    d ≡ get_or bs k d → ys ≡ d.items → Rises (joined bs) → Rises ys
block-rises bs k d ys lt is e r =
    rw (sym (e ∙ ap (λ (v : ArrayVec ℕ). v.items) is)) at (rises-block bs k d lt r)

pub block-some : (bs : List (ArrayVec ℕ)) (k : ℕ) (d : ArrayVec ℕ) (ys : List ℕ) → k < length bs →
    d ≡ get_or bs k d → ys ≡ d.items → Filled bs → 0 < length ys
block-some bs k d ys lt is e h =
    rw (sym (e ∙ ap (λ (v : ArrayVec ℕ). v.items) is)) at (filled-at bs k d h lt)

pub block-behind : (x : ℕ) (bs : List (ArrayVec ℕ)) (k : ℕ) (d : ArrayVec ℕ) (ys : List ℕ) (b : Bool) →
    Rises (joined bs) → Filled bs → k < length bs → d ≡ get_or bs k d → ys ≡ d.items → b ≡ all_below x ys →
    b ≡ true → k + 1 ≤ block_at x bs
block-behind x bs k d ys b r h lt is e f t =
    let le = at-least x bs k d r h lt
    (sym (ap (all_below x) (e ∙ ap (λ (v : ArrayVec ℕ). v.items) is)) ∙ sym f ∙ t) in omega (arith, le)

pub block-ahead : (x : ℕ) (bs : List (ArrayVec ℕ)) (k : ℕ) (d : ArrayVec ℕ) (ys : List ℕ) (b : Bool) →
    k < length bs → d ≡ get_or bs k d → ys ≡ d.items → b ≡ all_below x ys → b ≡ false → block_at x bs ≤ k
block-ahead x bs k d ys b lt is e f t = at-most x bs k d lt
    (sym (ap (all_below x) (e ∙ ap (λ (v : ArrayVec ℕ). v.items) is)) ∙ sym f ∙ t)

pub nth-here : (but : Option ℕ) (bs : List (ArrayVec ℕ)) (i k : ℕ) (d : ArrayVec ℕ) (ys : List ℕ) →
    i < length bs → d ≡ get_or bs i d → ys ≡ d.items → k < length (all_but but ys) →
    slice_get (all_but but (joined (drop i bs))) k ≡ slice_get (all_but but ys) k
nth-here but bs i k d ys lt is e here =
    let same = e ∙ ap (λ (v : ArrayVec ℕ). v.items) is in
    found-here but bs i k d lt (rw same at here) ∙ ap (λ zs. slice_get (all_but but zs) k) (sym same)

pub nth-later : (but : Option ℕ) (bs : List (ArrayVec ℕ)) (i k n : ℕ) (d : ArrayVec ℕ) (ys : List ℕ) →
    i < length bs → d ≡ get_or bs i d → ys ≡ d.items → n ≡ length (all_but but ys) → n ≤ k →
    slice_get (all_but but (joined (drop i bs))) k ≡ slice_get (all_but but (joined (drop (i + 1) bs))) (k - n)
nth-later but bs i k n d ys lt is e long behind =
    let same = long ∙ ap (λ zs. length (all_but but zs)) (e ∙ ap (λ (v : ArrayVec ℕ). v.items) is) in
    let more : suc i ≡ i + 1 = omega arith in
    found-later but bs i k d lt (omega (arith, same, behind))
    ∙ ap₂ (λ j m. slice_get (all_but but (joined (drop j bs))) (k - m)) more (sym same)

taken : (n t : ℕ) (xs : List ℕ) → n ≤ t → take n xs ++ take (t - n) (drop n xs) ≡ take t xs
taken n t xs le = let more : n + (t - n) ≡ t = omega arith in
    rw (← take-take n t xs le, ← drop-take n (t - n) xs, more) (take-append-drop n (take t xs))

pub more-joined : (xs : List ℕ) (n t : ℕ) (bs cs : List (ArrayVec ℕ)) (w : ArrayVec ℕ) → n ≤ t →
    joined bs ≡ take n xs → cs ≡ bs ++ w ∷ [] → w.items ≡ take (t - n) (drop n xs) → joined cs ≡ take t xs
more-joined xs n t bs cs w le e f g = ap joined f ∙ joined-push bs w ∙ ap₂ (λ us vs. us ++ vs) e g ∙ taken n t xs le

pub more-filled : (xs : List ℕ) (n t : ℕ) (bs cs : List (ArrayVec ℕ)) (w : ArrayVec ℕ) → n < t →
    t ≤ length xs → Filled bs → cs ≡ bs ++ w ∷ [] → w.items ≡ take (t - n) (drop n xs) → Filled cs
more-filled xs n t bs cs w lt le h f g =
    let rest = length-drop n xs in
    let long = ap length g ∙ length-take-le (t - n) (drop n xs) (omega (arith, rest, le)) in
    rw (sym f) at (filled-push bs w h (omega (arith, long, lt)))

module _ (n k : ℕ) (bs ns : List (ArrayVec ℕ)) (d e u w : ArrayVec ℕ) (ys : List ℕ) (lt : k < length bs)
    (read : d ≡ get_or bs k d) (same : ys ≡ d.items) (upper : u.items ≡ take (length ys - n) (drop n ys))
    (put : ns ≡ insert bs (k + 1) u) (lent : e ≡ get_or ns k e) (lower : w.items ≡ take n e.items) where
  next : ns ≡ insert bs (suc k) u
  next = let more : k + 1 ≡ suc k = omega arith in put ∙ ap (λ j. insert bs j u) more

  there : e ≡ get_or bs k d
  there = lent ∙ ap (λ cs. get_or cs k e) next ∙ split-kept bs k e u lt ∙ get_or_default bs k e d lt

  high : u.items ≡ drop n (get_or bs k d).items
  high = upper ∙ take_rest ys n ∙ ap (drop n) (same ∙ ap (λ (v : ArrayVec ℕ). v.items) read)

  low : w.items ≡ take n (get_or bs k d).items
  low = lower ∙ ap (λ (v : ArrayVec ℕ). take n v.items) there

  pub split-same : joined (set ns k w) ≡ joined bs
  split-same = ap (λ cs. joined (set cs k w)) next ∙ split-joined n bs k d u w lt high low

  pub split-fills : 0 < n → n < length ys → Filled bs → Filled (set ns k w)
  split-fills some more h =
      let long = ap length (same ∙ ap (λ (v : ArrayVec ℕ). v.items) read) in
      let top = ap length high ∙ length-drop n (get_or bs k d).items in
      let bottom = ap length low ∙ length-take-le n (get_or bs k d).items (omega (arith, long, more)) in
      rw (sym next) at (split-filled bs k u w h (omega (arith, long, top, more)) (omega (arith, bottom, some)))

  pub split-room : 64 ≤ n → n < 128 → length ys ≤ 128 → n < length ys → (x j : ℕ) → IsPlaceOf x k bs →
      IsPlaceOf x j (set ns k w) → size_at j (set ns k w) < 128
  split-room some few most more x j here there =
      let long = ap length (same ∙ ap (λ (v : ArrayVec ℕ). v.items) read) in
      let top = ap length high ∙ length-drop n (get_or bs k d).items in
      let bottom = ap length low ∙ length-take-le n (get_or bs k d).items (omega (arith, long, more)) in
      let is = ap (λ cs. set cs k w) next in
      rw (sym is) at (half-room x bs k j d u w (ap₂ (λ us vs. us ++ vs) low high
      ∙ take-append-drop n (get_or bs k d).items) (omega (arith, bottom, few)) (omega (arith, long, top, most, some))
      here (rw is at there))

  pub split-apart : 64 ≤ n → n + 64 ≤ length ys → Filled bs → Dense 65 bs → Dense 65 (set ns k w)
  split-apart some more h s =
      let long = ap length (same ∙ ap (λ (v : ArrayVec ℕ). v.items) read) in
      let top = ap length high ∙ length-drop n (get_or bs k d).items in
      let bottom = ap length low ∙ length-take-le n (get_or bs k d).items (omega (arith, long, more)) in
      rw (sym next) at (split-dense 65 bs k u w (omega arith) h (omega (arith, long, top, more))
      (omega (arith, bottom, some)) lt s)

-- how many numbers a block has that was read or is borrowed
pub size-is : (k : ℕ) (bs : List (ArrayVec ℕ)) (d : ArrayVec ℕ) → k < length bs →
    size_at k bs ≡ length (get_or bs k d).items
size-is k [] d lt = absurd (omega (arith, lt))
size-is zero (b ∷ bs) d lt = refl
size-is (suc k) (b ∷ bs) d lt = size-is k bs d (omega (arith, lt))

pub sized : (k : ℕ) (bs : List (ArrayVec ℕ)) (d : ArrayVec ℕ) → k < length bs → d ≡ get_or bs k d →
    size_at k bs ≡ length d.items
sized k bs d lt is = size-is k bs d lt ∙ sym (ap (λ (v : ArrayVec ℕ). length v.items) is)

-- what `put_number_in_block` and `take_number_from_block` do
pub placed : (x : ℕ) (bs : List (ArrayVec ℕ)) (k : ℕ) (d w : ArrayVec ℕ) → k < length bs →
    k ≤ block_at x bs → (suc k < length bs → k ≡ block_at x bs) → d ≡ get_or bs k d →
    w.items ≡ put_in x d.items → joined (set bs k w) ≡ put_in x (joined bs)
placed x bs k d w lt le last is e =
    put-block x bs k d w lt le last (e ∙ ap (λ (v : ArrayVec ℕ). put_in x v.items) is)

pub placed-filled : (x : ℕ) (bs : List (ArrayVec ℕ)) (k : ℕ) (d w : ArrayVec ℕ) → Filled bs →
    w.items ≡ put_in x d.items → Filled (set bs k w)
placed-filled x bs k d w h e = filled-set bs k w h (rw (sym e) at (put-some x d.items))

pub placed-dense : (x : ℕ) (bs : List (ArrayVec ℕ)) (k : ℕ) (d w : ArrayVec ℕ) → d ≡ get_or bs k d →
    w.items ≡ put_in x d.items → Dense 65 bs → Dense 65 (set bs k w)
placed-dense x bs k d w is e h =
    let more = put-longer x d.items in let same = ap (λ (v : ArrayVec ℕ). length v.items) is in
    let long = ap length e in
    dense-set 65 bs k d w (omega (arith, more, same, long)) h

pub took : (x : ℕ) (bs : List (ArrayVec ℕ)) (k : ℕ) (d w : ArrayVec ℕ) → k < length bs → k ≡ block_at x bs →
    d ≡ get_or bs k d → w.items ≡ take_out x d.items → joined (set bs k w) ≡ take_out x (joined bs)
took x bs k d w lt at is e = take-block x bs k d w lt at (e ∙ ap (λ (v : ArrayVec ℕ). take_out x v.items) is)

pub took-filled : (x : ℕ) (bs : List (ArrayVec ℕ)) (k : ℕ) (d w : ArrayVec ℕ) → Filled bs → k < length bs →
    d ≡ get_or bs k d → 1 < size_at k bs → w.items ≡ take_out x d.items → Filled (set bs k w)
took-filled x bs k d w h lt is more e =
    let few = take-shorter x d.items in let long = ap length e in let same = sized k bs d lt is in
    filled-set bs k w h (omega (arith, few, long, more, same))

pub took-dense-but : (x : ℕ) (bs : List (ArrayVec ℕ)) (k : ℕ) (d w : ArrayVec ℕ) → k < length bs →
    d ≡ get_or bs k d → w.items ≡ take_out x d.items → Dense 65 bs → DenseBut 1 1 65 k (set bs k w)
took-dense-but x bs k d w lt is e h =
    let few = take-shorter x d.items in let long = ap length e in let same = sized k bs d lt is in
    dense-but-set 65 bs k w (omega (arith, few, long, same)) h

pub went-dense-but : (bs : List (ArrayVec ℕ)) (k : ℕ) → size_at k bs ≤ 1 → Dense 65 bs → DenseBut 1 1 65 k
    (remove bs k)
went-dense-but bs k few h = dense-dense-but 1 1 65 (remove bs k) k (dense-remove 65 bs k few h)

pub went : (x : ℕ) (bs : List (ArrayVec ℕ)) (k : ℕ) → k < length bs → k ≡ block_at x bs →
    size_at k bs ≤ 1 → joined (remove bs k) ≡ take_out x (joined bs)
went x bs k lt at one =
    let none : ArrayVec ℕ = record { items = [] } in let same = size-is k bs none lt in
    drop-block x bs k none lt at (omega (arith, one, same))

-- two neighbours that are joined
remove-kept : (bs : List (ArrayVec ℕ)) (k : ℕ) (d : ArrayVec ℕ) → suc k < length bs →
    get_or (remove bs (suc k)) k d ≡ get_or bs k d
remove-kept [] k d lt = absurd (omega (arith, lt))
remove-kept (b ∷ bs) zero d lt = refl
remove-kept (b ∷ bs) (suc k) d lt = remove-kept bs k d (omega (arith, lt))

pair-joined : (bs : List (ArrayVec ℕ)) (k : ℕ) (d w : ArrayVec ℕ) → suc k < length bs →
    w.items ≡ (get_or bs k d).items ++ (get_or bs (suc k) d).items → joined (set (remove bs (suc k)) k w) ≡ joined bs
pair-joined (b ∷ c ∷ bs) zero d w lt e =
    ap (λ zs. zs ++ joined bs) e ∙ append_assoc b.items c.items (joined bs)
pair-joined (b ∷ bs) (suc k) d w lt e = ap (λ zs. b.items ++ zs) (pair-joined bs k d w (omega (arith, lt)) e)
pair-joined _ _ d w lt e = absurd (omega (arith, lt))

module _ (bs ns : List (ArrayVec ℕ)) (k : ℕ) (u e w : ArrayVec ℕ) (ys : List ℕ) (lt : k + 1 < length bs)
    (upper : u ≡ get_or bs (k + 1) u) (left : ns ≡ remove bs (k + 1)) (lent : e ≡ get_or ns k e)
    (read : ys ≡ u.items) where
  rest : ns ≡ remove bs (suc k)
  rest = let more : k + 1 ≡ suc k = omega arith in left ∙ ap (remove bs) more

  above : u ≡ get_or bs (suc k) u
  above = let more : k + 1 ≡ suc k = omega arith in upper ∙ ap (λ j. get_or bs j u) more

  beside : e ≡ get_or bs k e
  beside = lent ∙ ap (λ cs. get_or cs k e) rest ∙ remove-kept bs k e (omega (arith, lt))

  pub pair-fits : size_at k bs + size_at (k + 1) bs ≤ 64 → length e.items + length ys ≤ 128
  pair-fits few =
      let here = sized k bs e (omega (arith, lt)) beside in
      let next = sized (k + 1) bs u lt upper in let same = ap length read in
      omega (arith, few, here, next, same)

  pub pair-same : w.items ≡ e.items ++ ys → joined (set ns k w) ≡ joined bs
  pair-same put = ap (λ cs. joined (set cs k w)) rest
      ∙ pair-joined bs k e w (omega (arith, lt)) (put ∙ ap₂ (λ vs zs. vs ++ zs)
      (ap (λ (v : ArrayVec ℕ). v.items) beside) (read ∙ ap (λ (v : ArrayVec ℕ). v.items) (above
      ∙ get_or_default bs (suc k) u e (omega (arith, lt)))))

  pub pair-filled : w.items ≡ e.items ++ ys → Filled bs → Filled (set ns k w)
  pair-filled put h =
      let long = ap length put ∙ length-append e.items ys in
      let some = filled-at bs k e h (omega (arith, lt)) in
      let same = ap (λ (v : ArrayVec ℕ). length v.items) beside in
      rw (sym rest)
      at (filled-set (remove bs (suc k)) k w (filled-remove bs (suc k) h) (omega (arith, long, some, same)))

  both : w.items ≡ e.items ++ ys → length w.items ≡ size_at k bs + size_at (suc k) bs
  both put =
      let long = ap length put ∙ length-append e.items ys in
      let here = sized k bs e (omega (arith, lt)) beside in
      let next = sized (suc k) bs u (omega (arith, lt)) above in let same = ap length read in
      omega (arith, long, here, next, same)

  pub pair-opens : w.items ≡ e.items ++ ys → DenseBut 1 1 65 k bs → DenseBut 1 0 65 k (set ns k w)
  pair-opens put h = rw (sym rest) at (pair-next 65 bs k w (omega (arith, lt)) (both put) h)

  pub pair-closes : w.items ≡ e.items ++ ys → DenseBut 1 0 65 (k + 1) bs → Dense 65 (set ns k w)
  pair-closes put h = let next : k + 1 ≡ suc k = omega arith in
      rw (sym rest) at (pair-before 65 bs k w (omega (arith, lt)) (both put) (rw next at h))

-- what a full block has
pub full-length : (k : ℕ) (bs : List (ArrayVec ℕ)) (d : ArrayVec ℕ) (ys : List ℕ) → k < length bs →
    size_at k bs ≡ 128 → d ≡ get_or bs k d → ys ≡ d.items → length ys ≡ 128
full-length k bs d ys lt full is e = ap length e ∙ sym (sized k bs d lt is) ∙ full

-- a list in blocks, and one block more
pub more-dense : (t : ℕ) (xs : List ℕ) (bs cs : List (ArrayVec ℕ)) (b : ArrayVec ℕ) → cs ≡ bs ++ b ∷ [] →
    Dense 65 (bs ++ b ∷ []) → (t < length xs → 64 ≤ length b.items) →
    (w : ArrayVec ℕ) → 0 < length w.items → t < length xs → Dense 65 (cs ++ w ∷ [])
more-dense t xs bs cs b e h full w some lt = let le = full lt in
    rw (sym e) at (dense-push 65 bs b w (omega (arith, le, some)) h)

-- How many lines are listed, how often each of them, and how many values of each set aren't listed, before and after a
-- set of a table becomes another.
use Rattle.std.proofs.Common.{◌≡◌, ℕ, zero, suc, ◌+◌, ◌-◌, ◌*◌, ◌<◌, ◌≤◌, Bool, not, cond, eqb, List, [], ◌∷◌, length}
use Rattle.std.proofs.Common.{get_or, set, replicate, inl, inr, Option, Some, None, refl, sym, ap, ◌∙◌, arith}
use Rattle.std.specs.List.{list_all}
use Rattle.std.proofs.lemmas.Bool.{cases_lt}
use Rattle.std.proofs.lemmas.List.{get_or-map, get_or_past, length-append, length-map, map-set}
use Rattle.line_arena.specs.Arenas.{Lists}
use Rattle.line_arena.specs.CellLists.{look_up}
use Rattle.ranked_lines.specs.Rising.{tally, HasRoom, IsExchanged}
use Rattle.line_sets.specs.declared.entries.Row.{Row}
use Rattle.line_sets.specs.Order.{find, lines_passing, IsDistinct}
use Rattle.line_sets.specs.SetTable.{all_listed, count_of, look, set_at}
use Rattle.line_sets.specs.Stored.{counts_without, sets_of, CanCount, IsStored}
use Rattle.line_sets.proofs.ListedSums.{sum-set, swap-without, weigh, IsSum, IsSwap}
use Rattle.line_sets.proofs.StoredSets.{distinct-at, entries-at, length-sets, read-value, Becomes, IsFound}

length-sum : IsSum length (λ _. 1)
length-sum = record { none = refl; more = λ x xs. omega arith }

-- a line weighs 1 where it is that one
abbrev only : ℕ → ℕ → ℕ
only c line = cond (eqb line c) 1 0

tally-sum : (c : ℕ) → IsSum (tally c) (only c)
tally-sum c = record { none = refl; more = λ x xs. refl }

less-room : (m n : ℕ) (blocks : Option ℕ) → m ≤ n → HasRoom n blocks → HasRoom m blocks
less-room m n None le room = tt
less-room m n (Some k) le room = omega (arith, le, room)

module _ {X : Type 0} (passes : X → Bool) where
  counted-as : (line : ℕ) (o : Option X) → weigh passes (λ _. 1) line o ≡ count_of passes o
  counted-as line None = refl
  counted-as line (Some x) = refl

  weighed : (c line n : ℕ) (o : Option X) → n ≡ count_of passes o → weigh passes (only c) line o ≡ cond (eqb line c) n 0
  weighed c line n o is = grind arith

  one-at-most : (x : X) → count_of passes (Some x) ≤ 1
  one-at-most x = grind arith

  listed-few : (ps : List (ℕ × X)) → length (lines_passing passes ps) ≤ length ps
  listed-few [] = omega arith
  listed-few (p ∷ ps) = let later = listed-few ps in grind arith

  -- one set becomes another
  count-set : {old new : List (ℕ × X)} {line : ℕ} {now : Option X} → IsSwap old new line now →
      length (lines_passing passes new) + count_of passes (find old line)
      ≡ length (lines_passing passes old) + count_of passes now
  count-set {old} {new} {line} {now} swap =
      let all = swap.weighs passes length (λ _. 1) length-sum in let was = counted-as line (find old line) in
      let is = counted-as line now in omega (arith, all, was, is)

  count-all : (sets : List (List (ℕ × X))) (i : ℕ) (ps : List (ℕ × X)) → i < length sets →
      length (all_listed passes (set sets i ps)) + length (lines_passing passes (set_at sets i))
      ≡ length (all_listed passes sets) + length (lines_passing passes ps)
  count-all = sum-set passes length (λ _. 1) length-sum

  pub in-set : (ps : List (ℕ × X)) (line : ℕ) → IsDistinct ps →
      count_of passes (find ps line) ≤ length (lines_passing passes ps)
  in-set ps line once = let cut = count-set (swap-without ps line once) in omega (arith, cut)

  in-all : (sets : List (List (ℕ × X))) (i line : ℕ) → i < length sets → IsDistinct (set_at sets i) →
      count_of passes (look sets i line) ≤ length (all_listed passes sets)
  in-all sets i line h once =
      let one = in-set (set_at sets i) line once in let cut = count-all sets i [] h in omega (arith, one, cut)

  -- no more lines in each set than ways
  all-few : (n : ℕ) (sets : List (List (ℕ × X))) → ((i : ℕ) → i < length sets → length (set_at sets i) ≤ n) →
      length (all_listed passes sets) ≤ length sets * n
  all-few n [] h = omega arith
  all-few n (ps ∷ sets) h =
      let more = length-append (lines_passing passes ps) (all_listed passes sets) in let few = listed-few ps in
      let first = h 0 (omega arith) in let later = all-few n sets (λ i lt. h (suc i) (omega (arith, lt))) in
      omega (arith, more, few, first, later)

  -- a table without lines
  pub none-listed : (n : ℕ) → all_listed passes (replicate n []) ≡ []
  none-listed zero = refl
  none-listed (suc n) = none-listed n

  pub none-anywhere : (n : ℕ) → counts_without passes (replicate n []) ≡ replicate n 0
  none-anywhere zero = refl
  none-anywhere (suc n) = ap (λ ns. 0 ∷ ns) (none-anywhere n)

  module _ {ways : ℕ} {a : Lists (ℕ × X)} {rows : List Row} (stored : IsStored ways a rows) where
    set-short : (i : ℕ) → i < length a.lists → length (set_at (sets_of a.lists) i) ≤ ways
    set-short i h =
        let at : length (set_at (sets_of a.lists) i) ≡ length (get_or a.lists i []) =
        ap length (entries-at a.lists i h) ∙ length-map (get_or a.lists i []) (λ (p : ℕ × (ℕ × X)). (p.1.0, p.1.1)) in
        let within = stored.within i h in omega (arith, at, within)

    few : length (all_listed passes (sets_of a.lists)) ≤ length a.lists * ways
    few =
        let long = length-sets a.lists in
        rw (← long) (all-few ways (sets_of a.lists) (λ i lt. set-short i (omega (arith, lt, long))))

    pub distinct-everywhere : (i : ℕ) → IsDistinct (set_at (sets_of a.lists) i)
    distinct-everywhere i = elim (cases_lt i (length a.lists)) [
      | inl lt ↦ distinct-at i stored lt
      | inr ge ↦ (let long = length-sets a.lists in
          rw (get_or_past (sets_of a.lists) i [] (omega (arith, ge, long))) tt)
    ]

    -- there are not so many lines that their count doesn't fit
    pub next-fits : {count m : ℕ} (x : X) → count ≡ length (all_listed passes (sets_of a.lists)) →
        m ≡ count_of passes (Some x) → count + m ≤ 16385
    next-fits x counted is =
        let most = few in let one = one-at-most x in let narrow = stored.narrow in let small = stored.small in
        grind arith

    -- an order with room for a line in each cell still has it after a change that keeps it while it has room
    pub still-room : {n : ℕ} {old new : Option ℕ} → n ≡ a.cells → HasRoom a.cells old →
        (HasRoom (length (all_listed passes (sets_of a.lists))) old → new ≡ old) → HasRoom n new
    still-room same room kept =
        let cells = stored.cells in rw same (rw (kept (less-room _ _ _ (omega (arith, few, cells)) room)) room)

  -- how many values are listed, and how often each line, after a change
  module _ {ways : ℕ} {a b : Lists (ℕ × X)} {new : List Row} {i : ℕ} {ps : List (ℕ × X)} {line : ℕ}
      {was now : Option X} (change : Becomes ways a b new i ps line now) (old : look (sets_of a.lists) i line ≡ was)
      {n m : ℕ} (went : n ≡ count_of passes was) (came : m ≡ count_of passes now) where
    pub counted : {count : ℕ} → count ≡ length (all_listed passes (sets_of a.lists)) →
        count - n + m ≡ length (all_listed passes (sets_of b.lists))
    counted is =
        let h : i < length (sets_of a.lists) = omega (arith, change.low, length-sets a.lists) in
        let one = count-set change.swap in let all = count-all (sets_of a.lists) i ps h in
        let inside = in-all (sets_of a.lists) i line h change.distinct in let same = ap (count_of passes) old in
        rw change.are (omega (arith, one, all, inside, same))

    pub exchanged : IsExchanged line n m (all_listed passes (sets_of a.lists)) (all_listed passes (sets_of b.lists))
    exchanged c =
        let h : i < length (sets_of a.lists) = omega (arith, change.low, length-sets a.lists) in
        let one = change.swap.weighs passes (tally c) (only c) (tally-sum c) in
        let all = sum-set passes (tally c) (only c) (tally-sum c) (sets_of a.lists) i ps h in
        let before = weighed c line n (look (sets_of a.lists) i line) (went ∙ ap (count_of passes) (sym old)) in
        let after = weighed c line m now came in rw change.are (omega (arith, one, all, before, after))

  pub in-count : {ways : ℕ} {a : Lists (ℕ × X)} {rows : List Row} {i line c : ℕ} {p : ℕ × X} {count n : ℕ} →
      IsFound ways a rows i line c → look_up c a.lists ≡ Some p →
      count ≡ length (all_listed passes (sets_of a.lists)) → n ≡ count_of passes (Some p.1) → n ≤ count
  in-count {a = a} {i = i} {line} found read counted is =
      let inside = in-all (sets_of a.lists) i line (omega (arith, found.low, length-sets a.lists))
      (distinct-at i found.stored found.low) in
      let same = ap (count_of passes) (read-value found read) in omega (arith, inside, same)

-- the counts of values that aren't listed
module _ {X : Type 0} (passes : X → Bool) where
  abbrev fails : X → Bool
  fails x = not (passes x)

  abbrev failing : List (ℕ × X) → ℕ
  failing ps = length (lines_passing fails ps)

  -- none in a set
  pub none-failing : (ps : List (ℕ × X)) → eqb (failing ps) 0 ≡ list_all (λ p. passes p.1) ps
  none-failing [] = refl
  none-failing (p ∷ ps) = let rest = none-failing ps in grind arith

  module _ (a : Lists (ℕ × X)) {counts : List ℕ} (i : ℕ) (low : i < length a.lists)
      (counted : counts ≡ counts_without passes (sets_of a.lists)) where
    here : i < length (sets_of a.lists)
    here = omega (arith, low, length-sets a.lists)

    pub within : i < length counts
    within = (let long = ap length counted ∙ length-map (sets_of a.lists) failing in omega (arith, long, here))

    pub count-at : get_or counts i 0 ≡ failing (set_at (sets_of a.lists) i)
    count-at = ap (λ ns. get_or ns i 0) counted ∙ get_or-map failing (sets_of a.lists) i [] 0 here

  pub can-count : {ways : ℕ} {a : Lists (ℕ × X)} {rows : List Row} {counts : List ℕ} {n m : ℕ}
      {was : Option X}
      (i line : ℕ) → IsStored ways a rows → i < length a.lists → look (sets_of a.lists) i line ≡ was →
      counts ≡ counts_without passes (sets_of a.lists) → n ≡ count_of fails was → m ≤ 1 → CanCount counts i n m
  can-count {a = a} i line stored low old counted went one =
      let at = count-at a i low counted in let short = set-short passes stored i low in
      let most = listed-few fails (set_at (sets_of a.lists) i) in let narrow = stored.narrow in
      let gone = in-set fails (set_at (sets_of a.lists) i) line (distinct-at i stored low) in
      let same = ap (count_of fails) old in
      record {
        there = within a i low counted;
        enough = omega (arith, at, gone, same);
        few = omega (arith, at, short, most, narrow, one);
      }

  pub recounted : {ways : ℕ} {a b : Lists (ℕ × X)} {new : List Row} {i : ℕ} {ps : List (ℕ × X)} {line : ℕ}
      {was now : Option X} {counts : List ℕ} {n m : ℕ} → Becomes ways a b new i ps line now →
      look (sets_of a.lists) i line ≡ was → n ≡ count_of fails was → m ≡ count_of fails now →
      counts ≡ counts_without passes (sets_of a.lists) →
      set counts i (get_or counts i 0 - n + m) ≡ counts_without passes (sets_of b.lists)
  recounted {a = a} {i = i} {ps} {line} {counts = counts} {n} {m} change old went came counted =
      let at = count-at a i change.low counted in let one = count-set fails change.swap in
      let inside = in-set fails (set_at (sets_of a.lists) i) line change.distinct in
      let same = ap (count_of fails) old in
      let is : get_or counts i 0 - n + m ≡ failing ps = omega (arith, at, one, inside, same) in
      ap (set counts i) is ∙ ap (λ ns. set ns i (failing ps)) counted
      ∙ sym (ap (counts_without passes) change.are ∙ map-set failing (sets_of a.lists) i ps)

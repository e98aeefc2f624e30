-- What a row keeps of its list after each change of a cell.
use Rattle.std.proofs.Common.{◌≡◌, ◌≢◌, ℕ, ◌-◌, ◌<◌, inl, inr, true, List, [], ◌∷◌, ◌++◌, length, get_or, set}
use Rattle.std.proofs.Common.{Some, None, refl, sym, ap, ◌∙◌, arith, length-set, get_or-set_same, get_or-set_other}
use Rattle.std.specs.Prelude.{if◌then◌else◌, nat_eq}
use Rattle.std.specs.Option.{is_some}
use Rattle.std.proofs.lemmas.Bool.{cases_eq}
use Rattle.std.proofs.lemmas.List.{length-map, length_push, map_push}
use Rattle.line_arena.specs.CellLists.{find_cell, rewritten}
use Rattle.line_arena.specs.CellLists as cell
use Rattle.line_sets.specs.declared.entries.Row.{Row}
use Rattle.line_sets.specs.Order.{find, put_last, without, IsDistinct}
use Rattle.line_sets.specs.Tags.{tag_of}
use Rattle.line_sets.specs.TaggedRows.{freed, with_line, HasCell}
use Rattle.line_sets.specs.Stored.{tag_in, tags_of, Fits}
use Rattle.line_sets.proofs.MissingLines.{missing-without}
use Rattle.line_sets.proofs.OrderLaws.{IsDistinct-put_last, IsDistinct-without, length-without_exact}
use Rattle.line_sets.proofs.TaggedCells.{CellsOnce, cut-tags, on-line, without_none, written-tags}

-- which place a line had, after the last one took the place of another
abbrev from : ℕ → ℕ → ℕ → ℕ
from at last k = if nat_eq k at then last else k

from-low : (at n k : ℕ) → k < n - 1 → (from at (n - 1) k < n) × (at < n → from at (n - 1) k ≢ at)
from-low at n k low = grind arith

from-once : (at n j k : ℕ) → j < n - 1 → k < n - 1 → from at (n - 1) j ≡ from at (n - 1) k → j ≡ k
from-once at n j k low high same = grind arith

from-back : (at n k : ℕ) → k < n → k ≢ at → at < n →
    (from (n - 1) at k < n - 1) × (from at (n - 1) (from (n - 1) at k) ≡ k)
from-back at n k low apart h = grind arith

from-is : (xs : List ℕ) (at last k : ℕ) → at < length xs →
    get_or (set xs at (get_or xs last 0)) k 0 ≡ get_or xs (from at last k) 0
from-is xs at last k low =
    let here = get_or-set_same xs at (get_or xs last 0) 0 low in
    let other = get_or-set_other xs at k (get_or xs last 0) 0 in let case = cases_eq k at in grind arith

module _ {X : Type 0} where
  -- what a cell has after each change
  moved-cell : (c y : ℕ) (p : ℕ × X) (xs : List (ℕ × (ℕ × X))) →
      find_cell y (cell.without c xs ++ (c, p) ∷ []) ≡ (if nat_eq c y then Some p else find_cell y xs)
  moved-cell c y p [] = refl
  moved-cell c y p (a ∷ xs) = let rest = moved-cell c y p xs in grind arith

  pushed-cell : (c y : ℕ) (p : ℕ × X) (xs : List (ℕ × (ℕ × X))) → find_cell c xs ≡ None →
      find_cell y (xs ++ (c, p) ∷ []) ≡ (if nat_eq c y then Some p else find_cell y xs)
  pushed-cell c y p xs none =
      ap (λ us. find_cell y (us ++ (c, p) ∷ [])) (sym (without_none c xs none)) ∙ moved-cell c y p xs

  cut-cell : (c y : ℕ) (xs : List (ℕ × (ℕ × X))) →
      find_cell y (cell.without c xs) ≡ (if nat_eq c y then None else find_cell y xs)
  cut-cell c y [] = grind arith
  cut-cell c y (a ∷ xs) = let rest = cut-cell c y xs in grind arith

  written-other : (c y : ℕ) (p : ℕ × X) (xs : List (ℕ × (ℕ × X))) → c ≢ y →
      find_cell y (rewritten c p xs) ≡ find_cell y xs
  written-other c y p [] ne = refl
  written-other c y p (a ∷ xs) ne = let rest = written-other c y p xs ne in grind arith

  same-first : (c : ℕ) (p : ℕ × X) (a : ℕ × (ℕ × X)) (xs : List (ℕ × (ℕ × X))) →
      (is_some (find_cell c xs) ≡ true → find_cell c (rewritten c p xs) ≡ Some p) →
      is_some (find_cell c (a ∷ xs)) ≡ true → find_cell c (rewritten c p (a ∷ xs)) ≡ Some p
  same-first c p a xs rest there = grind arith

  written-same : (c : ℕ) (p : ℕ × X) (xs : List (ℕ × (ℕ × X))) → is_some (find_cell c xs) ≡ true →
      find_cell c (rewritten c p xs) ≡ Some p
  written-same c p [] there = cc
  written-same c p (a ∷ xs) there = same-first c p a xs (written-same c p xs) there

  -- the cells have the same tags
  fits-same : {row : Row} {xs : List (ℕ × (ℕ × X))} (ys : List (ℕ × (ℕ × X))) (tags : List (ℕ × ℕ)) → Fits row xs →
      tags_of ys ≡ tags → length tags ≡ length (tags_of xs) → IsDistinct tags → ((y : ℕ) → tag_in ys y ≡ tag_in xs y) →
      Fits row ys
  fits-same {row} {xs} ys tags fits are long distinct same =
      let all : length (tags_of ys) ≡ length ys = length-map ys (λ (a : ℕ × (ℕ × X)). (a.1.0, a.0)) in
      let old : length (tags_of xs) ≡ length xs = length-map xs (λ (a : ℕ × (ℕ × X)). (a.1.0, a.0)) in
      record {
        sized = fits.sized;
        few = fits.few;
        many = fits.many ∙ sym old ∙ sym long ∙ ap length (sym are) ∙ all;
        each = λ k low. same (get_or row.cells k 0) ∙ fits.each k low;
        all = λ c tag e. fits.all c tag (sym (same c) ∙ e);
        once = fits.once;
        lines = rw are distinct;
      }

  pub fits-written : {row : Row} {xs : List (ℕ × (ℕ × X))} (line : ℕ) {c : ℕ} (w : X) → Fits row xs → CellsOnce xs →
      find (tags_of xs) line ≡ Some c → Fits row (rewritten c (line, w) xs)
  fits-written {row} {xs} line {c} w fits once h =
      let on = on-line xs line c once h in let was = on.cell in
      let here = written-same c (line, w) xs (ap is_some was) in
      fits-same (rewritten c (line, w) xs) (tags_of xs) fits (written-tags xs line c w once h) refl fits.lines
      (λ y. let other = written-other c y (line, w) xs in let case = cases_eq c y in grind arith)

  pub fits-moved : {row : Row} {xs : List (ℕ × (ℕ × X))} (line : ℕ) {c : ℕ} (w : X) → Fits row xs → CellsOnce xs →
      find (tags_of xs) line ≡ Some c → Fits row (cell.without c xs ++ (c, (line, w)) ∷ [])
  fits-moved {row} {xs} line {c} w fits once h =
      let on = on-line xs line c once h in let was = on.cell in
      let fewer = length-without_exact (tags_of xs) line fits.lines (ap is_some h) in
      let more = length_push (without (tags_of xs) line) (line, c) in
      fits-same (cell.without c xs ++ (c, (line, w)) ∷ []) (put_last (tags_of xs) line c) fits
      (map_push _ (cell.without c xs) (c, (line, w))
      ∙ ap (λ us. us ++ (line, c) ∷ []) (cut-tags xs line c once fits.lines h))
      (omega arith) (IsDistinct-put_last (tags_of xs) line c fits.lines)
      (λ y. let now = moved-cell c y (line, w) xs in grind arith)

  pub fits-pushed : {row : Row} {xs : List (ℕ × (ℕ × X))} (line c : ℕ) (v : X) → Fits row xs →
      find (tags_of xs) line ≡ None → find_cell c xs ≡ None → row.count < 16 →
      Fits (with_line line c row) (xs ++ (c, (line, v)) ∷ [])
  fits-pushed {row} {xs} line c v fits none fresh room =
      let gone = missing-without (tags_of xs) line (ap is_some none) in
      let now = λ (y : ℕ). pushed-cell c y (line, v) xs fresh in
      let sized = fits.sized in
      let tag = get_or-set_same row.tags row.count (tag_of line) 0 (omega arith) in
      let here = get_or-set_same row.cells row.count c 0 (omega arith) in
      let tags = λ (k : ℕ). get_or-set_other row.tags row.count k (tag_of line) 0 in
      let others = λ (k : ℕ). get_or-set_other row.cells row.count k c 0 in
      record {
        sized = (length-set row.tags row.count _ ∙ sized.0, length-set row.cells row.count _ ∙ sized.1);
        few = omega arith;
        many = (let all = length_push xs (c, (line, v)) in let many = fits.many in omega (arith, all, many));
        each = λ k low. let case = cases_eq k row.count in let old = fits.each k in let t = tags k in
            let o = others k in let n = now (get_or row.cells k 0) in let m = now c in grind arith;
        all = λ y t e. elim (cases_eq c y) [
          | inl is ↦ record { place = row.count; low = omega arith; is = here ∙ is }
          | inr ne ↦ (let n = now y in let had = fits.all y t (grind arith) in
              record {
                place = had.place;
                low = (let l = had.low in omega arith);
                is = others had.place (λ same. (let l = had.low in absurd (omega arith))) ∙ had.is;
              })
        ];
        once = λ j k low high same. let a = cases_eq j row.count in let b = cases_eq k row.count in
            let old = fits.once j k in let oj = others j in let ok = others k in let ej = fits.each j in
            let ek = fits.each k in grind arith;
        lines = rw (map_push _ xs (c, (line, v)) ∙ ap (λ us. us ++ (line, c) ∷ []) (sym gone))
            (IsDistinct-put_last (tags_of xs) line c fits.lines);
      }

  pub fits-cut : {row : Row} {xs : List (ℕ × (ℕ × X))} (line : ℕ) {c : ℕ} → Fits row xs → CellsOnce xs →
      find (tags_of xs) line ≡ Some c → (had : HasCell row c) → Fits (freed had.place row) (cell.without c xs)
  fits-cut {row} {xs} line {c} fits once h had =
      let at = had.place in let n = row.count in let low = had.low in let few = fits.few in let sized = fits.sized in
      let tags : tags_of (cell.without c xs) ≡ without (tags_of xs) line = cut-tags xs line c once fits.lines h in
      let fewer = length-without_exact (tags_of xs) line fits.lines (ap is_some h) in
      let new : length (tags_of (cell.without c xs)) ≡ length (cell.without c xs) =
      length-map (cell.without c xs) (λ (a : ℕ × (ℕ × X)). (a.1.0, a.0)) in
      let old : length (tags_of xs) ≡ length xs = length-map xs (λ (a : ℕ × (ℕ × X)). (a.1.0, a.0)) in
      let same = ap length tags in let many = fits.many in
      let tag = λ (k : ℕ). from-is row.tags at (n - 1) k (omega arith) in
      let cells = λ (k : ℕ). from-is row.cells at (n - 1) k (omega arith) in
      record {
        sized = (length-set row.tags at _ ∙ sized.0, length-set row.cells at _ ∙ sized.1);
        few = omega arith;
        many = omega arith;
        each = λ k lt. let f = from at (n - 1) k in let l = from-low at n k lt in let is = fits.each f l.0 in
            let apart = fits.once f at l.0 low in let had_is = had.is in
            let now = cut-cell c (get_or row.cells f 0) xs in let t = tag k in let u = cells k in
            let ne = l.1 low in grind arith;
        all = λ y t e. let now = cut-cell c y xs in let was = fits.all y t (grind arith) in
            let had_is = had.is in let was_is = was.is in
            let b = from-back at n was.place was.low (λ p. (let cy : c ≡ y =
            sym had_is ∙ ap (λ k. get_or row.cells k 0) (sym p) ∙ was_is in grind arith)) low in
            record {
              place = from (n - 1) at was.place;
              low = b.0;
              is = cells (from (n - 1) at was.place) ∙ ap (λ k. get_or row.cells k 0) b.1 ∙ was_is;
            };
        once = λ j k lt gt e. from-once at n j k lt gt (fits.once (from at (n - 1) j) (from at (n - 1) k)
            (from-low at n j lt).0 (from-low at n k gt).0 (sym (cells j) ∙ e ∙ cells k));
        lines = rw tags (IsDistinct-without (tags_of xs) line fits.lines);
      }

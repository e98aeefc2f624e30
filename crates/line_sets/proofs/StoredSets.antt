-- What a table keeps when one cell is put, written, moved or taken off, and what its sets are then.
use Rattle.std.proofs.Common.{◌≡◌, ◌≢◌, ℕ, zero, suc, ◌*◌, ◌<◌, ◌≤◌, inl, inr, true, List, [], ◌∷◌, ◌++◌, map}
use Rattle.std.proofs.Common.{length, get_or, set, replicate, Option, Some, None, refl, sym, ap, ◌∙◌, arith}
use Rattle.std.proofs.Common.{length-set, get_or-set_same, get_or-set_other, sum_by}
use Rattle.std.specs.Prelude.{Result, Ok, Err, IsOk, IsErr}
use Rattle.std.specs.Option.{is_some}
use Rattle.std.proofs.lemmas.Bool.{cases_eq}
use Rattle.std.proofs.lemmas.List.{get_or-map, length-map, length-replicate, length_push, map-set, set-set}
use Rattle.std.proofs.lemmas.List.{set-get_or}
use Rattle.std.proofs.lemmas.List.Elements.{All-from_get_or}
use Rattle.std.proofs.lemmas.List.Sums.{sum_by-cons, sum_by-le}
use Rattle.line_arena.specs.CellLists.{find_cell, look_up, next_in, next_cell, or_else, rewritten}
use Rattle.line_arena.specs.CellLists as cell
use Rattle.line_arena.specs.Arenas.{Lists, lists_of, pushed, unlinked, cell_in, free_cells, AreCells}
use Rattle.line_arena.specs.Arenas.{IsOnce}
use Rattle.line_arena.specs.ListLaws.{LookUpLaws, WithoutLaws}
use Rattle.line_sets.specs.Order.{find, put_last, put_in_place, without, IsDistinct}
use Rattle.line_sets.specs.SetTable.{Sets, set_at, look, has_place, drop_line}
use Rattle.line_sets.specs.Stored.{entries_of, tags_of, sets_of, Fits, IsStored}
use Rattle.line_sets.specs.declared.entries.Row.{Row}
use Rattle.line_sets.specs.TaggedRows.{freed, no_row, row_at, with_line, IsCut}
use Rattle.line_sets.proofs.MissingLines.{missing-find, missing-without}
use Rattle.line_sets.proofs.ListedSums.{IsSwap, swap-put_last, swap-put_in_place, swap-without}
use Rattle.line_sets.proofs.TaggedCells.{CellsOnce, apart, none_or_some, rewritten_none, on-line}
use Rattle.line_sets.proofs.TaggedCells.{entry-there, cut-entries, written-entries, moved-entries, pushed-entries}
use Rattle.line_sets.proofs.RowFits.{fits-pushed, fits-written, fits-moved, fits-cut}
use Rattle.line_sets.proofs.RowLaws.{same-at}

module _ {X : Type 0} where
  -- a table by its two parts
  abbrev pub table_of : ℕ → List (List (ℕ × X)) → Sets X
  table_of ways sets = record { ways = ways; sets = sets }

  pub length-sets : (ls : List (List (ℕ × (ℕ × X)))) → length (sets_of ls) ≡ length ls
  length-sets ls = length-map ls entries_of

  -- a set of the table is one of the arena's lists
  pub below : {ways : ℕ} {a : Lists (ℕ × X)} {rows : List Row} {now : Sets X} (i : ℕ) → IsStored ways a
      rows → table_of ways (sets_of a.lists) ≡ now → i < length now.sets → i < length a.lists
  below {a = a} i stored is h =
      let same = ap (λ t. length t.sets) is in let long = length-sets a.lists in omega (arith, same, long)

  pub entries-at : (ls : List (List (ℕ × (ℕ × X)))) (i : ℕ) → i < length ls →
      set_at (sets_of ls) i ≡ entries_of (get_or ls i [])
  entries-at ls i h = get_or-map entries_of ls i [] [] h

  -- no line is twice in a set of a table
  distinct-entries : (xs : List (ℕ × (ℕ × X))) → IsDistinct (tags_of xs) → IsDistinct (entries_of xs)
  distinct-entries [] h = tt
  distinct-entries (a ∷ xs) h = (entry-there xs a.1.0 ∙ h.0, distinct-entries xs h.1)

  pub distinct-at : {ways : ℕ} {a : Lists (ℕ × X)} {rows : List Row} (i : ℕ) → IsStored ways a rows →
      i < length a.lists → IsDistinct (set_at (sets_of a.lists) i)
  distinct-at {a = a} i stored h =
      rw (entries-at a.lists i h) (distinct-entries (get_or a.lists i []) (stored.fits i h).lines)

  -- a line that its row has, by its cell
  pub record IsFound (ways : ℕ) (a : Lists (ℕ × X)) (rows : List Row) (i line c : ℕ) : Type 0 where
    pub stored : IsStored ways a rows
    pub once : IsOnce a.lists
    pub laws : LookUpLaws (ℕ × X)
    pub low : i < length a.lists
    pub tag : find (tags_of (get_or a.lists i [])) line ≡ Some c
    pub value : X
    pub here : find_cell c (get_or a.lists i []) ≡ Some (line, value)
    pub cell : look_up c a.lists ≡ Some (line, value)
    pub entry : look (sets_of a.lists) i line ≡ Some value

  pub is-found : {ways : ℕ} {a : Lists (ℕ × X)} {rows : List Row} {now : Sets X} {i line c : ℕ} →
      IsStored ways a rows → IsOnce a.lists → LookUpLaws (ℕ × X) → table_of ways (sets_of a.lists) ≡ now →
      i < length now.sets → find (tags_of (get_or a.lists i [])) line ≡ Some c → IsFound ways a rows i line c
  is-found {a = a} {i = i} {line = line} {c = c} stored once laws is h tag =
      let low = below i stored is h in
      let on = on-line (get_or a.lists i []) line c (apart a.lists i once) tag in
      record {
        stored = stored;
        once = once;
        laws = laws;
        low = low;
        tag = tag;
        value = on.value;
        here = on.cell;
        cell = laws.here a.lists i c (line, on.value) once on.cell;
        entry = ap (λ us. find us line) (entries-at a.lists i low) ∙ on.entry;
      }

  -- the value of a pair that is read
  pub read-value : {ways : ℕ} {a : Lists (ℕ × X)} {rows : List Row} {i line c : ℕ} {p : ℕ × X} →
      IsFound ways a rows i line c → look_up c a.lists ≡ Some p → look (sets_of a.lists) i line ≡ Some p.1
  read-value {line = line} {p = p} found read =
      let same : Some p ≡ Some (line, found.value) = sym read ∙ found.cell in
      let is : p ≡ (line, found.value) = cc in found.entry ∙ ap (λ (q : ℕ × X). Some q.1) (sym is)

  -- a line that its row doesn't have
  pub is-missing : {ways : ℕ} {a : Lists (ℕ × X)} {rows : List Row} {now : Sets X} (i line : ℕ) →
      IsStored ways a rows → table_of ways (sets_of a.lists) ≡ now → i < length now.sets →
      find (tags_of (get_or a.lists i [])) line ≡ None → look now.sets i line ≡ None
  is-missing {a = a} i line stored is h none =
      let low = below i stored is h in
      ap (λ t. look t.sets i line) (sym is) ∙ ap (λ us. find us line) (entries-at a.lists i low)
      ∙ missing-find (entries_of (get_or a.lists i [])) line
      (entry-there (get_or a.lists i []) line ∙ ap is_some none)

  -- a line that its set doesn't have, and for which it has room
  pub record IsNew (ways : ℕ) (a : Lists (ℕ × X)) (rows : List Row) (i line : ℕ) : Type 0 where
    pub stored : IsStored ways a rows
    pub low : i < length a.lists
    pub absent : look (sets_of a.lists) i line ≡ None
    pub none : find (tags_of (get_or a.lists i [])) line ≡ None
    pub room : length (get_or a.lists i []) < ways
    pub row_room : (row_at rows i).count < 16

  in-room : (table : Sets X) (i line : ℕ) → look table.sets i line ≡ None → has_place table i line ≡ true →
      length (set_at table.sets i) < table.ways
  in-room table i line absent place = grind arith

  pub is-new : {ways : ℕ} {a : Lists (ℕ × X)} {rows : List Row} {now : Sets X} {i line : ℕ} →
      IsStored ways a rows → table_of ways (sets_of a.lists) ≡ now → i < length now.sets → look now.sets i line ≡ None →
      has_place now i line ≡ true → IsNew ways a rows i line
  is-new {ways} {a} {rows} {now} {i} {line} stored is h absent place =
      let low = below i stored is h in let fits = stored.fits i low in let narrow = stored.narrow in
      let long : length (set_at (sets_of a.lists) i) ≡ length (get_or a.lists i []) =
      ap length (entries-at a.lists i low) ∙ length-map (get_or a.lists i []) (λ (p : ℕ × (ℕ × X)). (p.1.0, p.1.1)) in
      let gone : look (sets_of a.lists) i line ≡ None = ap (λ t. look t.sets i line) is ∙ absent in
      let room = in-room (table_of ways (sets_of a.lists)) i line gone (ap (λ t. has_place t i line) is ∙ place) in
      let many = fits.many in
      record {
        stored = stored;
        low = low;
        absent = gone;
        none = missing-find (tags_of (get_or a.lists i [])) line (sym (entry-there (get_or a.lists i []) line)
            ∙ ap is_some (ap (λ us. find us line) (sym (entries-at a.lists i low)) ∙ gone));
        room = omega arith;
        row_room = omega arith;
      }

  -- what an arena and the rows of a table are after a set became another, and the table with them
  pub record Becomes (ways : ℕ) (a new : Lists (ℕ × X)) (rows : List Row) (i : ℕ) (ps : List (ℕ × X))
      (line : ℕ)
      (now : Option X) : Type 0 where
    pub stored : IsStored ways new rows
    pub are : sets_of new.lists ≡ set (sets_of a.lists) i ps
    pub swap : IsSwap (set_at (sets_of a.lists) i) ps line now
    pub cells : new.cells ≡ a.cells
    pub low : i < length a.lists
    pub distinct : IsDistinct (set_at (sets_of a.lists) i)

  stored-set : {ways : ℕ} {a : Lists (ℕ × X)} {rows : List Row} (i : ℕ) (row : Row) (xs : List (ℕ × (ℕ × X))) →
      IsStored ways a rows → i < length a.lists → length xs ≤ ways → Fits row xs →
      IsStored ways (lists_of (set a.lists i xs) a.cells) (set rows i row)
  stored-set {ways} {a} {rows} i row xs stored h short fits =
      let same = length-set a.lists i xs in let many = stored.many in
      record {
        cells = stored.cells ∙ ap (λ n. n * ways) (sym same);
        narrow = stored.narrow;
        small = rw same stored.small;
        many = length-set rows i row ∙ many ∙ sym same;
        within = λ j lt. let here = get_or-set_same a.lists i xs [] h in
            let other = get_or-set_other a.lists i j xs [] in let was = stored.within j in let case = cases_eq j i in
            grind arith;
        fits = λ j lt. elim (cases_eq j i) [
          | inl e ↦ rw (e, get_or-set_same rows i row no_row (omega (arith, many)), get_or-set_same a.lists i xs [] h)
              fits
          | inr ne ↦ rw (get_or-set_other rows i j row no_row ne, get_or-set_other a.lists i j xs [] ne)
              (stored.fits j (omega (arith, same)))
        ];
      }

  -- one list and its row are changed
  becomes : {ways : ℕ} {a b : Lists (ℕ × X)} {rows new : List Row} {i line : ℕ} {ps : List (ℕ × X)}
      {now : Option X} (row : Row) (xs : List (ℕ × (ℕ × X))) → IsStored ways a rows → i < length a.lists →
      IsSwap (set_at (sets_of a.lists) i) ps line now → b ≡ lists_of (set a.lists i xs) a.cells → new ≡ set rows i row →
      length xs ≤ ways → Fits row xs → entries_of xs ≡ ps → Becomes ways a b new i ps line now
  becomes {a = a} {i = i} row xs stored h swap is row_is short fits are = record {
    stored = rw (is, row_is) (stored-set i row xs stored h short fits);
    are = ap (λ u. sets_of u.lists) is ∙ map-set entries_of a.lists i xs ∙ ap (set (sets_of a.lists) i) are;
    swap = swap;
    cells = ap (λ u. u.cells) is;
    low = h;
    distinct = distinct-at i stored h;
  }

  -- a cell is on one list alone
  mapped-none : (f : List (ℕ × (ℕ × X)) → List (ℕ × (ℕ × X))) (ls : List (List (ℕ × (ℕ × X)))) →
      ((j : ℕ) → j < length ls → f (get_or ls j []) ≡ get_or ls j []) → map f ls ≡ ls
  mapped-none f [] h = refl
  mapped-none f (xs ∷ ls) h = λ k. h 0 (omega arith) k ∷ mapped-none f ls (λ j lt. h (suc j) (omega (arith, lt))) k

  mapped-one : (f : List (ℕ × (ℕ × X)) → List (ℕ × (ℕ × X))) (ls : List (List (ℕ × (ℕ × X)))) (i : ℕ) → i < length ls →
      ((j : ℕ) → j < length ls → j ≢ i → f (get_or ls j []) ≡ get_or ls j []) → map f ls ≡ set ls i
      (f (get_or ls i []))
  mapped-one f [] i h same = absurd (omega (arith, h))
  mapped-one f (xs ∷ ls) zero h same =
      ap (λ us. f xs ∷ us) (mapped-none f ls (λ j lt. same (suc j) (omega (arith, lt)) (omega arith)))
  mapped-one f (xs ∷ ls) (suc i) h same = λ k. same 0 (omega arith) (omega arith) k
      ∷ mapped-one f ls i (omega (arith, h)) (λ j lt ne. same (suc j) (omega (arith, lt)) (omega (arith, ne))) k

  written-lists : {ways : ℕ} {a : Lists (ℕ × X)} {rows : List Row} {i line c : ℕ} (w : ℕ × X) →
      IsFound ways a rows i line c → map (rewritten c w) a.lists ≡ set a.lists i (rewritten c w (get_or a.lists i []))
  written-lists {a = a} {i = i} {c = c} w found = mapped-one (rewritten c w) a.lists i found.low
      (λ j lt ne. rewritten_none c w (get_or a.lists j []) (elim (none_or_some c (get_or a.lists j [])) [
        | inl none ↦ none
        | inr some ↦ absurd (ne (found.laws.one a.lists j i c found.once some (ap is_some found.here)))
      ]))

  cut-lists : {ways : ℕ} {a : Lists (ℕ × X)} {rows : List Row} {i line c : ℕ} → IsFound ways a rows i line
      c → WithoutLaws (ℕ × X) → map (cell.without c) a.lists ≡ set a.lists i (cell.without c (get_or a.lists i []))
  cut-lists {a = a} {i = i} {c = c} found laws = mapped-one (cell.without c) a.lists i found.low
      (λ j lt ne. laws.apart a.lists c i j found.once (ap is_some found.here) ne)

  -- the arena with a written value
  abbrev pub written-in : ℕ → ℕ × X → Lists (ℕ × X) → Lists (ℕ × X)
  written-in c w a = lists_of (map (rewritten c w) a.lists) a.cells

  -- a cell's value is written
  pub written : {ways : ℕ} {a : Lists (ℕ × X)} {rows : List Row} {i line c : ℕ} (w : X) →
      IsFound ways a rows i line c →
      Becomes ways a (written-in c (line, w) a) rows i (put_in_place (set_at (sets_of a.lists) i) line w) line (Some w)
  written {a = a} {rows} {i} {line} {c} w found =
      let fits = found.stored.fits i found.low in let cells = apart a.lists i found.once in
      let kept = fits-written line w fits cells found.tag in
      becomes (row_at rows i) (rewritten c (line, w) (get_or a.lists i [])) found.stored found.low
      (swap-put_in_place (set_at (sets_of a.lists) i) line w (ap is_some found.entry))
      (ap (λ us. lists_of us a.cells) (written-lists (line, w) found)) (sym (set-get_or rows i no_row))
      (omega (arith, kept.many, fits.many, found.stored.within i found.low)) kept
      (written-entries (get_or a.lists i []) line c w cells found.tag
      ∙ ap (λ us. put_in_place us line w) (sym (entries-at a.lists i found.low)))

  -- a cell's list has it at its end
  last-put : {ways : ℕ} {a b : Lists (ℕ × X)} {rows : List Row} {i line c : ℕ} (w : X) →
      IsFound ways a rows i line c →
      b ≡ lists_of (set a.lists i (cell.without c (get_or a.lists i []) ++ (c, (line, w)) ∷ [])) a.cells →
      Becomes ways a b rows i (put_last (set_at (sets_of a.lists) i) line w) line (Some w)
  last-put {a = a} {rows = rows} {i} {line} {c} w found is =
      let fits = found.stored.fits i found.low in let cells = apart a.lists i found.once in
      let kept = fits-moved line w fits cells found.tag in
      becomes (row_at rows i) (cell.without c (get_or a.lists i []) ++ (c, (line, w)) ∷ [])
      found.stored found.low
      (swap-put_last (set_at (sets_of a.lists) i) line w (distinct-at i found.stored found.low)) is
      (sym (set-get_or rows i no_row))
      (omega (arith, kept.many, fits.many, found.stored.within i found.low)) kept
      (moved-entries (get_or a.lists i []) line c w cells fits.lines found.tag
      ∙ ap (λ us. put_last us line w) (sym (entries-at a.lists i found.low)))

  -- a cell's value is written, and the cell moved to the end of its list
  cut-written : (c : ℕ) (w : ℕ × X) (xs : List (ℕ × (ℕ × X))) → cell.without c (rewritten c w xs) ≡ cell.without c xs
  cut-written c w [] = refl
  cut-written c w (a ∷ xs) = let rest = cut-written c w xs in grind arith

  all-cut : (c : ℕ) (w : ℕ × X) (ls : List (List (ℕ × (ℕ × X)))) →
      map (cell.without c) (map (rewritten c w) ls) ≡ map (cell.without c) ls
  all-cut c w [] = refl
  all-cut c w (xs ∷ ls) = λ k. cut-written c w xs k ∷ all-cut c w ls k

  pub used : {ways : ℕ} {a b : Lists (ℕ × X)} {rows : List Row} {i line c : ℕ} (w : X) →
      IsFound ways a rows i line c → WithoutLaws (ℕ × X) →
      b ≡ pushed i (c, (line, w)) (unlinked c (written-in c (line, w) a)) →
      Becomes ways a b rows i (put_last (set_at (sets_of a.lists) i) line w) line (Some w)
  used {a = a} {i = i} {line} {c} w found laws is =
      let cut : List (ℕ × (ℕ × X)) = cell.without c (get_or a.lists i []) in
      let end = λ (us : List (ℕ × (ℕ × X))). us ++ (c, (line, w)) ∷ [] in
      last-put w found (is ∙ ap (λ us. lists_of us a.cells) (ap (λ us. set us i (end (get_or us i [])))
      (all-cut c (line, w) a.lists ∙ cut-lists found laws)
      ∙ ap (λ us. set (set a.lists i cut) i (end us)) (get_or-set_same a.lists i cut [] found.low)
      ∙ set-set a.lists i cut (end cut)))

  -- a line that is there and the most recently used one stays where it is
  last-cell : (c : ℕ) (w : ℕ × X) (xs : List (ℕ × (ℕ × X))) → CellsOnce xs → is_some (find_cell c xs) ≡ true →
      next_in c xs ≡ None → rewritten c w xs ≡ cell.without c xs ++ (c, w) ∷ []
  last-cell c w [] once there none = cc
  last-cell c w (a ∷ []) once there none = grind arith
  last-cell c w (a ∷ b ∷ xs) once there none = let rest = last-cell c w (b ∷ xs) once.1 in grind arith

  next-written : (c : ℕ) (w : ℕ × X) (xs : List (ℕ × (ℕ × X))) → next_in c (rewritten c w xs) ≡ next_in c xs
  next-written c w (a ∷ b ∷ xs) = let rest = next-written c w (b ∷ xs) in grind arith
  next-written c w _ = refl

  all-next : (c : ℕ) (w : ℕ × X) (ls : List (List (ℕ × (ℕ × X)))) →
      next_cell c (map (rewritten c w) ls) ≡ next_cell c ls
  all-next c w [] = refl
  all-next c w (xs ∷ ls) = λ k. or_else (next-written c w xs k) (all-next c w ls k)

  pub used-last : {ways : ℕ} {a : Lists (ℕ × X)} {rows : List Row} {i line c : ℕ} (w : X) →
      IsFound ways a rows i line c → next_cell c (written-in c (line, w) a).lists ≡ None →
      Becomes ways a (written-in c (line, w) a) rows i (put_last (set_at (sets_of a.lists) i) line w) line (Some w)
  used-last {a = a} {i = i} {line} {c} w found last =
      let there = ap is_some found.here in
      let none = sym (found.laws.after a.lists i c found.once there) ∙ sym (all-next c (line, w) a.lists) ∙ last in
      last-put w found (ap (λ us. lists_of us a.cells) (written-lists (line, w) found
      ∙ ap (set a.lists i) (last-cell c (line, w) (get_or a.lists i []) (apart a.lists i found.once) there none)))

  find-first : (c : ℕ) (w : ℕ × X) (a : ℕ × (ℕ × X)) (xs : List (ℕ × (ℕ × X))) (o p : Option (ℕ × X)) →
      (is_some (or_else (find_cell c xs) o) ≡ true → or_else (find_cell c (rewritten c w xs)) p ≡ Some w) →
      is_some (or_else (find_cell c (a ∷ xs)) o) ≡ true → or_else (find_cell c (rewritten c w (a ∷ xs))) p ≡ Some w
  find-first c w a xs o p rest h = grind arith

  find-written : (c : ℕ) (w : ℕ × X) (xs : List (ℕ × (ℕ × X))) (o p : Option (ℕ × X)) →
      (is_some o ≡ true → p ≡ Some w) → is_some (or_else (find_cell c xs) o) ≡ true →
      or_else (find_cell c (rewritten c w xs)) p ≡ Some w
  find-written c w [] o p rest h = rest h
  find-written c w (a ∷ xs) o p rest h = find-first c w a xs o p (find-written c w xs o p rest) h

  pub written-there : (c : ℕ) (w : ℕ × X) (ls : List (List (ℕ × (ℕ × X)))) → is_some (look_up c ls) ≡ true →
      look_up c (map (rewritten c w) ls) ≡ Some w
  written-there c w [] h = cc
  written-there c w (xs ∷ ls) h = find-written c w xs (look_up c ls) _ (written-there c w ls) h

  -- a cell is taken off, and its line out of its row
  pub cut-off : {ways : ℕ} {a b : Lists (ℕ × X)} {rows new : List Row} {i line c : ℕ} →
      IsFound ways a rows i line c → WithoutLaws (ℕ × X) → b ≡ unlinked c a → IsCut rows i c new →
      Becomes ways a b new i (without (set_at (sets_of a.lists) i) line) line None
  cut-off {a = a} {rows = rows} {i = i} {line} {c} found laws is cut =
      let fits = found.stored.fits i found.low in let cells = apart a.lists i found.once in
      let left = fits-cut line fits cells found.tag cut.had in
      becomes (freed cut.had.place (row_at rows i)) (cell.without c (get_or a.lists i [])) found.stored found.low
      (swap-without (set_at (sets_of a.lists) i) line (distinct-at i found.stored found.low))
      (is ∙ ap (λ us. lists_of us a.cells) (cut-lists found laws)) cut.is
      (omega (arith, left.many, fits.many, found.stored.within i found.low)) left
      (cut-entries (get_or a.lists i []) line c cells fits.lines found.tag
      ∙ ap (λ us. without us line) (sym (entries-at a.lists i found.low)))

  -- a cell that is on no list
  nowhere-at : (c : ℕ) (ls : List (List (ℕ × (ℕ × X)))) (i : ℕ) → look_up c ls ≡ None →
      find_cell c (get_or ls i []) ≡ None
  nowhere-at c [] i none = refl
  nowhere-at c (xs ∷ ls) zero none = grind arith
  nowhere-at c (xs ∷ ls) (suc i) none = nowhere-at c ls i (grind arith)

  -- a new line is put
  pub put-new : {ways : ℕ} {a b : Lists (ℕ × X)} {rows new : List Row} {i line : ℕ} (c : ℕ) (v : X) →
      IsNew ways a rows i line → look_up c a.lists ≡ None → b ≡ pushed i (c, (line, v)) a →
      new ≡ set rows i (with_line line c (row_at rows i)) →
      Becomes ways a b new i (put_last (set_at (sets_of a.lists) i) line v) line (Some v)
  put-new {a = a} {rows = rows} {i = i} {line} c v fresh free is row_is =
      let fits = fresh.stored.fits i fresh.low in
      becomes (with_line line c (row_at rows i)) (get_or a.lists i [] ++ (c, (line, v)) ∷ [])
      fresh.stored fresh.low
      (swap-put_last (set_at (sets_of a.lists) i) line v (distinct-at i fresh.stored fresh.low)) is row_is
      (let more = length_push (get_or a.lists i []) (c, (line, v)) in let room = fresh.room in omega arith)
      (fits-pushed line c v fits fresh.none (nowhere-at c a.lists i free) fresh.row_room)
      (pushed-entries (get_or a.lists i []) line c v fresh.none
      ∙ ap (λ us. put_last us line v) (sym (entries-at a.lists i fresh.low)))

  -- its cell's number is small
  end-cell : (xs : List (ℕ × (ℕ × X))) (p : ℕ × (ℕ × X)) → cell_in (xs ++ p ∷ []) (length xs) ≡ Some p.0
  end-cell [] p = refl
  end-cell (a ∷ xs) p = end-cell xs p

  pub small-cell : {ways : ℕ} {a b : Lists (ℕ × X)} {rows : List Row} {i line c : ℕ} (v : X) →
      IsNew ways a rows i line → AreCells b → b ≡ pushed i (c, (line, v)) a → c < 65536
  small-cell {a = a} {i = i} {line} {c} v fresh are is =
      let xs = get_or a.lists i [] in
      let at = ap (λ u. cell_in (get_or u.lists i []) (length xs)) is
      ∙ ap (λ us. cell_in us (length xs)) (get_or-set_same a.lists i (xs ++ (c, (line, v)) ∷ []) [] fresh.low)
      ∙ end-cell xs (c, (line, v)) in
      let below = are.below i (length xs) c at in let same = ap (λ u. u.cells) is in let cells = fresh.stored.cells in
      let narrow = fresh.stored.narrow in let small = fresh.stored.small in grind arith

  -- no line is taken out
  pub nothing-cut : {ways : ℕ} {a : Lists (ℕ × X)} {rows : List Row} {now : Sets X} (i line : ℕ) →
      IsStored ways a rows → table_of ways (sets_of a.lists) ≡ now → i < length now.sets →
      find (tags_of (get_or a.lists i [])) line ≡ None → now.sets ≡ drop_line now.sets i line
  nothing-cut {now = now} i line stored is h none =
      sym (ap (set now.sets i) (missing-without (set_at now.sets i) line
      (ap is_some (is-missing i line stored is h none))) ∙ set-get_or now.sets i [])

  -- where a set has room, a cell is free
  sum-below : (ways : ℕ) (ls : List (List (ℕ × (ℕ × X)))) → ((j : ℕ) → j < length ls → length (get_or ls j []) ≤ ways) →
      sum_by length ls ≤ length ls * ways
  sum-below ways ls all = sum_by-le length ways ls (All-from_get_or (λ xs. length xs ≤ ways) ls [] all)

  sum-less : (ways : ℕ) (ls : List (List (ℕ × (ℕ × X)))) (i : ℕ) →
      ((j : ℕ) → j < length ls → length (get_or ls j []) ≤ ways) → i < length ls → length (get_or ls i []) < ways →
      sum_by length ls < length ls * ways
  sum-less ways [] i all h room = absurd (omega arith)
  sum-less ways (xs ∷ ls) zero all h room =
      let one = sum_by-cons length xs ls in
      let rest = sum-below ways ls (λ j lt. all (suc j) (omega arith)) in omega arith
  sum-less ways (xs ∷ ls) (suc i) all h room =
      let one = sum_by-cons length xs ls in let first = all 0 (omega arith) in
      let rest = sum-less ways ls i (λ j lt. all (suc j) (omega arith)) (omega arith) room in omega arith

  pub is-free : {ways : ℕ} {a : Lists (ℕ × X)} {rows : List Row} {i line : ℕ} → IsNew ways a rows i line →
      free_cells a ≢ 0
  is-free {ways} {a} {i = i} fresh none =
      let less = sum-less ways a.lists i fresh.stored.within fresh.low fresh.room in
      let cells = fresh.stored.cells in absurd (omega arith)

pub is-ok : {A B : Type 0} (r : Result A B) → (IsErr r → ⊥) → IsOk r
is-ok (Ok x) never = refl
is-ok (Err x) never = absurd (never refl)

-- a table without lines
pub sets-empty : {X : Type 0} (n : ℕ) → sets_of {X = X} (replicate n []) ≡ replicate n []
sets-empty zero = refl
sets-empty (suc n) = ap (λ us. [] ∷ us) (sets-empty n)

empty-at : {X : Type 0} (n i : ℕ) → get_or {A = List (ℕ × (ℕ × X))} (replicate n []) i [] ≡ []
empty-at n i = same-at n i []

pub stored-empty :
    {X : Type 0} (ways sets : ℕ) (a : Lists (ℕ × X)) (rows : List Row) → ways ≤ 16 → sets ≤ 1024 →
    a ≡ lists_of (replicate sets []) (sets * ways) → rows ≡ replicate sets no_row → IsStored ways a rows
stored-empty {X} ways sets a rows narrow small is empty =
    let long : length (replicate {A = List (ℕ × (ℕ × X))} sets []) ≡ sets = length-replicate sets [] in
    let many : length (replicate {A = Row} sets no_row) ≡ sets = length-replicate sets no_row in
    rw (is, empty) (record {
      cells = rw long refl;
      narrow = narrow;
      small = rw long small;
      many = many ∙ sym long;
      within = λ set h. rw (empty-at {X = X} sets set) (omega arith);
      fits = λ set h. rw (same-at sets set no_row, empty-at {X = X} sets set) (record {
        sized = (refl, refl);
        few = omega arith;
        many = refl;
        each = λ k low. absurd (omega (arith, low));
        all = λ c tag e. cc;
        once = λ j k low high e. absurd (omega (arith, low));
        lines = tt;
      });
    })

-- as many sets without lines as there were
pub stored-cleared :
    {X : Type 0} (ways : ℕ) (a b : Lists (ℕ × X)) (rows empty : List Row) → IsStored ways a rows →
    b ≡ lists_of (replicate (length a.lists) []) a.cells → empty ≡ replicate (length rows) no_row →
    IsStored ways b empty
stored-cleared ways a b rows empty stored is none =
    stored-empty ways (length a.lists) b empty stored.narrow stored.small
    (is ∙ ap (lists_of (replicate (length a.lists) [])) stored.cells) (none ∙ ap (λ n. replicate n no_row) stored.many)

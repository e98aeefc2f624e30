use Rattle.std.proofs.lemmas.Result.{on_ok_weaker}
use Rattle.std.proofs.Common.{ℕ, Result, Ok, Err, OnOk, subst}
use Rattle.std.proofs.lemmas.List.Sorted.{IsPermutation-map}
use Rattle.std.specs.Cmp.Lexicographic.{slice_cmp}
use Rattle.std.specs.Global.{Vec}
use Rattle.std.specs.List.{IsDistinct}
use Rattle.std.specs.List.Sorted.{IsSorted}
use Rattle.std.specs.Map.{keys_of}
use Rattle.std.specs.Ordering.{nat_cmp}
use Rattle.std.specs.Str.{bytes_eq}
use Rattle.sequential_ends.proofs.RowLists.{keys_are_rows, rows_once, rows_sorted}
use Rattle.sequential_ends.proofs.rows.Rows.sort.Goals as goal

whatever : {X Y P : Type 0} (r : Result X Y) → P → OnOk r P
whatever (Ok x) p = p
whatever (Err e) p = tt

pub returns-clause-sorted : goal.returns-clause-sorted
returns-clause-sorted c =
    let es = c.sort_keys.new.self.entries in
    on_ok_weaker c.sort_keys.result
    (λ s. subst (IsSorted (slice_cmp nat_cmp)) (keys_are_rows es) (rows_sorted (keys_of es) s))
    c.sort_keys.ensures.sorted

pub returns-clause-once : goal.returns-clause-once
returns-clause-once c =
    let es = c.sort_keys.new.self.entries in
    whatever c.sort_keys.result (subst (IsDistinct bytes_eq) (keys_are_rows es)
    (rows_once (keys_of es) c.sort_keys.ensures.unique))

pub returns-clause-same : goal.returns-clause-same
returns-clause-same c =
    rw (← c.self.view_is) (whatever c.sort_keys.result (IsPermutation-map
    (λ (row : Vec ℕ × Vec ℕ). (row.0.items, row.1.items)) c.self.inside.rows.entries c.sort_keys.new.self.entries
    c.sort_keys.ensures.reordered.0))

-- The words of a DRAM's lines after a store.
use Rattle.std.proofs.Common.{◌≡◌, ◌≢◌, ℕ, List, replicate, Option, Some, refl, ap, ◌∙◌, unwrap_or}
use Rattle.std.specs.Ordering.{nat_cmp, eq_by_cmp}
use Rattle.std.specs.FinMap.{FinMap, get, insert, get-insert}
use Rattle.std.specs.Cmp.{unsigned_tied}
use Rattle.std.proofs.lemmas.Cmp.{nat_cmp_total}
use Rattle.std.proofs.lemmas.Bool.{eq-eqb, ne_eqb, cond-true, cond-false}
use Rattle.dram_mts.specs.Lines.{words_of}

pub words-insert_same : (lines : FinMap nat_cmp (List ℕ)) (l : ℕ) (ws : List ℕ) → words_of (insert lines l ws) l ≡ ws
words-insert_same lines l ws =
    ap (λ (o : Option (List ℕ)). unwrap_or o (replicate 8 0))
    (get-insert nat_cmp_total lines l ws l ∙ cond-true (eq_by_cmp nat_cmp l l) (Some ws) (get lines l)
    (unsigned_tied l l ∙ eq-eqb l l refl))

pub words-insert_other : (lines : FinMap nat_cmp (List ℕ)) (l k : ℕ) (ws : List ℕ) → k ≢ l →
    words_of (insert lines l ws) k ≡ words_of lines k
words-insert_other lines l k ws ne =
    ap (λ (o : Option (List ℕ)). unwrap_or o (replicate 8 0))
    (get-insert nat_cmp_total lines l ws k ∙ cond-false (eq_by_cmp nat_cmp k l) (Some ws) (get lines k)
    (unsigned_tied k l ∙ ne_eqb k l ne))

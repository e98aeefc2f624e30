-- What tags tell of the places of a row.
use Rattle.std.proofs.Common.{◌≡◌, ℕ, ◌<◌, ◌==◌, not, List, get_or, arith}
use Rattle.std.specs.List.{prefix_len}
use Rattle.std.proofs.lemmas.List.Sums.{prefix_len_passes}

-- a place before the first with a tag has another one
pub untagged : (tags : List ℕ) (tag at k : ℕ) → at ≡ prefix_len (λ other. not (other == tag)) tags → k < at →
    get_or tags k 0 ≡ tag → ⊥
untagged tags tag at k is low same =
    let differs = prefix_len_passes (λ other. not (other == tag)) tags k 0 (omega (arith, low, is)) in
    grind (arith, differs, same)

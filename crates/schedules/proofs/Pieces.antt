-- Lists that have a piece for each number.
use Rattle.std.proofs.Common.{◌≡◌, ℕ, zero, suc, ◌+◌, ◌/◌, ◌<◌, ◌≤◌, List, [], ◌∷◌, ◌++◌, length, get_or, take, sym, ap}
use Rattle.std.proofs.Common.{ap₂, ◌∙◌}
use Rattle.std.proofs.Common.{arith}
use Rattle.std.specs.List.{flat_map, range_with_len}
use Rattle.std.specs.Int.{bit_at}
use Rattle.std.specs.Int.Count.{ones, ones_step, ones-le}
use Rattle.std.proofs.lemmas.Nat.Bits.{bit_at-suc, bit_at-zero, bit_at_lowest, same_from_bits}
use Rattle.std.proofs.lemmas.Grind.{flat_map-append}
use Rattle.std.proofs.lemmas.List.{map-id, length-append, append-nil}
use Rattle.std.proofs.lemmas.List.Concat.{get_or-flat_map}
use Rattle.std.proofs.lemmas.List.FromFn.{map-range_with_len_more, take-map-range_with_len, get_or-range_with_len}
use Rattle.std.proofs.lemmas.List.FromFn.{length-range_with_len}

range_more : (n : ℕ) → range_with_len 0 (n + 1) ≡ range_with_len 0 n ++ n ∷ []
range_more n =
    sym (map-id (range_with_len 0 (n + 1))) ∙ map-range_with_len_more (λ (x : ℕ). x) 0 n n (omega arith)
    ∙ ap (λ xs. xs ++ n ∷ []) (map-id (range_with_len 0 n))

range_front : (n h : ℕ) → h < n → take h (range_with_len 0 n) ≡ range_with_len 0 h
range_front n h below =
    ap (take h) (sym (map-id (range_with_len 0 n)))
    ∙ take-map-range_with_len (λ (x : ℕ). x) 0 n h (omega (arith, below)) ∙ map-id (range_with_len 0 h)

module _ {A : Type 0} (f : ℕ → List A) where
  -- the pieces of the numbers below this one
  abbrev pub pieces : ℕ → List A
  pieces n = flat_map f (range_with_len 0 n)

  pub pieces_more : (n : ℕ) → pieces (n + 1) ≡ pieces n ++ f n
  pieces_more n =
      ap (flat_map f) (range_more n) ∙ flat_map-append f (range_with_len 0 n) (n ∷ [])
      ∙ ap (λ xs. pieces n ++ xs) (append-nil (f n))

  pub length_more : (n : ℕ) → length (pieces (n + 1)) ≡ length (pieces n) + length (f n)
  length_more n = ap length (pieces_more n) ∙ length-append (pieces n) (f n)

  ones_from : (k start mask : ℕ) → ((i : ℕ) → i < k → bit_at mask i ≡ length (f (start + i))) →
      ((i : ℕ) → k ≤ i → bit_at mask i ≡ 0) → ones mask ≡ length (flat_map f (range_with_len start k))
  ones_from zero start mask each past =
      let none = ones-le 0 0 (omega arith) in
      ap ones (same_from_bits mask 0 (λ i. past i (omega arith) ∙ sym (bit_at-zero i))) ∙ omega (arith, none)
  ones_from (suc k) start mask each past =
      ones_step mask
      ∙ ap₂ (λ x y. x + y)
      (sym (bit_at_lowest mask) ∙ each 0 (omega arith)
      ∙ (let same : start + 0 ≡ start = omega arith in ap (λ n. length (f n)) same))
      (ones_from k (start + 1) (mask / 2)
      (λ i below. sym (bit_at-suc mask i) ∙ each (suc i) (omega (arith, below))
      ∙ (let same : start + suc i ≡ start + 1 + i = omega arith in ap (λ n. length (f n)) same))
      (λ i from. sym (bit_at-suc mask i) ∙ past (suc i) (omega (arith, from))))
      ∙ sym (length-append (f start) (flat_map f (range_with_len (start + 1) k)))

  -- a number whose bits are the lengths of the pieces has as many ones as these have elements
  pub ones_counted : (n mask : ℕ) → ((i : ℕ) → i < n → bit_at mask i ≡ length (f i)) →
      ((i : ℕ) → n ≤ i → bit_at mask i ≡ 0) → ones mask ≡ length (pieces n)
  ones_counted n mask each past =
      ones_from n 0 mask
      (λ i below. each i below ∙ (let same : i ≡ 0 + i = omega arith in ap (λ k. length (f k)) same)) past

  -- what stands in a piece stands behind the pieces before it
  pub at_piece : (n h j : ℕ) (d : A) → h < n → j < length (f h) →
      get_or (pieces n) (length (pieces h) + j) d ≡ get_or (f h) j d
  at_piece n h j d below within =
      let here : get_or (range_with_len 0 n) h 0 ≡ h = get_or-range_with_len 0 n h 0 below ∙ omega arith in
      let front : length (flat_map f (take h (range_with_len 0 n))) ≡ length (pieces h) =
      ap (λ xs. length (flat_map f xs)) (range_front n h below) in
      let inside : j < length (f (get_or (range_with_len 0 n) h 0)) = rw here within in
      let long : h < length (range_with_len 0 n) = rw (length-range_with_len 0 n) below in
      ap (λ k. get_or (pieces n) (k + j) d) (sym front)
      ∙ get_or-flat_map f (range_with_len 0 n) h j 0 d long inside
      ∙ ap (λ k. get_or (f k) j d) here

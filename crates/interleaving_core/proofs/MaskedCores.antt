-- The sets of cores that do something, where a core changes and as a machine opens.
use Rattle.std.proofs.Common.{◌≡◌, ◌≢◌, ◌-◌, ◌/◌, ◌^◌, ◌<◌, ◌≤◌, ◌+◌, ℕ, zero, suc, Bool, true, false, cond, List}
use Rattle.std.proofs.Common.{length}
use Rattle.std.proofs.Common.{length-set, set, get_or, get_or-set_same, Option, Some, inl, inr, refl, sym, ap, ap₂, ◌∙◌}
use Rattle.std.proofs.Common.{arith}
use Rattle.std.specs.Prelude.{◌&&◌, not, is_some}
use Rattle.std.specs.List.{slice_get}
use Rattle.std.specs.Int.{bit_at}
use Rattle.std.proofs.lemmas.Bool.{cases_eq, cases_lt}
use Rattle.std.proofs.lemmas.Nat.Bits.{bit_at_ones, bit_at_ones_above, bit_at-zero, ones_shr}
use Rattle.physiological_order.specs.declared.operation.Record.{Record}
use Rattle.core_pts.specs.CoreTable.{CoreState}
use Rattle.machine_table.specs.declared.config.Config.{Config}
use Rattle.machine_table.specs.declared.event.Answer.{Answer}
use Rattle.machine_table.specs.declared.event.Answer.TheVariants as answer
use Rattle.machine_table.specs.Opening.{open_core, row}
use Rattle.machine_table.proofs.Lemmas.{row_many}
use Rattle.machine_theorem.proofs.Lemmas.{get-set_other, get-set_same}
use Rattle.interleaving_core.specs.declared.core_masks.CoreMasks.{CoreMasks}
use Rattle.interleaving_core.specs.CoreMasks.{AreMasks, IsMask, is_idle_of, is_trying_of}
use Rattle.interleaving_core.specs.PartChanges.{StandsAfter}

-- what is read where something was written
pub read_back : {X : Type 0} (xs : List X) (i : ℕ) (x read : X) → i < length xs → read ≡ get_or (set xs i x) i read →
    read ≡ x
read_back xs i x read within is = is ∙ get_or-set_same xs i x read within

-- where one core changes its bit tells of it, and the other bits stay
module _ (holds : Option CoreState → Bool) (mask : ℕ) (cores : List CoreState) (at : ℕ) (old core : CoreState)
    (here : slice_get cores at ≡ Some old) (is : IsMask mask (λ i. holds (slice_get cores i))) where
  pub noted : (new : ℕ) → bit_at new at ≡ cond (holds (Some core)) 1 0 →
      ((i : ℕ) → i ≢ at → bit_at new i ≡ bit_at mask i) → IsMask new (λ i. holds (slice_get (set cores at core) i))
  noted new told others i = elim (cases_eq i at) [
    | inl e ↦ ap (bit_at new) e ∙ told
        ∙ ap (λ (o : Option CoreState). cond (holds o) 1 0)
        (sym (ap (slice_get (set cores at core)) e ∙ get-set_same cores at core old here))
    | inr other ↦ others i other ∙ is i
        ∙ ap (λ (o : Option CoreState). cond (holds o) 1 0) (sym (get-set_other cores at i core other))
  ]

  pub same_mask : holds (Some core) ≡ holds (Some old) → IsMask mask (λ i. holds (slice_get (set cores at core) i))
  same_mask same = noted mask
      (is at ∙ ap (λ (o : Option CoreState). cond (holds o) 1 0) here ∙ ap (λ b. cond b 1 0) (sym same))
      (λ i other. refl)

module _ (masks : CoreMasks) (cores : List CoreState) (at : ℕ) (old core : CoreState)
    (here : slice_get cores at ≡ Some old) (are : AreMasks masks cores) where
  still_few : length (set cores at core) ≤ 64
  still_few = let same = length-set cores at core in omega (arith, same, are.few)

  pub masks_noted : (idle trying : ℕ) → bit_at idle at ≡ cond (is_idle_of (Some core)) 1 0 →
      ((i : ℕ) → i ≢ at → bit_at idle i ≡ bit_at masks.idle i) →
      bit_at trying at ≡ cond (is_trying_of (Some core)) 1 0 →
      ((i : ℕ) → i ≢ at → bit_at trying i ≡ bit_at masks.trying i) →
      AreMasks (record { idle = idle; trying = trying }) (set cores at core)
  masks_noted idle trying idles other_idles tries other_tries = record {
    few = still_few;
    idle = noted is_idle_of masks.idle cores at old core here are.idle idle idles other_idles;
    trying = noted is_trying_of masks.trying cores at old core here are.trying trying tries other_tries;
  }

  pub trying_noted : core.open_op ≡ old.open_op → (trying : ℕ) →
      bit_at trying at ≡ cond (is_trying_of (Some core)) 1 0 →
      ((i : ℕ) → i ≢ at → bit_at trying i ≡ bit_at masks.trying i) →
      AreMasks (record masks { trying = trying }) (set cores at core)
  trying_noted same trying tries others = record {
    few = still_few;
    idle = same_mask is_idle_of masks.idle cores at old core here are.idle (ap (λ o. not (is_some o)) same);
    trying = noted is_trying_of masks.trying cores at old core here are.trying trying tries others;
  }

  -- of a core that stands as before they tell the same
  pub still_masked : core.open_op ≡ old.open_op → core.is_out ≡ old.is_out → AreMasks masks (set cores at core)
  still_masked same_op same_out = record {
    few = still_few;
    idle = same_mask is_idle_of masks.idle cores at old core here are.idle (ap (λ o. not (is_some o)) same_op);
    trying = same_mask is_trying_of masks.trying cores at old core here are.trying
        (ap₂ (λ o b. is_some o && not b) same_op same_out);
  }

-- a core whose request is out doesn't try
pub none_out : (b : Bool) → ◌≡◌ {A = ℕ} 0 (cond (b && false) 1 0)
none_out true = refl
none_out false = refl

-- after an answer that is neither a completion nor a request it stands as before
pub stands_same : (given : Answer) (old core : CoreState) → ((done : Record) → given ≢ answer.Completed done) →
    given ≢ answer.Requested → StandsAfter given old core → core ≡ old
stands_same (answer.Completed done) old core not_done not_out stands = absurd (not_done done refl)
stands_same answer.Requested old core not_done not_out stands = absurd (not_out refl)
stands_same _ old core not_done not_out stands = stands

-- a machine opens with cores that have no operation
module _ (config : Config) where
  idle_below : (start n i : ℕ) → i < n → is_idle_of (slice_get (row (open_core config) start n) i) ≡ true
  idle_below start zero i below = absurd (omega (arith, below))
  idle_below start (suc n) zero below = refl
  idle_below start (suc n) (suc i) below = idle_below (start + 1) n i (omega (arith, below))

  idle_past : (start n i : ℕ) → n ≤ i → is_idle_of (slice_get (row (open_core config) start n) i) ≡ false
  idle_past start zero i past = refl
  idle_past start (suc n) zero past = absurd (omega (arith, past))
  idle_past start (suc n) (suc i) past = idle_past (start + 1) n i (omega (arith, past))

  none_trying : (start n i : ℕ) → is_trying_of (slice_get (row (open_core config) start n) i) ≡ false
  none_trying start zero i = refl
  none_trying start (suc n) zero = refl
  none_trying start (suc n) (suc i) = none_trying (start + 1) n i

  pub first_masks : (n idle : ℕ) → n ≤ 64 → idle ≡ (2 ^ 64 - 1) / 2 ^ (64 - n) →
      AreMasks (record { idle = idle; trying = 0 }) (row (open_core config) 0 n)
  first_masks n idle few is =
      let ones : idle ≡ 2 ^ n - 1 =
      is ∙ ones_shr 64 (64 - n) (omega arith)
      ∙ (let back : 64 - (64 - n) ≡ n = omega (arith, few) in ap (λ k. 2 ^ k - 1) back) in
      record {
        few = let long = row_many (open_core config) 0 n in omega (arith, long, few);
        idle = λ i. ap (λ k. bit_at k i) ones ∙ by_side i;
        trying = λ i. bit_at-zero i ∙ ap (λ b. cond b 1 0) (sym (none_trying 0 n i));
      }
    where
      by_side : (i : ℕ) → bit_at (2 ^ n - 1) i ≡ cond (is_idle_of (slice_get (row (open_core config) 0 n) i)) 1 0
      by_side i = elim (cases_lt i n) [
        | inl below ↦ bit_at_ones n i below ∙ ap (λ b. cond b 1 0) (sym (idle_below 0 n i below))
        | inr past ↦ bit_at_ones_above n i past ∙ ap (λ b. cond b 1 0) (sym (idle_past 0 n i past))
      ]

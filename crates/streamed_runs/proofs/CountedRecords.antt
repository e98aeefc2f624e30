-- What is counted of records, one after the other, is what is told of all of them.
use Rattle.std.proofs.Common.{◌≡◌, ℕ, ◌+◌, ◌^◌, ◌<◌, Bool, true, cond, List, [], ◌∷◌, ◌++◌, length, sym, ap, ap₂}
use Rattle.std.proofs.Common.{subst, ◌∙◌, arith, append_assoc, append-nil, length-append}
use Rattle.std.specs.Prelude.{count_by}
use Rattle.std.specs.Ordering.{nat_cmp}
use Rattle.std.specs.FinMap.{FinMap, empty}
use Rattle.std.proofs.lemmas.Bool.Decides.{nat_tests}
use Rattle.std.proofs.lemmas.List.Sums.{count_by-le-length, sum_by_push}
use Rattle.physiological_order.specs.declared.operation.Record.{Record}
use Rattle.physiological_order.specs.LatestWrites.{stale_by}
use Rattle.physiological_order.specs.StaleHits.{is_stale_load, stale_count, RisesByNumber}
use Rattle.trace_texts.specs.declared.reports.Kinds.{Kinds}
use Rattle.streamed_runs.specs.declared.summary.Summary.{Summary}
use Rattle.trace_texts.specs.Reports.{is_load_op, is_store, is_swap, kinds_of}
use Rattle.streamed_runs.specs.Summaries.{all_counted, counted, latest_behind, more_if, summary_of, with_kind}
use Rattle.streamed_runs.proofs.StaleRecords.{behind_one, front_rises, stale_push}

one_more : (is : Bool) (n : ℕ) → n + 1 < 2 ^ 64 → more_if is n ≡ n + cond is 1 0
one_more is n few = grind (arith, nat_tests)

module _ (rs : List Record) (r : Record) (few : length rs + 1 < 2 ^ 64) where
  of_kind : (test : Record → Bool) → more_if (test r) (count_by test rs) ≡ count_by test (rs ++ r ∷ [])
  of_kind test =
      let most = count_by-le-length test rs in
      one_more (test r) (count_by test rs) (omega (arith, few, most))
      ∙ sym (sum_by_push (λ (s : Record). cond (test s) 1 0) rs r)

  kinds_counted : with_kind (kinds_of rs) r.op ≡ kinds_of (rs ++ r ∷ [])
  kinds_counted =
      ap₂ (λ (n loads : ℕ). record (with_kind (kinds_of rs) r.op) { completed = n; loads = loads })
      (one_more true (length rs) few ∙ sym (length-append rs (r ∷ []))) (of_kind (λ s. is_load_op s.op))
      ∙ ap₂ (λ (stores swaps : ℕ). record (kinds_of (rs ++ r ∷ [])) { stores = stores; swaps = swaps })
      (of_kind (λ s. is_store s.op)) (of_kind (λ s. is_swap s.op))

  one_counted : RisesByNumber (rs ++ r ∷ []) → counted (summary_of rs) r ≡ summary_of (rs ++ r ∷ [])
  one_counted rises =
      let most = count_by-le-length (λ (s : Record). is_stale_load s.op rs s) rs in
      ap₂ (λ (kinds : Kinds) (stale : ℕ). record (counted (summary_of rs) r) { kinds = kinds; stale = stale })
      kinds_counted
      (one_more (stale_by (latest_behind empty rs) r.op r.ts) (stale_count rs) (omega (arith, few, most))
      ∙ sym (stale_push rs r rises))
      ∙ ap (λ (latest : FinMap nat_cmp ℕ). record (summary_of (rs ++ r ∷ [])) { latest = latest })
      (sym (behind_one empty rs r))

pub counted_all : (rs more : List Record) → RisesByNumber (rs ++ more) → length (rs ++ more) < 2 ^ 64 →
    all_counted (summary_of rs) more ≡ summary_of (rs ++ more)
counted_all rs [] rises few = ap summary_of (sym (append-nil rs))
counted_all rs (r ∷ more) rises few =
    let next = append_assoc rs (r ∷ []) more in let rises_so = subst RisesByNumber (sym next) rises in
    let many = length-append rs (r ∷ more) in
    ap (λ (s : Summary). all_counted s more)
    (one_counted rs r (omega (arith, few, many)) (front_rises (rs ++ r ∷ []) more rises_so))
    ∙ counted_all (rs ++ r ∷ []) more rises_so (subst (λ (all : List Record). length all < 2 ^ 64) (sym next) few)
    ∙ ap summary_of next

-- How many items are of each core.
use Rattle.std.proofs.Common.{◌≡◌, ◌+◌, ◌==◌, ℕ, cond, List, Option, Some, None, MatchOption, map, filter, get_or}
use Rattle.std.proofs.Common.{arith, length, count_by, sym, ◌∙◌}
use Rattle.std.proofs.lemmas.List.{length-map}
use Rattle.std.proofs.lemmas.List.Folds.{fold-map}
use Rattle.std.proofs.lemmas.List.Sums.{length-filter}
use Rattle.physiological_order.specs.declared.operation.Record.{Record}
use Rattle.report.specs.Complete.{count_of_core}
use Rattle.tardis_c.specs.Lacks.{HaveAll, IsFirstOther, IsLack, operation_core, record_core}
use Rattle.tardis_c.specs.Plain.{issued_of, op_of, record_of}
use Rattle.tardis_c.specs.declared.lacks.Lack.{Lack}
use Rattle.tardis_c.specs.declared.plain.PlainOperation.{PlainOperation}
use Rattle.tardis_c.specs.declared.plain.PlainRecord.{PlainRecord}

of_operations : (operations : List PlainOperation) (core : ℕ) →
    count_by (λ plain. operation_core plain == core) operations ≡ length (issued_of operations core)
of_operations operations core =
    sym (length-map (filter (λ (plain : PlainOperation). plain.core == core) operations) op_of ∙
    length-filter (λ (plain : PlainOperation). plain.core == core) operations)

of_records : (records : List PlainRecord) (core : ℕ) →
    count_by (λ plain. record_core plain == core) records ≡ count_of_core core (map record_of records)
of_records records core = sym (fold-map (λ (a : ℕ) (r : Record). a + cond (r.core == core) 1 0) record_of 0 records)

-- what the counts say is what the records lack
pub told : (operations : List PlainOperation) (records : List PlainRecord) (issued done : List ℕ)
    (found : Option Lack) →
    ((core : ℕ) → get_or issued core 0 ≡ count_by (λ plain. operation_core plain == core) operations) →
    ((core : ℕ) → get_or done core 0 ≡ count_by (λ plain. record_core plain == core) records) →
    MatchOption found ((core : ℕ) → get_or issued core 0 ≡ get_or done core 0) (IsFirstOther issued done) →
    MatchOption found (HaveAll (issued_of operations) (map record_of records))
    (IsLack (issued_of operations) (map record_of records))
told operations records issued done None ops rs same = λ core.
    sym (same core ∙ rs core ∙ of_records records core) ∙ ops core ∙ of_operations operations core
told operations records issued done (Some lack) ops rs other =
    let counted = λ (core : ℕ). rs core ∙ of_records records core in
    let listed = λ (core : ℕ). ops core ∙ of_operations operations core in
    record {
      first = record {
        among = omega arith;
        lacks = λ e. other.differ (listed lack.core ∙ sym (counted lack.core ∙ e));
        first = λ core below. sym (other.first core below ∙ counted core) ∙ listed core;
      };
      place_is = other.place_is ∙ counted lack.core;
    }

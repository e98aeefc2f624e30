-- An operation that is opened.
use Rattle.std.proofs.Common.{◌≡◌, ℕ, ◌+◌, ◌-◌, ◌<◌, ◌^◌, nat_lt, get_or, Bool, true, false, List}
use Rattle.std.proofs.Common.{set, length, is_some, option_map, Option, Some, None, Result, Ok, Err, OnErr}
use Rattle.std.proofs.Common.{inl, refl, sym, ap, ◌∙◌}
use Rattle.std.specs.List.{slice_get}
use Rattle.std.proofs.lemmas.Bool.{cond-true}
use Rattle.std.proofs.lemmas.Option.{slice_get_read}
use Rattle.physiological_order.specs.declared.operation.Op.{Op}
use Rattle.physiological_order.specs.declared.operation.Record.{Record}
use Rattle.core_pts.specs.declared.attempt.IssueError.{IssueError}
use Rattle.core_pts.specs.CoreTable as core_table
use Rattle.core_pts.specs.CoreTable.{CoreState}
use Rattle.machine_table.specs.declared.event.Answer.{Answer}
use Rattle.machine_table.specs.declared.event.Answer.TheVariants as answer
use Rattle.machine_table.specs.Machine.{Machine, with_core}
use Rattle.machine_table.specs.declared.event.Event.TheVariants.{Issue}
use Rattle.machine_table.specs.Transition.{issued, on_event}
use Rattle.machine_table.proofs.Lemmas.{finds}
use Rattle.interleaving_core.specs.HistoryNews.{with_issued}
use Rattle.interleaving_core.specs.StepAnswers.{TakesMemory}
use Rattle.interleaving_core.proofs.OpenCounts.{no_open}

-- what is read of a list is what is there
pub read_there : {X : Type 0} (xs : List X) (i : ℕ) (x there : X) → i < length xs → x ≡ get_or xs i x →
    slice_get xs i ≡ Some there → x ≡ there
read_there xs i x there within is here = let e = sym (slice_get_read xs (length xs) i x refl within is) ∙ here in cc

-- a core that was tested to have no open operation
pub tested_free : (before core : CoreState) → before ≡ core → (opens : Option (Op × Bool)) (test : Bool) →
    opens ≡ option_map (λ op. (op, before.is_out)) before.open_op → test ≡ is_some opens → test ≡ false →
    core.open_op ≡ None
tested_free before core same opens test is tested none =
    ap (λ (x : CoreState). x.open_op) (sym same)
    ∙ no_open before.open_op before.is_out (ap is_some (sym is) ∙ sym tested ∙ none)

issue_changes : (m : Machine) (c : ℕ) (core : CoreState) → slice_get m.cores c ≡ Some core →
    (op : Op) (after : CoreState) (result : Result (Unit {0}) IssueError) →
    core.open_op ≡ None → nat_lt core.issued (2 ^ 32 - 1) ≡ true → (result, after) ≡ core_table.issue core op →
    (answer.Issued, record (with_core m c after) { issued = with_issued m.issued c op }) ≡ on_event m (Issue c op)
issue_changes m c core here op after result free few is =
    let opened : CoreState = record core { open_op = Some op; issued = core.issued + 1 } in
    let done : core_table.issue core op ≡ (Ok tt, opened) =
    ap (core_table.issue_to core op) free ∙ cond-true (nat_lt core.issued (2 ^ 32 - 1)) _ _ few in
    let changed_to : after ≡ opened = ap (λ (x : Result (Unit {0}) IssueError × CoreState). x.1) (is ∙ done) in
    ap (λ (x : CoreState). (answer.Issued, record (with_core m c x) { issued = with_issued m.issued c op })) changed_to
    ∙ sym (ap (issued m c op) done)
    ∙ sym (finds m (λ x. issued m c op (core_table.issue x op)) here)

-- the machine is seen as a model
pub issue_done : (m seen : Machine) → m ≡ seen → (c : ℕ) (core : CoreState) → slice_get m.cores c ≡ Some core →
    (op : Op) (after : CoreState) (result : Result (Unit {0}) IssueError) (lists : List (List Op))
    (records : List Record) → core.open_op ≡ None → nat_lt core.issued (2 ^ 32 - 1) ≡ true →
    (result, after) ≡ core_table.issue core op → lists ≡ with_issued m.issued c op → records ≡ m.records → (
      answer.Issued,
      record m {
        cores = set m.cores c after;
        issued = lists;
        records = records;
      },
    ) ≡ on_event seen (Issue c op)
issue_done m seen is_view c core here op after result lists records free few is longer same =
    ap (λ (rs : List Record). (
      answer.Issued,
      record m {
        cores = set m.cores c after;
        issued = lists;
        records = rs;
      },
    )) same
    ∙ ap (λ (ls : List (List Op)). (answer.Issued, record (with_core m c after) { issued = ls })) longer
    ∙ issue_changes m c core here op after result free few is
    ∙ ap (λ (n : Machine). on_event n (Issue c op)) is_view

-- memory is wanted where the table opens the operation
pub issue_wanted : (m seen : Machine) → m ≡ seen → (c : ℕ) (core : CoreState) → slice_get m.cores c ≡ Some core →
    (op : Op) → core.open_op ≡ None → nat_lt core.issued (2 ^ 32 - 1) ≡ true → {X E : Type 0} (result : Result X E) →
    OnErr result (TakesMemory seen (on_event seen (Issue c op)))
issue_wanted m seen is_view c core here op free few (Ok x) = tt
issue_wanted m seen is_view c core here op free few (Err e) =
    inl (sym (ap (λ (x : Answer × Machine). x.0) (issue_done m seen is_view c core here op
    (core_table.issue core op).1 (core_table.issue core op).0 (with_issued m.issued c op) m.records
    free few refl refl refl)))

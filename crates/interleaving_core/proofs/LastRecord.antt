-- The answer of a machine whose last record is that of the completion.
use Rattle.std.proofs.Common.{◌≡◌, ℕ, ◌++◌, ◌-◌, List, [], ◌∷◌, Option, Some, refl, subst, ap, ◌∙◌, arith, length}
use Rattle.std.proofs.Common.{length-append, slice_get}
use Rattle.physiological_order.specs.declared.operation.Record.{Record}
use Rattle.machine_table.specs.declared.event.Answer.{Answer}
use Rattle.machine_table.specs.declared.event.Answer.TheVariants as answer
use Rattle.machine_table.specs.Machine.{Machine}
use Rattle.interleaving_core.specs.declared.plain_answer.PlainAnswer.{PlainAnswer}
use Rattle.interleaving_core.specs.PartChanges.{answer_in, completed_by, plain_of, with_record}

at_length : (records : List Record) (done : Record) → slice_get (records ++ done ∷ []) (length records) ≡ Some done
at_length [] done = refl
at_length (r ∷ rest) done = at_length rest done

last_added : (records : List Record) (done : Record) →
    slice_get (records ++ done ∷ []) (length (records ++ done ∷ []) - 1) ≡ Some done
last_added records done = let more = length-append records (done ∷ []) in
    subst (λ (i : ℕ). slice_get (records ++ done ∷ []) i ≡ Some done) (omega (arith, more)) (at_length records done)

-- an answer is had from its plain one and the records after it
same_answer : (records : List Record) (a : Answer) → answer_in (with_record records a) (plain_of a) ≡ a
same_answer records answer.Issued = refl
same_answer records (answer.Completed done) = ap completed_by (last_added records done)
same_answer records answer.Requested = refl
same_answer records _ = refl

-- so with the machine that has those records
pub told_in : (m : Machine) (records : List Record) (a : Answer) (plain : Option PlainAnswer)
    (next : Answer × Machine) → plain ≡ plain_of a → m.records ≡ with_record records a → (a, m) ≡ next →
    (answer_in m.records plain, m) ≡ next
told_in m records a plain next is recorded same =
    ap (λ (p : Option PlainAnswer). (answer_in m.records p, m)) is
    ∙ ap (λ (rs : List Record). (answer_in rs (plain_of a), m)) recorded
    ∙ ap (λ (b : Answer). (b, m)) (same_answer records a)
    ∙ same

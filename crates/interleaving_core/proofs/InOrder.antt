-- Records stay in the order of their numbers.
use Rattle.std.proofs.Common.{◌≡◌, inl, inr, ℕ, ◌+◌, ◌++◌, List, [], ◌∷◌, length, refl, sym, ap, ◌∙◌, subst, arith}
use Rattle.physiological_order.specs.declared.operation.Record.{Record}
use Rattle.physiological_order.specs.StaleHits.{RisesByNumber}
use Rattle.machine_table.specs.declared.event.Event.{Event}
use Rattle.machine_table.specs.declared.event.Answer.{Answer}
use Rattle.machine_table.specs.declared.event.Answer.TheVariants.{Issued, Completed, Waiting, Idle, Held, Refused}
use Rattle.machine_table.specs.declared.event.Refusal.{Refusal}
use Rattle.machine_table.specs.declared.event.Refusal.TheVariants.{Busy, NoMemory, Exhausted}
use Rattle.machine_table.specs.Machine.{Machine}
use Rattle.machine_table.specs.Answered.{Answered, RefusedSo}
use Rattle.machine_table.proofs.Lemmas.{every_answer}
use Rattle.interleaving_core.specs.RecordOrder.{AreNumbered}
use Rattle.interleaving_core.specs.StepAnswers.{Stepped}

-- one more with the next number
one_more : (k : ℕ) (rs : List Record) (r : Record) → r.number ≡ k + length rs → AreNumbered k rs →
    AreNumbered k (rs ++ r ∷ [])
one_more k [] r next all = (omega (arith, next), tt)
one_more k (x ∷ rs) r next all = (all.0, one_more (k + 1) rs r (omega (arith, next)) all.1)

module _ (m after : Machine) (all : AreNumbered 0 m.records) where
  same : after.records ≡ m.records → AreNumbered 0 after.records
  same is = subst (AreNumbered 0) (sym is) all

  kept : (n : Machine) → after ≡ n → n.records ≡ m.records → AreNumbered 0 after.records
  kept n is records = same (ap (λ (k : Machine). k.records) is ∙ records)

  refused : (why : Refusal) → RefusedSo m why after → AreNumbered 0 after.records
  refused Busy is = kept m is refl
  refused NoMemory is = absurd is
  refused Exhausted is = kept _ is refl
  refused _ is = kept m is refl

  by_answer : (answer : Answer) → Answered m answer after → AreNumbered 0 after.records
  by_answer (Refused why) is = refused why is
  by_answer (Completed done) is =
      subst (AreNumbered 0) (sym is.records) (one_more 0 m.records done (let n = is.number in omega arith) all)
  by_answer Waiting is = kept m is refl
  by_answer Idle is = kept m is refl
  by_answer Held is = kept m is refl
  by_answer Issued is = same is.records
  by_answer _ is = same is.records

pub step_numbers : (m : Machine) (event : Event) (answer : Answer) (after : Machine) → AreNumbered 0 m.records →
    Stepped m event answer after → AreNumbered 0 after.records
step_numbers m event answer after all (inl is) =
    by_answer m after all answer (subst (λ (x : Answer × Machine). Answered m x.0 x.1) (sym is)
    (every_answer m event))
step_numbers m event answer after all (inr none) = kept m after all m none.1 refl

-- numbers in order rise
pub numbered_rise : (k : ℕ) (rs : List Record) → AreNumbered k rs → RisesByNumber rs
numbered_rise k [] all = tt
numbered_rise k (r ∷ []) all = tt
numbered_rise k (r ∷ s ∷ rs) all =
    (let a = all.0 in let b = all.1.0 in omega arith, numbered_rise (k + 1) (s ∷ rs) all.1)

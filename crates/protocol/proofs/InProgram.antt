-- The records of a core, as they complete, are of the operations that it was issued, in their order.
use Rattle.std.proofs.Common.{◌≡◌, ℕ, zero, suc, ◌+◌, ◌<◌, List, [], ◌∷◌, ◌++◌, length, map, drop, Option, Some, None}
use Rattle.std.proofs.Common.{ap, ◌∙◌, subst, arith, rules}
use Rattle.std.proofs.lemmas.Bool.Decides.{nat_tests}
use Rattle.std.proofs.lemmas.Grind.{common_steps}
use Rattle.std.specs.Prelude.{slice_get}
use Rattle.std.proofs.Math.Seq.{drop-length}
use Rattle.physiological_order.specs.declared.operation.Op.{Op}
use Rattle.physiological_order.specs.declared.operation.Record.{Record}
use Rattle.physiological_order.specs.Order.{Follows, of_core}
use Rattle.physiological_order.proofs.Lemmas.{Follows-push, Follows-issued}
use Rattle.protocol.specs.Machine.{Config, Machine, Transition, issue, complete, Reachable, at_first, goes_on}
use Rattle.protocol.specs.Issued.{listed, IsIssued}
use Rattle.protocol.proofs.Lines.{with_at_cases}
use Rattle.protocol.proofs.Headline.{MachineOk, Opened, of_core-other, of_core-own, reachable_ok}

abbrev InProgram : Machine → Type 0
InProgram m = (c : ℕ) → Follows 0 (m.issued c) (of_core c m.records)

completed : (m : Machine) (r : Record) → r.place ≡ length (of_core r.core m.records) → slice_get (m.issued r.core)
    (length (of_core r.core m.records)) ≡ Some r.op → InProgram m →
    (c : ℕ) → Follows 0 (m.issued c) (of_core c (m.records ++ r ∷ []))
completed m r place there all c = search (rules, of_core-own, Follows-push, of_core-other)

transition_keeps : (f : Config) (m n : Machine) → MachineOk f m → InProgram m → Transition f m n → InProgram n
transition_keeps f m n ok all (issue c op none) = search (rules, with_at_cases, Follows-issued)
transition_keeps f m n ok all (complete c op copy new received ts opens quiet is used) = search (rules, completed)
transition_keeps f m n ok all _ = all

pub in_program : (f : Config) → 0 < f.line_words → (m : Machine) → Reachable f m → InProgram m
in_program f some m (at_first pts mts drams at opens) c = tt
in_program f some m (goes_on {m = before} r next) c =
    transition_keeps f before m (reachable_ok f some before r) (in_program f some before r) next c

drop_from : {X : Type 0} (xs : List X) (k : ℕ) (x : X) → slice_get xs k ≡ Some x → drop k xs ≡ x ∷ drop (suc k) xs
drop_from [] k x is = absurd (cc)
drop_from (y ∷ xs) zero x is = cc
drop_from (y ∷ xs) (suc k) x is = drop_from xs k x is

drop_all : {X : Type 0} (xs : List X) (k : ℕ) → length xs ≡ k → drop k xs ≡ []
drop_all xs k is = subst (λ (n : ℕ). drop n xs ≡ []) is (drop-length xs)

-- from a place on, the operations are those of the records and then the open one
from_place : (rs : List Record) (k : ℕ) (ops : List Op) (o : Option Op) → Follows k ops rs →
    Opened ops (k + length rs) o → drop k ops ≡ map (λ r. r.op) rs ++ listed o
from_place [] k ops None follows is = drop_all ops k (is ∙ omega arith)
from_place [] k ops (Some op) follows is = grind (arith, nat_tests, common_steps, drop_all, drop_from)
from_place (r ∷ rs) k ops o follows is =
    let next : k + 1 ≡ suc k = omega arith in
    let count : k + length (r ∷ rs) ≡ k + 1 + length rs = omega arith in
    drop_from ops k r.op follows.1
    ∙ ap (λ (xs : List Op). r.op ∷ xs)
    (search (rules, map, from_place rs (k + 1) ops o follows.2 (subst (λ (n : ℕ). Opened ops n o) count is)))

pub issued_is : (rs : List Record) (ops : List Op) (o : Option Op) → Follows 0 ops rs → Opened ops (length rs) o →
    ops ≡ map (λ r. r.op) rs ++ listed o
issued_is rs ops o follows is =
    let count : length rs ≡ 0 + length rs = omega arith in
    from_place rs 0 ops o follows (subst (λ (n : ℕ). Opened ops n o) count is)

pub what_is_issued : (f : Config) → 0 < f.line_words → (m : Machine) → Reachable f m → (core : ℕ) →
    IsIssued (m.issued core) (of_core core m.records) (m.cores core).open_op
what_is_issued f some m reached core = grind (arith, nat_tests, common_steps, in_program, issued_is, reachable_ok)

-- Records of cores: if no core from a number on has any, all are of cores below it.
use Rattle.std.proofs.Common.{◌≡◌, ℕ, ◌<◌, ◌≤◌, Bool, true, false, List, [], ◌∷◌, ◌++◌, map, inl, inr, eqb, cond, refl}
use Rattle.std.proofs.Common.{sym, ◌∙◌}
use Rattle.std.specs.List.{AllByRecursion}
use Rattle.std.proofs.lemmas.Bool.{cases_lt, cond-true, eq-eqb}
use Rattle.physiological_order.specs.declared.operation.Op.{Op}
use Rattle.physiological_order.specs.declared.operation.Record.{Record}
use Rattle.physiological_order.specs.Order.{of_core}

none_there : (b : Bool) (x : Record) (xs : List Record) → cond b (x ∷ xs) xs ≡ [] → xs ≡ []
none_there true x xs e = absurd cc
none_there false x xs e = e

some_there : {A : Type 0} (x : Record) (xs : List Record) → x ∷ xs ≡ [] → A
some_there x xs e = absurd cc

-- no operation, no record
pub no_record : (rs : List Record) (ops : List Op) → map (λ r. r.op) rs ++ ops ≡ [] → rs ≡ []
no_record [] ops e = refl
no_record (r ∷ rs) ops e = absurd cc

pub all_below : (n : ℕ) (rs : List Record) → ((core : ℕ) → n ≤ core → of_core core rs ≡ []) →
    AllByRecursion (λ r. r.core < n) rs
all_below n [] none = tt
all_below n (r ∷ rs) none = (
  elim (cases_lt r.core n) [
    | inl below ↦ below
    | inr past ↦ some_there r (of_core r.core rs)
        (sym (cond-true (eqb r.core r.core) (r ∷ of_core r.core rs) (of_core r.core rs) (eq-eqb r.core r.core refl))
        ∙ none r.core past)
  ],
  all_below n rs (λ core past. none_there (eqb r.core core) r (of_core core rs) (none core past)),
)

-- The records of a reached state: how many each core has, and their order.
use Rattle.std.proofs.Common.{◌≡◌, ℕ, zero, suc, ◌+◌, cond, List, [], ◌∷◌, ◌++◌, length, length-append, map, Option}
use Rattle.std.proofs.Common.{Some, None, ◌⊎◌, inl, refl, sym, ap, ◌∙◌, subst, arith, ⊎_elim, slice_get, nat_cmp, rules}
use Rattle.std.proofs.lemmas.List.{length-map}
use Rattle.std.specs.FinMap.{FinMap}
use Rattle.physiological_order.specs.declared.operation.Op.{Op}
use Rattle.physiological_order.specs.declared.operation.Record.{Record}
use Rattle.physiological_order.specs.Order.{of_core}
use Rattle.network.specs.declared.message.Message.{Message}
use Rattle.machine_table.specs.declared.config.Config.{Config}
use Rattle.machine_table.specs.Step.{record_of, Step}
use Rattle.machine_table.specs.Step as step
use Rattle.machine_theorem.specs.Kept.{IsKept}
use Rattle.protocol.specs.Issued.{listed}
use Rattle.machine_theorem.specs.States.{State}
use Rattle.machine_theorem.specs.Moves.{with_answer, with_core, with_bank, with_dram, StepsTo, Move, issues, completes}
use Rattle.machine_theorem.specs.Moves.{core_steps, bank_steps, dram_steps, Reached, opens, goes_on, same}
use Rattle.protocol.proofs.Lemmas.{Some_injective}
use Rattle.machine_theorem.proofs.Consistency.{issued_now}

module _ (config : Config) (opening : FinMap nat_cmp ℕ) (a : State) (s : IsKept config opening a) (c : ℕ) where
  pub issued_count : (a.cores c).issued ≡ length (of_core c a.records) + length (listed (a.cores c).open_op)
  issued_count =
      let ops = map (λ (r : Record). r.op) (of_core c a.records) in
      (s.shape.each_core c).count ∙ ap length (issued_now config opening a s c).all
      ∙ length-append ops (listed (a.cores c).open_op)
      ∙ ap (λ n. n + length (listed (a.cores c).open_op)) (length-map (of_core c a.records) (λ (r : Record). r.op))

  pub next_place : (op : Op) (received : Option ℕ) (ts : ℕ) → (a.cores c).open_op ≡ Some op →
      (record_of c (length a.records) (a.cores c) op received ts).place ≡ length (of_core c a.records)
  next_place op received ts is = search (rules, issued_count)

-- what a move does to the records: none, or one more with the next number
abbrev Adds : State → State → Type 0
Adds a b = (b.records ≡ a.records) ⊎ ((r : Record) × (r.number ≡ length a.records) × (b.records ≡ a.records ++ r ∷ []))

step_adds : {S : Type 0} (a b : State) (put : S → State) → ((part : S) → (put part).records ≡ a.records) →
    (rest : List Message) (s : Step S) → StepsTo a put rest s b → Adds a b
step_adds a b put keeps rest step.Drops to = inl (ap (λ (x : State). x.records) to)
step_adds a b put keeps rest (step.Makes did consumes sends part) to =
    inl (ap (λ (x : State). x.records) to ∙ answered (put part) (cond consumes rest a.bag) sends ∙ keeps part)
  where
    answered : (x : State) (bag : List Message) (answer : Option Message) →
        (with_answer x bag answer).records ≡ x.records
    answered x bag None = refl
    answered x bag (Some message) = refl
step_adds a b put keeps rest _ to = absurd to

move_adds : (config : Config) (a b : State) → Move config a b → Adds a b
move_adds config a b (issues c op core lt e) = inl refl
move_adds config a b (completes c op received ts core lt e) = grind arith
move_adds config a b (core_steps c act rest s lt beside is to) = step_adds a b (with_core a c) (λ part. refl) rest s to
move_adds config a b (bank_steps i act rest s lt beside is to) = step_adds a b (with_bank a i) (λ part. refl) rest s to
move_adds config a b (dram_steps i act rest s lt beside is to) = step_adds a b (with_dram a i) (λ part. refl) rest s to

-- each record's number is its index
abbrev InOrder : ℕ → List Record → Type 0
InOrder n rs = (k : ℕ) (r : Record) → slice_get rs k ≡ Some r → r.number ≡ n + k

one_more : (n : ℕ) (rs : List Record) (x : Record) → x.number ≡ n + length rs → InOrder n rs → InOrder n (rs ++ x ∷ [])
one_more n [] x next all zero r is = ap (λ (y : Record). y.number) (sym (Some_injective x r is)) ∙ next
one_more n [] x next all (suc k) r is = absurd (let e : ◌≡◌ {A = Option Record} None (Some r) = is in cc)
one_more n (y ∷ rs) x next all zero r is = all 0 r is
one_more n (y ∷ rs) x next all (suc k) r is =
    let later : r.number ≡ n + 1 + k = one_more (n + 1) rs x (omega (arith, next))
    (λ j z there. let e = all (suc j) z there in omega arith) k r is in
    omega arith

pub records_in_order : (config : Config) (opening : FinMap nat_cmp ℕ) (a : State) → Reached config opening a →
    (k : ℕ) (r : Record) → slice_get a.records k ≡ Some r → r.number ≡ k
records_in_order config opening a reached k r is = let e = by_reached a reached k r is in omega arith
  where
    by_reached : (a : State) → Reached config opening a → InOrder 0 a.records
    by_reached a opens = λ k r is. absurd (let e : ◌≡◌ {A = Option Record} None (Some r) = is in cc)
    by_reached b (goes_on {a} reached move) =
        let before = by_reached a reached in
        ⊎_elim
        (λ (e : b.records ≡ a.records). subst (InOrder 0) (sym e) before)
        (λ (more : (r : Record) × (r.number ≡ length a.records) × (b.records ≡ a.records ++ r ∷ [])). subst
        (InOrder 0) (sym more.2) (one_more 0 a.records more.0 (let e = more.1 in omega arith) before))
        (move_adds config a b move)
    by_reached b (same {a} reached e) = subst (InOrder 0) e.records (by_reached a reached)

-- Lists of steps with more behind them: the steps that are next, and what is left once one is done.
use Rattle.std.proofs.Common.{◌≡◌, ◌≢◌, ◌⊎◌, ℕ, zero, suc, ◌+◌, ◌<◌, ◌≤◌, List, [], ◌∷◌, ◌++◌, length, get_or, Option}
use Rattle.std.proofs.Common.{Some, None, inl, inr, refl, sym, ap, ◌∙◌, subst, arith, unwrap_or}
use Rattle.std.specs.Prelude.{option_map, slice_get}
use Rattle.std.proofs.lemmas.Bool.{cases_eq}
use Rattle.std.proofs.lemmas.List.{length-set}
use Rattle.std.proofs.lemmas.Option.{get_or_from_slice_get, unwrap_or-slice_get}
use Rattle.programs.specs.declared.steps.Step.{Step}
use Rattle.programs.specs.Acts.{first_step, behind_first, next_of, next_in, done_of, done_in}
use Rattle.schedules.specs.LongerLists.{step_acts, joined}
use Rattle.schedules.proofs.ServiceSteps.{done_there}

-- nothing stands behind a core's list, or the list has so many steps
abbrev pub HasAhead : ℕ → List Step → List Step → Type 0
HasAhead steps list more = (more ≡ []) ⊎ (steps ≤ length list)

first_same : (list more : List Step) → HasAhead 1 list more → first_step (list ++ more) ≡ first_step list
first_same [] more (inl none) = ap first_step none
first_same [] more (inr some) = absurd (omega (arith, some))
first_same (x ∷ xs) more ahead = refl

rest_same : (list more : List Step) (received : Option ℕ) → HasAhead 1 list more →
    behind_first list received ++ more ≡ behind_first (list ++ more) received
rest_same [] more received (inl none) = rw none refl
rest_same [] more received (inr some) = absurd (omega (arith, some))
rest_same (x ∷ xs) more received ahead = refl

one_less : (list : List Step) (received : Option ℕ) → length list ≤ length (behind_first list received) + 1
one_less [] received = omega arith
one_less (x ∷ xs) received = omega arith

pub list_joined : (lists behind : List (List Step)) (c : ℕ) → length behind ≡ length lists →
    slice_get (joined lists behind) c ≡ option_map (λ list. list ++ get_or behind c []) (slice_get lists c)
list_joined [] behind c same = refl
list_joined (list ∷ lists) [] c same = absurd (omega (arith, same))
list_joined (list ∷ lists) (more ∷ behind) zero same = refl
list_joined (list ∷ lists) (more ∷ behind) (suc c) same = list_joined lists behind c (omega (arith, same))

module _ (lists behind : List (List Step)) (c : ℕ) (same : length behind ≡ length lists) where
  pub next_joined : HasAhead 1 (get_or lists c []) (get_or behind c []) →
      next_in step_acts (joined lists behind) c ≡ next_in step_acts lists c
  next_joined ahead = ap (next_of step_acts) (list_joined lists behind c same) ∙ by_list (slice_get lists c) refl
    where
      by_list : (o : Option (List Step)) → slice_get lists c ≡ o →
          next_of step_acts (option_map (λ list. list ++ get_or behind c []) o) ≡ next_of step_acts o
      by_list None is = refl
      by_list (Some list) is =
          first_same list (get_or behind c [])
          (subst (λ (l : List Step). HasAhead 1 l (get_or behind c []))
          (get_or_from_slice_get lists c list [] is) ahead)

done_more : (list : List Step) (lists : List (List Step)) (c : ℕ) (received : Option ℕ) →
    done_in step_acts (list ∷ lists) (suc c) received ≡ list ∷ done_in step_acts lists c received
done_more list lists c received = by_list (slice_get lists c)
  where
    by_list : (o : Option (List Step)) →
        done_of step_acts (list ∷ lists) (suc c) received o ≡ list ∷ done_of step_acts lists c received o
    by_list None = refl
    by_list (Some other) = refl

pub done_joined : (lists behind : List (List Step)) (c : ℕ) (received : Option ℕ) → length behind ≡ length lists →
    HasAhead 1 (get_or lists c []) (get_or behind c []) →
    joined (done_in step_acts lists c received) behind ≡ done_in step_acts (joined lists behind) c received
done_joined [] behind c received same ahead = refl
done_joined (list ∷ lists) [] c received same ahead = absurd (omega (arith, same))
done_joined (list ∷ lists) (more ∷ behind) zero received same ahead =
    ap (λ (l : List Step). l ∷ joined lists behind) (rest_same list more received ahead)
done_joined (list ∷ lists) (more ∷ behind) (suc c) received same ahead =
    ap (λ (ls : List (List Step)). joined ls (more ∷ behind)) (done_more list lists c received)
    ∙ ap (λ (ls : List (List Step)). (list ++ more) ∷ ls)
    (done_joined lists behind c received (omega (arith, same)) ahead)
    ∙ sym (done_more (list ++ more) (joined lists behind) c received)

-- what is left once a step is done
module _ (lists : List (List Step)) (c : ℕ) (received : Option ℕ) where
  pub done_count : length (done_in step_acts lists c received) ≡ length lists
  done_count = by_list (slice_get lists c)
    where
      by_list : (o : Option (List Step)) → length (done_of step_acts lists c received o) ≡ length lists
      by_list None = refl
      by_list (Some list) = length-set lists c (behind_first list received)

  left_there : (core : ℕ) → core ≢ c → get_or (done_in step_acts lists c received) core [] ≡ get_or lists core []
  left_there core other =
      sym (unwrap_or-slice_get (done_in step_acts lists c received) core [])
      ∙ ap (λ (o : Option (List Step)). unwrap_or o []) (done_there step_acts lists c received core other)
      ∙ unwrap_or-slice_get lists core []

left_here : (lists : List (List Step)) (c : ℕ) (received : Option ℕ) →
    length (get_or lists c []) ≤ length (get_or (done_in step_acts lists c received) c []) + 1
left_here [] c received = omega arith
left_here (list ∷ lists) zero received = one_less list received
left_here (list ∷ lists) (suc c) received =
    rw (done_more list lists c received) (left_here lists c received)

-- each core's list has so many steps, or nothing stands behind it; and there is one for each
pub record Ready (behind : List (List Step)) (steps : ℕ → ℕ) (lists : List (List Step)) : Type 0 where
  pub ahead : (core : ℕ) → HasAhead (steps core) (get_or lists core []) (get_or behind core [])
  pub count : length behind ≡ length lists

-- of these steps one core takes one
pub record TakesOne (c : ℕ) (steps left : ℕ → ℕ) : Type 0 where
  pub here : left c < steps c
  pub there : (core : ℕ) → core ≢ c → left core ≤ steps core

pub fewer : (steps left : ℕ) (list more : List Step) → left ≤ steps → HasAhead steps list more → HasAhead left list more
fewer steps left list more less (inl none) = inl none
fewer steps left list more less (inr enough) = inr (omega (arith, less, enough))

module _ (behind : List (List Step)) {steps left : ℕ → ℕ} {lists : List (List Step)} where
  pub ready_for_less : ((core : ℕ) → left core ≤ steps core) → Ready behind steps lists → Ready behind left lists
  ready_for_less less ready =
      record { ahead = λ core. fewer (steps core) (left core) _ _ (less core) (ready.ahead core); count = ready.count }

  module _ (c : ℕ) (takes : TakesOne c steps left) (ready : Ready behind steps lists) where
    pub none_taken : Ready behind left lists
    none_taken = ready_for_less (λ core. elim (cases_eq core c) [
      | inl same ↦ subst (λ (k : ℕ). left k ≤ steps k) (sym same) (omega (arith, takes.here))
      | inr other ↦ takes.there core other
    ]) ready

    pub has_one : HasAhead 1 (get_or lists c []) (get_or behind c [])
    has_one = fewer (steps c) 1 _ _ (omega (arith, takes.here)) (ready.ahead c)

    pub one_taken : (received : Option ℕ) → Ready behind left (done_in step_acts lists c received)
    one_taken received = record {
      ahead = λ core. elim (cases_eq core c) [
        | inl same ↦ subst (λ (k : ℕ). HasAhead (left k) (get_or (done_in step_acts lists c received) k [])
            (get_or behind k [])) (sym same) (by_ahead (ready.ahead c))
        | inr other ↦ rw (left_there lists c received core other)
            (fewer (steps core) (left core) _ _ (takes.there core other) (ready.ahead core))
      ];
      count = ready.count ∙ sym (done_count lists c received);
    }
      where
        by_ahead : HasAhead (steps c) (get_or lists c []) (get_or behind c []) →
            HasAhead (left c) (get_or (done_in step_acts lists c received) c []) (get_or behind c [])
        by_ahead (inl none) = inl none
        by_ahead (inr enough) =
            inr (let less = left_here lists c received in omega (arith, takes.here, enough, less))

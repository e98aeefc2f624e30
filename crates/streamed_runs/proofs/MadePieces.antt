-- What a watched run of queues of steps is, as a piece.
use Rattle.std.proofs.Common.{◌≡◌, ◌≢◌, ℕ, zero, suc, ◌<◌, ◌≤◌, Bool, true, false, not, ◌&&◌, List, [], ◌∷◌, ◌++◌}
use Rattle.std.proofs.Common.{length, take, None, inl, inr, refl, sym, ap, ◌∙◌, subst, arith, append-nil}
use Rattle.std.proofs.lemmas.Bool.{and_parts, cases_lt}
use Rattle.std.proofs.lemmas.Bool.Decides.{nat_tests}
use Rattle.std.proofs.lemmas.List.{drop_all, get_or_past, take_all}
use Rattle.std.specs.List.{AllByRecursion as Each, refill, length_refill}
use Rattle.physiological_order.specs.declared.operation.Record.{Record}
use Rattle.machine_table.specs.declared.config.Config.{Config}
use Rattle.machine_table.specs.Machine.{Machine}
use Rattle.machine_table.specs.SetUp.{is_good, is_within}
use Rattle.programs.specs.declared.ends.End.{End}
use Rattle.programs.specs.declared.steps.Step.{Step}
use Rattle.programs.specs.Acts.{next_in}
use Rattle.schedules.specs.LongerLists.{step_acts}
use Rattle.schedules.specs.Paces.{Paced}
use Rattle.trace_reader.specs.Steps.{lane}
use Rattle.streamed_runs.specs.Pieces.{IsPiece}

next_none : (queues : List (List Step)) (core : ℕ) → next_in step_acts queues core ≡ None → lane queues core ≡ []
next_none [] core none = refl
next_none ([] ∷ queues) zero none = refl
next_none ((step ∷ steps) ∷ queues) zero none = absurd cc
next_none (steps ∷ queues) (suc core) none = next_none queues core none

-- each core is done, and there are no more queues
pub none_left : (queues : List (List Step)) (cores : ℕ) → length queues ≤ cores →
    ((core : ℕ) → core < cores → next_in step_acts queues core ≡ None) → (core : ℕ) → lane queues core ≡ []
none_left queues cores most none core = elim (cases_lt core cores) [
  | inl below ↦ next_none queues core (none core below)
  | inr other ↦ get_or_past queues core [] (omega (arith, most, other))
]

each_both : (P : Record → Type 0) (some more : List Record) → Each P some → Each P more → Each P (some ++ more)
each_both P [] more h k = k
each_both P (r ∷ some) more h k = (h.0, each_both P some more h.1 k)

refilled : (old new : List (List Step)) → length new ≡ length old → refill (length old) old new ≡ new
refilled old new same =
    ap (λ (rest : List (List Step)). take (length old) (new ++ rest)) (drop_all (length new) old (omega (arith, same)))
    ∙ ap (take (length old)) (append-nil new) ∙ take_all (length old) new (omega (arith, same))

module _ {turns : ℕ} {pace : Paced} {m : Machine} {lent : List (List Step)} {next : Paced} {after : Machine}
    {left : List (List Step)} {end : End} {done : List Record}
    (piece : IsPiece turns pace m lent next after left end done)
    (queues : List (List Step)) (is : lent ≡ queues) (as_many : length left ≡ length lent) where
  -- the queues that were lent stand where they were
  pub put_back : IsPiece turns pace m queues next after (refill (length queues) queues left) end done
  put_back =
      subst (λ (rest : List (List Step)). IsPiece turns pace m queues next after rest end done)
      (sym (refilled queues left (as_many ∙ ap length is)))
      (subst (λ (before : List (List Step)). IsPiece turns pace m before next after left end done) is piece)

  -- what is true of each run stays so
  pub stays_sound : is_good m.config ≡ true → length queues ≡ m.config.cores →
      Each (λ r. r.core < m.config.cores) m.records → (is_good after.config ≡ true)
      × (length (refill (length queues) queues left) ≡ after.config.cores)
      × Each (λ r. r.core < after.config.cores) after.records
  stays_sound good many there = (
    subst (λ (c : Config). is_good c ≡ true) (sym piece.config) good,
    sym (length_refill (length queues) queues left refl) ∙ many ∙ ap (λ (c : Config). c.cores) (sym piece.config),
    subst (λ (c : Config). Each (λ r. r.core < c.cores) after.records) (sym piece.config)
        (subst (Each (λ r. r.core < m.config.cores)) (sym piece.added)
        (each_both (λ r. r.core < m.config.cores) m.records done there piece.there)),
  )

some_step : (steps : List Step) → steps ≢ [] → 0 < length steps
some_step [] some = absurd (some refl)
some_step (step ∷ steps) some = omega arith

-- of queues that each have a step, the shortest one has one, too
pub some_in_each : (queues : List (List Step)) (shortest : ℕ) → 0 < length queues →
    (0 < length queues → (core : ℕ) × (core < length queues) × (shortest ≡ length (lane queues core))) →
    ((core : ℕ) → core < length queues → lane queues core ≢ []) → 0 < shortest
some_in_each queues shortest any one full =
    let found = one any in let some = some_step (lane queues found.0) (full found.0 found.1) in let is = found.2 in
    omega (arith, is, some)

-- a queue has a step if each has one, or if not all are empty
pub some_queue : (queues : List (List Step)) → 0 < length queues → (has_more are_empty : Bool) →
    (has_more ≡ true → (core : ℕ) → core < length queues → lane queues core ≢ []) →
    (are_empty ≡ false → (core : ℕ) × (core < length queues) × (lane queues core ≢ [])) →
    (has_more ≡ false → are_empty ≡ false) → (core : ℕ) × (lane queues core ≢ [])
some_queue queues any true are_empty full one not = (0, full refl 0 any)
some_queue queues any false are_empty full one not = let found = one (not refl) in (found.0, found.2)

pub turned : (b c : Bool) → not b ≡ c → b ≡ not c
turned true c is = ap not is
turned false c is = ap not is

some_of : (n most : ℕ) → is_within n most ≡ true → 0 < n
some_of n most is = grind (arith, nat_tests)

-- the first one of several that hold
first_of : (a b : Bool) → (a && b) ≡ true → a ≡ true
first_of a b both = (and_parts a b both).0

pub some_core : (config : Config) → is_good config ≡ true → 0 < config.cores
some_core config good =
    some_of config.cores 64
    (first_of _ _ (first_of _ _ (first_of _ _ (first_of _ _ (first_of _ _ (first_of _ _ good))))))

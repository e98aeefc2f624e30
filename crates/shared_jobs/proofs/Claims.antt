-- Jobs that a worker claimed: their numbers rise, so there are no more of them than jobs.
use Rattle.std.proofs.Common.{◌≡◌, ℕ, suc, ◌+◌, ◌≤◌, List, [], ◌∷◌, ◌++◌, length, map, sym, ap, ◌∙◌, subst, arith}
use Rattle.std.proofs.Common.{append-nil, Option}
use Rattle.std.proofs.lemmas.List.{length-map, map-append}
use Rattle.drawn_numbers.specs.Drawn.{AllBelow, RisesFrom}
use Rattle.shared_jobs.specs.declared.workers.Stop.{Stop}
use Rattle.shared_jobs.specs.declared.workers.Stop.TheVariants as stop
use Rattle.shared_jobs.specs.declared.workers.Worker.{Worker}
use Rattle.shared_jobs.specs.Results.{AreOfJobsBelow}
use Rattle.shared_jobs.specs.Teams.{HasStopped}

pub rises_on : (least : ℕ) (xs : List ℕ) (n : ℕ) → least ≤ n → RisesFrom least xs → AllBelow n xs →
    RisesFrom least (xs ++ n ∷ [])
rises_on least [] n le rises below = (le, tt)
rises_on least (x ∷ xs) n le rises below =
    (rises.0, rises_on (x + 1) xs n (let lt = below.0 in omega arith) rises.1 below.1)

few_below : (least bound : ℕ) (xs : List ℕ) → least ≤ bound → RisesFrom least xs → AllBelow bound xs →
    least + length xs ≤ bound
few_below least bound [] le rises below = omega arith
few_below least bound (x ∷ xs) le rises below =
    let first = rises.0 in
    let lt = below.0 in
    let rest = few_below (x + 1) bound xs (omega arith) rises.1 below.1 in
    omega arith

numbers_below : {X : Type 0} (bound : ℕ) (ps : List (ℕ × X)) → AreOfJobsBelow bound ps →
    AllBelow bound (map (λ (p : ℕ × X). p.0) ps)
numbers_below bound [] all = tt
numbers_below bound (p ∷ ps) all =
    (all 0 p (omega arith), numbers_below bound ps (λ k d lt. all (suc k) d (omega arith)))

pub few_done : {X : Type 0} (count : ℕ) (ps : List (ℕ × X)) (drawn : List ℕ) →
    drawn ≡ map (λ (p : ℕ × X). p.0) ps ++ [] → RisesFrom 0 drawn → AreOfJobsBelow count ps → length ps ≤ count
few_done count ps drawn is rises below =
    let same : drawn ≡ map (λ (p : ℕ × _). p.0) ps = is ∙ append-nil (map (λ (p : ℕ × _). p.0) ps) in
    let all = subst (AllBelow count) (sym same) (numbers_below count ps below) in
    let few = few_below 0 count drawn (omega arith) rises all in
    let long = ap length same in
    let as_many = length-map {B = ℕ} ps (λ (p : ℕ × _). p.0) in
    omega arith

module _ {X : Type 0} (drawn drawn' : List ℕ) (ps : List (ℕ × X))
    (done : drawn ≡ map (λ (p : ℕ × X). p.0) ps ++ []) where
  -- one more is claimed, and one more is done
  pub one_claimed : (n : ℕ) → drawn' ≡ drawn ++ n ∷ [] → drawn' ≡ map (λ (p : ℕ × X). p.0) ps ++ n ∷ []
  one_claimed n is = is ∙ ap (λ ds. ds ++ n ∷ []) (done ∙ append-nil (map (λ (p : ℕ × X). p.0) ps))

  pub one_done : (ps' : List (ℕ × X)) (p : ℕ × X) → drawn' ≡ drawn ++ p.0 ∷ [] → ps' ≡ ps ++ p ∷ [] →
      drawn' ≡ map (λ (p : ℕ × X). p.0) ps' ++ []
  one_done ps' p is more =
      one_claimed p.0 is ∙ sym (map-append (λ (q : ℕ × X). q.0) ps (p ∷ []))
      ∙ ap (map (λ (q : ℕ × X). q.0)) (sym more) ∙ sym (append-nil (map (λ (q : ℕ × X). q.0) ps'))

-- where a worker stopped doesn't depend on what it says of that
pub same_end : {X : Type 0} (count : ℕ) (s : Stop) (w : Worker X) (said : Option Stop) → HasStopped count s w →
    HasStopped count s (record w { stop = said })
same_end count stop.NoMoreJobs w said so = so
same_end count stop.NoPlace w said so = so
same_end count stop.Refused w said so = so

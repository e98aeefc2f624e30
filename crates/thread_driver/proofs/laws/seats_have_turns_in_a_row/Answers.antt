-- How many turns a seat has in a row.
use Rattle.std.proofs.Common.{Bool, true, false, ◌&&◌, ◌||◌, not, ◌≡◌, ℕ, ◌+◌, ◌<◌, ◌≤◌, inl, inr, refl, arith}
use Rattle.std.proofs.lemmas.Bool.{cases_lt}
use Rattle.thread_driver.specs.declared.told.Told.{Told}
use Rattle.thread_driver.specs.Teams.{InARow, is_used, stops, follows}
use Rattle.thread_driver.proofs.laws.seats_have_turns_in_a_row.Goals as goal

followed : (a b d : Bool) → ((a && not (b || d)) ≡ true → (a ≡ true) × (b ≡ false) × (d ≡ false))
    × ((a ≡ true) × (b ≡ false) × (d ≡ false) → (a && not (b || d)) ≡ true)
followed true false false = ((λ e. (refl, refl, refl)), (λ e. refl))
followed true true d = ((λ e. absurd cc), (λ e. absurd cc))
followed true false true = ((λ e. absurd cc), (λ e. absurd cc))
followed false b d = ((λ e. absurd cc), (λ e. absurd cc))

pub returns-clause-followed : goal.returns-clause-followed
returns-clause-followed g c told = followed told.has_progressed told.no_memory told.is_exhausted

pub returns-clause-sixteen : goal.returns-clause-sixteen
returns-clause-sixteen g c limit n within = grind (arith)

pub returns-clause-limit : goal.returns-clause-limit
returns-clause-limit g c limit n past = grind (arith)

none : {X : Type 0} {Turn : X → Told → X → Type 0} {most n m : ℕ} {told : Told} {x y : X} →
    InARow Turn most n x m told y → most ≤ n → (m ≡ n) × (y ≡ x)
none (is_used used) past = (refl, refl)
none (stops below turn over) past = absurd (omega (arith, below, past))
none (follows below turn on row) past = absurd (omega (arith, below, past))

some : {X : Type 0} {Turn : X → Told → X → Type 0} {most n m : ℕ} {told : Told} {x y : X} →
    InARow Turn most n x m told y → n < most → (n < m) × (m ≤ most)
some (is_used used) left = absurd (omega (arith, used, left))
some (stops below turn over) left = (omega arith, omega (arith, left))
some {most = most} (follows {n = n} {m = m} below turn on row) left =
    elim (cases_lt (n + 1) most) [
      | inl more ↦ let rest = some row more in (omega (arith, rest.0), rest.1)
      | inr used ↦ let rest = none row used in (omega (arith, rest.0), omega (arith, rest.0, left))
    ]

pub returns-clause-cores : goal.returns-clause-cores
returns-clause-cores g c m most n k told p q before after row left = some row left

pub returns-clause-banks : goal.returns-clause-banks
returns-clause-banks g c fair m most n k told p q row left = some row left

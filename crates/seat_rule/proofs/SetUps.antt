-- A machine that is well set up has few seats and few slots.
use Rattle.std.proofs.Common.{◌≡◌, ℕ, ◌*◌, ◌≤◌, true, arith, mul_assoc}
use Rattle.std.proofs.lemmas.Nat.{mul-le}
use Rattle.std.proofs.lemmas.Bool.Decides.{nat_tests}
use Rattle.std.proofs.lemmas.Grind.{common_steps}
use Rattle.machine_table.specs.declared.config.Config.{Config}
use Rattle.machine_table.specs.SetUp.{is_good}

pub few_parts : (c : Config) → is_good c ≡ true → (1 ≤ c.cores) × (c.cores ≤ 64) × (1 ≤ c.banks) × (c.banks ≤ 8)
few_parts c good = grind (arith, nat_tests)

-- so many cores and banks have few slots
pub few_slots : (cores banks : ℕ) → cores ≤ 64 → banks ≤ 8 → 8 * cores * banks ≤ 4096
few_slots cores banks c b = grind (arith, nat_tests, common_steps, mul-le, mul_assoc)

-- The values of a machine that is well set up are in the ranges of its parts.
use Rattle.std.proofs.Common.{◌≡◌, ◌⊎◌, inl, inr, ◌<◌, ◌≤◌, ◌&&◌, ◌||◌, ℕ, eqb, eqb-true, leb, leb-true, Bool}
use Rattle.std.proofs.Common.{true, false, refl, arith}
use Rattle.std.proofs.lemmas.Bool.{false≢true}
use Rattle.line_sets.specs.Geometry.{IsGeometry}
use Rattle.network.specs.SetUp as network
use Rattle.core_pts.specs.SetUp as core
use Rattle.llc_bank.specs.SetUp as bank
use Rattle.machine_table.specs.declared.config.Config.{Config}
use Rattle.machine_table.specs.Opening.{bank_config, core_config}
use Rattle.machine_table.specs.SetUp.{is_good, is_within}

both_of : (a b : Bool) → (a && b) ≡ true → (a ≡ true) × (b ≡ true)
both_of true b h = (refl, h)
both_of false b h = absurd (false≢true h)

within : (n most : ℕ) → is_within n most ≡ true → (1 ≤ n) × (n ≤ most)
within n most h = let p = both_of (leb 1 n) (leb n most) h in (leb-true 1 n p.0, leb-true n most p.1)

one_or_eight : (n : ℕ) → (eqb n 1 || eqb n 8) ≡ true → (n ≡ 1) ⊎ (n ≡ 8)
one_or_eight n h = by_first (eqb n 1) refl h
  where
    by_first : (b : Bool) → eqb n 1 ≡ b → (b || eqb n 8) ≡ true → (n ≡ 1) ⊎ (n ≡ 8)
    by_first true one h = inl (eqb-true n 1 one)
    by_first false one h = inr (eqb-true n 8 h)

record Ranges (c : Config) : Type 0 where
  cores : (1 ≤ c.cores) × (c.cores ≤ 64)
  banks : (1 ≤ c.banks) × (c.banks ≤ 8)
  messages : (1 ≤ c.messages) × (c.messages ≤ 65536)
  sets : (1 ≤ c.sets) × (c.sets ≤ 1024)
  ways : (1 ≤ c.ways) × (c.ways ≤ 16)
  bank_sets : (1 ≤ c.bank_sets) × (c.bank_sets ≤ 1024)
  bank_ways : (1 ≤ c.bank_ways) × (c.bank_ways ≤ 16)
  words : (c.line_words ≡ 1) ⊎ (c.line_words ≡ 8)
  lease : (1 ≤ c.lease) × (c.lease ≤ 4294967296)

ranges : (c : Config) → is_good c ≡ true → Ranges c
ranges c good =
    let parts : Bool = is_within c.cores 64 && is_within c.banks 8 in
    let shape : Bool = parts && is_within c.messages 65536 in
    let caches : Bool = is_within c.sets 1024 && is_within c.ways 16 in
    let banks : Bool = is_within c.bank_sets 1024 && is_within c.bank_ways 16 in
    let words : Bool = eqb c.line_words 1 || eqb c.line_words 8 in
    let all = both_of (shape && caches && banks && words) (is_within c.lease 4294967296) good in
    let but_lease = both_of (shape && caches && banks) words all.0 in
    let but_words = both_of (shape && caches) banks but_lease.0 in
    let of_cores = both_of shape caches but_words.0 in
    let of_shape = both_of parts (is_within c.messages 65536) of_cores.0 in
    let of_parts = both_of (is_within c.cores 64) (is_within c.banks 8) of_shape.0 in
    let of_caches = both_of (is_within c.sets 1024) (is_within c.ways 16) of_cores.1 in
    let of_banks = both_of (is_within c.bank_sets 1024) (is_within c.bank_ways 16) but_words.1 in
    record {
      cores = within c.cores 64 of_parts.0;
      banks = within c.banks 8 of_parts.1;
      messages = within c.messages 65536 of_shape.1;
      sets = within c.sets 1024 of_caches.0;
      ways = within c.ways 16 of_caches.1;
      bank_sets = within c.bank_sets 1024 of_banks.0;
      bank_ways = within c.bank_ways 16 of_banks.1;
      words = one_or_eight c.line_words but_lease.1;
      lease = within c.lease 4294967296 all.1;
    }

module _ (c : Config) (good : is_good c ≡ true) where
  pub flight_in_range : network.IsInRange c.cores c.banks c.messages
  flight_in_range = let r = ranges c good in
      record {
        some_cores = r.cores.0;
        most_cores = r.cores.1;
        some_banks = r.banks.0;
        most_banks = r.banks.1;
        some_capacity = r.messages.0;
        most_capacity = r.messages.1;
      }

  pub core_in_range : (n : ℕ) → n < c.cores → core.IsInRange (core_config c n)
  core_in_range n below = let r = ranges c good in let most = r.cores.1 in
      record {
        number = omega arith;
        some_banks = r.banks.0;
        most_banks = r.banks.1;
        words = r.words;
        some_lease = r.lease.0;
        most_lease = r.lease.1;
      }

  pub bank_in_range : (n : ℕ) → n < c.banks → bank.IsInRange (bank_config c n)
  bank_in_range n below = let r = ranges c good in
      record {
        some_banks = r.banks.0;
        most_banks = r.banks.1;
        number = below;
        some_lease = r.lease.0;
        most_lease = r.lease.1;
      }

  pub cache_geometry : IsGeometry c.sets c.ways
  cache_geometry = let r = ranges c good in
      record { some_sets = r.sets.0; most_sets = r.sets.1; some_ways = r.ways.0; most_ways = r.ways.1 }

  pub bank_geometry : IsGeometry c.bank_sets c.bank_ways
  bank_geometry = let r = ranges c good in
      record {
        some_sets = r.bank_sets.0;
        most_sets = r.bank_sets.1;
        some_ways = r.bank_ways.0;
        most_ways = r.bank_ways.1;
      }

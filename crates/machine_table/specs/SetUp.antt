-- Which set-ups a machine takes, and which machines are set up alike.
use Rattle.std.specs.Prelude.{◌≡◌, ℕ, ◌==◌, nat_le, Bool, ◌&&◌, ◌||◌, length}
use Rattle.machine_table.specs.declared.config.Config.{Config}
use Rattle.machine_table.specs.Machine.{Machine}

-- 1 to the greatest
abbrev pub is_within : ℕ → ℕ → Bool
is_within number most = nat_le 1 number && nat_le number most

-- every value is in its range
abbrev pub is_good : Config → Bool
is_good c =
    (is_within c.cores 64 && is_within c.banks 8 && is_within c.messages 65536)
    && (is_within c.sets 1024 && is_within c.ways 16)
    && (is_within c.bank_sets 1024 && is_within c.bank_ways 16)
    && (c.line_words == 1 || c.line_words == 8)
    && is_within c.lease 4294967296

-- the one is set up as the other, with as many cores, and opened with the same words
pub record SetUpAs (m n : Machine) : Type 0 where
  pub config : n.config ≡ m.config
  pub opening : n.opening ≡ m.opening
  pub cores : length n.cores ≡ length m.cores

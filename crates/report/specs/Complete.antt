-- Records of all operations that cores were issued.
use Rattle.std.specs.Prelude.{◌≡◌, ◌≢◌, ℕ, ◌<◌, ◌==◌, List, length, count_by}
use Rattle.std.specs.List.{Contains}
use Rattle.physiological_order.specs.declared.operation.Op.{Op}
use Rattle.physiological_order.specs.declared.operation.Record.{Record}

-- how many of the records are of a core
abbrev pub count_of_core : ℕ → List Record → ℕ
count_of_core core records = count_by (λ r. r.core == core) records

-- of this many cores, each has as many records as operations
abbrev pub AreAll : (cores : ℕ) → (ℕ → List Op) → List Record → Type 0
AreAll cores issued records = (core : ℕ) → core < cores → count_of_core core records ≡ length (issued core)

-- the first of the cores that hasn't
pub record IsFirstLack (cores : ℕ) (issued : ℕ → List Op) (records : List Record) (core : ℕ) : Type 0 where
  pub among : core < cores
  pub lacks : count_of_core core records ≢ length (issued core)
  pub first : AreAll core issued records

-- one of the records is that of the operation at a place of a core
abbrev pub HasRecord : List Record → (core place : ℕ) → Op → Type 0
HasRecord records core place op =
    (r : Record) × Contains records r × (r.core ≡ core) × (r.place ≡ place) × (r.op ≡ op)

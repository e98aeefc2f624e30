-- The machine as it opens.
use Rattle.std.specs.Prelude.{ℕ, zero, suc, ◌+◌, ◌/◌, ◌%◌, ◌==◌, false, List, [], ◌∷◌, None, replicate, if◌then◌else◌}
use Rattle.std.specs.Prelude.{slice_set}
use Rattle.std.specs.Ordering.{nat_cmp}
use Rattle.std.specs.FinMap.{FinMap, empty, insert, entries}
use Rattle.private_cache.specs.declared.cache.Geometry.{Geometry}
use Rattle.core_pts.specs.declared.config.CoreConfig.{CoreConfig}
use Rattle.core_pts.specs.CoreTable.{CoreState}
use Rattle.llc_bank.specs.declared.config.BankConfig.{BankConfig}
use Rattle.llc_bank.specs.BankTable.{BankState}
use Rattle.dram_mts.specs.Lines.{words_of}
use Rattle.machine_table.specs.declared.config.Config.{Config}
use Rattle.network.specs.Mail.{no_mail}
use Rattle.machine_table.specs.Machine.{Machine}

-- the set-up of the core and of the bank of a number
abbrev pub core_config : Config → ℕ → CoreConfig
core_config c number = record {
  number = number;
  banks = c.banks;
  line_words = c.line_words;
  lease =
      c.lease;
  private_write = c.private_write;
  opening_time = c.opening_time;
}

abbrev pub geometry : Config → Geometry
geometry c = record { sets = c.sets; ways = c.ways }

abbrev pub bank_config : Config → ℕ → BankConfig
bank_config c number = record {
  number = number;
  banks = c.banks;
  sets = c.bank_sets;
  ways = c.bank_ways;
  lease =
      c.lease;
  opening_time = c.opening_time;
}

-- the core of a number, with an empty cache
abbrev pub open_core : Config → ℕ → CoreState
open_core c number = record {
  number = number;
  banks = c.banks;
  line_words = c.line_words;
  lease = c.lease;
  private_write = c.private_write;
  pts = c.opening_time;
  cache = record { ways = c.ways; sets = replicate c.sets [] };
  open_op = None;
  is_out = false;
  issued = 0;
}

-- the bank of a number, without lines
abbrev pub open_bank : Config → ℕ → BankState
open_bank c number = record {
  number = number;
  banks = c.banks;
  lease = c.lease;
  mts = c.opening_time;
  table = record { ways = c.bank_ways; sets = replicate c.bank_sets [] };
}

-- n parts in a row, from this number on
abbrev pub row : {X : Type 0} → (ℕ → X) → ℕ → ℕ → List X
row part number zero = []
row part number (suc n) = part number ∷ row part (number + 1) n

abbrev pub with_word : FinMap nat_cmp (List ℕ) → ℕ → ℕ → ℕ → FinMap nat_cmp (List ℕ)
with_word lines line index v = insert lines line (slice_set (words_of lines line) index v)

-- the words of a bank's lines, set in its DRAM from the last one to the first
abbrev pub dram_of : Config → ℕ → List (ℕ × ℕ) → FinMap nat_cmp (List ℕ)
dram_of c bank [] = empty
dram_of c bank (word ∷ words) =
    if (word.0 / c.line_words) % c.banks == bank then with_word (dram_of c bank words) (word.0 / c.line_words)
    (word.0 % c.line_words) word.1
    else dram_of c bank words

abbrev pub at_start : Config → FinMap nat_cmp ℕ → Machine
at_start c opening = record {
  config = c;
  opening = opening;
  cores = row (open_core c) 0 c.cores;
  banks = row (open_bank c) 0 c.banks;
  drams = row (λ b. dram_of c b (entries opening)) 0 c.banks;
  mail = no_mail;
  issued = replicate c.cores [];
  records = [];
  is_stopped = false;
}

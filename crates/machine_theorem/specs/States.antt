-- The machine's states without message numbers, capacity and stop: its parts by number, and the messages in flight in
-- no order.
use Rattle.std.specs.Prelude.{◌≡◌, ℕ, zero, suc, ◌+◌, false, List, [], ◌∷◌, length}
use Rattle.std.specs.Prelude.{slice_index_or}
use Rattle.std.specs.Ordering.{nat_cmp}
use Rattle.std.specs.FinMap.{FinMap, entries}
use Rattle.physiological_order.specs.declared.operation.Op.{Op}
use Rattle.physiological_order.specs.declared.operation.Record.{Record}
use Rattle.network.specs.declared.counts.Counts.{Counts}
use Rattle.network.specs.declared.message.Message.{Message}
use Rattle.network.specs.Mail.{no_mail}
use Rattle.core_pts.specs.CoreTable.{CoreState}
use Rattle.llc_bank.specs.BankTable.{BankState}
use Rattle.machine_table.specs.declared.config.Config.{Config}
use Rattle.machine_table.specs.Machine.{Machine}
use Rattle.machine_table.specs.Opening.{dram_of, open_bank, open_core}
use Rattle.machine_theorem.specs.Bags.{bag_of, SameBag}

pub record State : Type 0 where
  pub cores : ℕ → CoreState
  pub banks : ℕ → BankState
  -- the words of the lines that each bank's DRAM was given
  pub drams : ℕ → FinMap nat_cmp (List ℕ)
  -- the messages in flight
  pub bag : List Message
  -- the operations that each core was issued
  pub issued : ℕ → List Op
  pub records : List Record
  pub counts : Counts

-- the same state: parts and lists alike by number, and the same messages in flight
pub record Same (a b : State) : Type 0 where
  pub cores : (c : ℕ) → a.cores c ≡ b.cores c
  pub banks : (j : ℕ) → a.banks j ≡ b.banks j
  pub drams : (j : ℕ) → a.drams j ≡ b.drams j
  pub bag : SameBag a.bag b.bag
  pub issued : (c : ℕ) → a.issued c ≡ b.issued c
  pub records : a.records ≡ b.records
  pub counts : a.counts ≡ b.counts

-- the state of a machine. A part that there isn't is as a part of that number is initially
abbrev pub seen : Machine → State
seen m = record {
  cores = λ c. slice_index_or m.cores c (open_core m.config c);
  banks = λ b. slice_index_or m.banks b (open_bank m.config b);
  drams = λ b. slice_index_or m.drams b (dram_of m.config b (entries m.opening));
  bag = bag_of m.mail.messages;
  issued = λ c. slice_index_or m.issued c [];
  records = m.records;
  counts = m.mail.counts;
}

-- the initial state
abbrev pub initial_state : Config → FinMap nat_cmp ℕ → State
initial_state config opening = record {
  cores = λ c. open_core config c;
  banks = λ b. open_bank config b;
  drams = λ b. dram_of config b (entries opening);
  bag = [];
  issued = λ c. [];
  records = [];
  counts = no_mail.counts;
}

-- the first n of the parts
abbrev pub first : {X : Type 0} → (ℕ → X) → ℕ → List X
first parts zero = []
first parts (suc n) = parts 0 ∷ first (λ i. parts (suc i)) n

-- messages numbered from this number on
abbrev pub numbered_from : ℕ → List Message → List (ℕ × Message)
numbered_from number [] = []
numbered_from number (m ∷ ms) = (number, m) ∷ numbered_from (number + 1) ms

-- a machine with this set-up and opening memory that has this state: its parts in lists, and its messages with numbers
abbrev pub numbered : Config → FinMap nat_cmp ℕ → State → Machine
numbered config opening a = record {
  config = config;
  opening = opening;
  cores = first a.cores config.cores;
  banks = first a.banks config.banks;
  drams = first a.drams config.banks;
  mail = record { messages = numbered_from 0 a.bag; next = length a.bag; counts = a.counts };
  issued = first a.issued config.cores;
  records = a.records;
  is_stopped = false;
}

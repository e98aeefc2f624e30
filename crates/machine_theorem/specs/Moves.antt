-- The moves of the machine's states, each a step of the one part that takes it, and the states that moves reach from
-- the initial one.
use Rattle.std.specs.Prelude.{◌≡◌, ℕ, ◌<◌, Bool, true, List, [], ◌∷◌, ◌++◌, length, cond, Option, Some, None, Ok}
use Rattle.std.specs.Ordering.{nat_cmp}
use Rattle.std.specs.FinMap.{FinMap}
use Rattle.physiological_order.specs.declared.operation.Op.{Op}
use Rattle.network.specs.declared.message.Node.{Node}
use Rattle.network.specs.declared.message.Node.TheVariants.{Core, Bank, Dram}
use Rattle.network.specs.declared.message.Message.{Message}
use Rattle.network.specs.Mail.{counted}
use Rattle.core_pts.specs.CoreTable as core_table
use Rattle.core_pts.specs.CoreTable.{CoreState, core_has_case}
use Rattle.llc_bank.specs.BankTable.{BankState, bank_has_case}
use Rattle.dram_mts.specs.Table.{dram_has_case}
use Rattle.machine_table.specs.declared.config.Config.{Config}
use Rattle.protocol.specs.Machine.{with_at}
use Rattle.machine_table.specs.Step.{record_of}
use Rattle.machine_table.specs.Step.{Step, Exhausts, Keeps, Drops, Makes, Completes, Does, Act, message_of, core_step}
use Rattle.machine_table.specs.Step.{attempt_open, bank_step, dram_step}
use Rattle.machine_theorem.specs.Bags.{SameBag}
use Rattle.machine_theorem.specs.States.{State, Same, initial_state}

-- one part is replaced
abbrev pub with_core : State → ℕ → CoreState → State
with_core a c core = record a { cores = with_at a.cores c core }

abbrev pub with_bank : State → ℕ → BankState → State
with_bank a b bank = record a { banks = with_at a.banks b bank }

abbrev pub with_dram : State → ℕ → FinMap nat_cmp (List ℕ) → State
with_dram a b lines = record a { drams = with_at a.drams b lines }

-- these are in flight, and a message is sent, if there is one
abbrev pub with_answer : State → List Message → Option Message → State
with_answer a rest None = record a { bag = rest }
with_answer a rest (Some message) = record a { bag = message ∷ rest; counts = counted a.counts message.body }

-- a core's operation is completed, and its record is added
abbrev pub with_completion : State → ℕ → Op → Option ℕ → ℕ → CoreState → State
with_completion a c op received ts core =
    record (with_core a c core) {
      records = a.records ++ record_of c (length a.records)
          (a.cores c) op received ts ∷ [];
    }

-- the messages beside the one that an act delivers to a part: it is in the bag and goes to the part, which has a case
-- for it; all of the bag, if the act delivers none
abbrev pub AreBeside : List Message → Node → (Message → Bool) → Option Message → List Message → Type 0
AreBeside bag to has_case None rest = rest ≡ bag
AreBeside bag to has_case (Some message) rest =
    SameBag bag (message ∷ rest) × (message.to ≡ to) × (has_case message ≡ true)

-- the state after a step of a part, which `put` puts into the state; a step that changes nothing is no move
abbrev pub StepsTo : {S : Type 0} → State → (S → State) → List Message → Step S → State → Type 0
StepsTo a put rest Exhausts after = ⊥
StepsTo a put rest (Keeps answer) after = ⊥
StepsTo a put rest Drops after = after ≡ record a { bag = rest }
StepsTo a put rest (Makes answer consumes sends part) after =
    after ≡ with_answer (put part) (cond consumes rest a.bag) sends

pub data Move (config : Config) : State → State → Type 0 where
  -- a core is given its next operation
  issues : {a : State} (c : ℕ) (op : Op) (core : CoreState) → c < config.cores →
      core_table.issue (a.cores c) op ≡ (Ok tt, core) →
      Move config a (record (with_core a c core) { issued = with_at a.issued c (a.issued c ++ op ∷ []) })
  -- a core completes its open operation
  completes : {a : State} (c : ℕ) (op : Op) (received : Option ℕ) (ts : ℕ) (core : CoreState) → c < config.cores →
      attempt_open (a.cores c) (a.cores c).open_op ≡ Completes op received ts core →
      Move config a (with_completion a c op received ts core)
  -- a core takes another step, and so do a bank and the DRAM behind a bank
  core_steps : {a b : State} (c : ℕ) (act : Act) (rest : List Message) (step : Step CoreState) → c < config.cores →
      AreBeside a.bag (Core c) (core_has_case (a.cores c)) (message_of act) rest →
      core_step (a.cores c) act ≡ Does step → StepsTo a (with_core a c) rest step b → Move config a b
  bank_steps : {a b : State} (i : ℕ) (act : Act) (rest : List Message) (step : Step BankState) → i < config.banks →
      AreBeside a.bag (Bank i) (bank_has_case (a.banks i)) (message_of act) rest →
      bank_step (a.banks i) act ≡ step → StepsTo a (with_bank a i) rest step b → Move config a b
  dram_steps : {a b : State} (i : ℕ) (act : Act) (rest : List Message) (step : Step (FinMap nat_cmp (List ℕ))) →
      i < config.banks → AreBeside a.bag (Dram i) (dram_has_case (a.drams i)) (message_of act) rest →
      dram_step (a.drams i) act ≡ step → StepsTo a (with_dram a i) rest step b → Move config a b

-- the states that moves reach from the initial one
pub data Reached (config : Config) (opening : FinMap nat_cmp ℕ) : State → Type 0 where
  opens : Reached config opening (initial_state config opening)
  goes_on : {a b : State} → Reached config opening a → Move config a b → Reached config opening b
  same : {a b : State} → Reached config opening a → Same a b → Reached config opening b

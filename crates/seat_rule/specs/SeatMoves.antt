-- The changes that a seat makes by itself, each a step of its own part: an event of the machine, with the seat's
-- messages in place of the network's.
use Rattle.std.specs.Prelude.{◌≡◌, ℕ, ◌+◌, ◌<◌, List, [], ◌∷◌, ◌++◌, cond, Option, None, Ok, option_to_list}
use Rattle.std.specs.Ordering.{nat_cmp}
use Rattle.std.specs.FinMap.{FinMap}
use Rattle.physiological_order.specs.declared.operation.Op.{Op}
use Rattle.network.specs.declared.message.Node.TheVariants.{Core, Bank, Dram}
use Rattle.network.specs.declared.message.Message.{Message}
use Rattle.core_pts.specs.CoreTable as core_table
use Rattle.core_pts.specs.CoreTable.{CoreState, core_has_case}
use Rattle.llc_bank.specs.BankTable.{BankState, bank_has_case}
use Rattle.dram_mts.specs.Table.{dram_has_case}
use Rattle.machine_table.specs.Step.{Step, Exhausts, Keeps, Drops, Makes, Does, Act, message_of, core_step, bank_step}
use Rattle.machine_table.specs.Step.{dram_step}
use Rattle.machine_theorem.specs.Bags.{SameBag}
use Rattle.machine_theorem.specs.Moves.{AreBeside}
use Rattle.seat_rule.specs.declared.views.SetUp.{SetUp}
use Rattle.seat_rule.specs.declared.views.Hold.{Hold}
use Rattle.seat_rule.specs.Rule.{bag_of_hold}
use Rattle.seat_rule.specs.Serving.{counted_if}

-- nothing of the seat's core has changed
pub record SameCore (a b : Hold) : Type 0 where
  pub core : b.core ≡ a.core
  pub issued : b.issued ≡ a.issued

-- nothing of the seat's bank and DRAM has changed
pub record SameBank (a b : Hold) : Type 0 where
  pub bank : b.bank ≡ a.bank
  pub dram : b.dram ≡ a.dram

-- the seat has these messages, wherever each of them is, and one that it sent, if any, which is counted
pub record HoldSends (a b : Hold) (rest : List Message) (sent : Option Message) : Type 0 where
  pub bag : SameBag (bag_of_hold b) (option_to_list sent ++ rest)
  pub counts : b.counts ≡ counted_if a.counts sent

-- what a step makes of a part p of the seat, which is q afterwards, and of the seat's messages; a step that changes
-- nothing is none
abbrev pub HoldSteps : {S : Type 0} → Hold → Hold → S → S → List Message → Step S → Type 0
HoldSteps a b p q rest Exhausts = ⊥
HoldSteps a b p q rest (Keeps answer) = ⊥
HoldSteps a b p q rest Drops = (q ≡ p) × HoldSends a b rest None
HoldSteps a b p q rest (Makes answer consumes sends part) =
    (q ≡ part) × HoldSends a b (cond consumes rest (bag_of_hold a)) sends

-- The seat id holds a, and then b. A core's seat has the number of its core, the seat of bank i the number cores + i.
pub data SeatMove (z : SetUp) (id : ℕ) (a b : Hold) : Type 0 where
  -- messages change their places within the seat
  sorts : SameCore a b → SameBank a b → HoldSends a b (bag_of_hold a) None → SeatMove z id a b
  -- the core is given its next operation
  issues : (op : Op) → id < z.config.cores → core_table.issue a.core op ≡ (Ok tt, b.core) →
      b.issued ≡ a.issued ++ op ∷ [] → SameBank a b → HoldSends a b (bag_of_hold a) None → SeatMove z id a b
  -- the core takes a step, but completes nothing
  core_steps : (act : Act) (rest : List Message) (step : Step CoreState) → id < z.config.cores →
      AreBeside (bag_of_hold a) (Core id) (core_has_case a.core) (message_of act) rest →
      core_step a.core act ≡ Does step → HoldSteps a b a.core b.core rest step → b.issued ≡ a.issued →
      SameBank a b → SeatMove z id a b
  -- the bank takes a step
  bank_steps : (i : ℕ) (act : Act) (rest : List Message) (step : Step BankState) →
      i < z.config.banks → id ≡ z.config.cores + i →
      AreBeside (bag_of_hold a) (Bank i) (bank_has_case a.bank) (message_of act) rest →
      bank_step a.bank act ≡ step → HoldSteps a b a.bank b.bank rest step → SameCore a b → b.dram ≡ a.dram →
      SeatMove z id a b
  -- the DRAM behind the bank takes a step
  dram_steps : (i : ℕ) (act : Act) (rest : List Message) (step : Step (FinMap nat_cmp (List ℕ))) →
      i < z.config.banks → id ≡ z.config.cores + i →
      AreBeside (bag_of_hold a) (Dram i) (dram_has_case a.dram) (message_of act) rest →
      dram_step a.dram act ≡ step → HoldSteps a b a.dram b.dram rest step → SameCore a b → b.bank ≡ a.bank →
      SeatMove z id a b

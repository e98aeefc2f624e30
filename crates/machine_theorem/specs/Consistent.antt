-- What holds of a reached state.
use Rattle.std.specs.Prelude.{◌≡◌, ◌≤◌, ◌<◌, ℕ, true, List, ◌∷◌, map}
use Rattle.std.specs.Ordering.{nat_cmp}
use Rattle.std.specs.FinMap.{FinMap}
use Rattle.physiological_order.specs.declared.operation.Record.{Record}
use Rattle.physiological_order.specs.Order.{flat, Legal, Arrangement, replay_end}
use Rattle.network.specs.declared.message.Node.{Node}
use Rattle.network.specs.declared.message.Node.TheVariants.{Core, Bank, Dram}
use Rattle.network.specs.declared.message.Message.{Message}
use Rattle.network.specs.Routes.{has_endpoints}
use Rattle.core_pts.specs.CoreTable.{core_has_case}
use Rattle.llc_bank.specs.BankTable.{bank_has_case}
use Rattle.dram_mts.specs.Table.{dram_has_case}
use Rattle.machine_table.specs.declared.config.Config.{Config}
use Rattle.machine_theorem.specs.Bags.{SameBag}
use Rattle.machine_theorem.specs.Ownership.{owners, coherent}
use Rattle.machine_theorem.specs.States.{State}
use Rattle.machine_theorem.specs.View.{line_seen}
use Rattle.protocol.specs.Recalls.{OwnerAnswers}

-- the node is a part that there is, and this part of the state has a case for the message
abbrev pub FindsCase : Config → State → Message → Node → Type 0
FindsCase config a message (Core c) = (c < config.cores) × (core_has_case (a.cores c) message ≡ true)
FindsCase config a message (Bank b) = (b < config.banks) × (bank_has_case (a.banks b) message ≡ true)
FindsCase config a message (Dram b) = (b < config.banks) × (dram_has_case (a.drams b) message ≡ true)

pub record Consistent (config : Config) (opening : FinMap nat_cmp ℕ) (a : State) : Type 0 where
  -- the records are a legal history of the opening memory and what the cores were issued
  pub legal : Legal (flat opening) a.issued a.records
  -- a line has at most one owner
  pub owners : (line : ℕ) → owners config a line ≤ 1
  -- a word's coherent value is the one that the records leave
  pub coherent : (arranged : List Record) → Arrangement a.records arranged → (word : ℕ) →
      coherent config opening a word ≡ replay_end (flat opening) (map (λ r. r.op) arranged) word
  -- the part that a message in flight goes to has a case for it
  pub cases : (message : Message) (rest : List Message) → SameBag a.bag (message ∷ rest) →
      FindsCase config a message message.to
  -- no recall is lost: while a bank's entry is Recalling, its owner's return is on the way, or a recall that finds it
  pub recalls : (line : ℕ) → OwnerAnswers (line_seen config a line) (line_seen config a line).entry

-- a message in flight goes between nodes of its kind, and the part that it goes to is there and has a case for it
pub record FindsPart (config : Config) (a : State) (message : Message) : Type 0 where
  pub endpoints : has_endpoints config.cores config.banks message ≡ true
  pub found : FindsCase config a message message.to

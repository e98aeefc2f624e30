-- The shape that every state keeps: its parts know their numbers and how the machine was set up, banks have only
-- their own lines, and messages go to and from the bank of their line.
use Rattle.std.specs.Prelude.{◌≡◌, ◌≢◌, ℕ, ◌<◌, ◌≤◌, ◌%◌, true, List, [], length, Some, None}
use Rattle.std.specs.List.{AllByRecursion}
use Rattle.std.specs.Ordering.{nat_cmp}
use Rattle.std.specs.FinMap.{FinMap}
use Rattle.physiological_order.specs.declared.operation.Op.{Op}
use Rattle.network.specs.declared.message.Node.{Node}
use Rattle.network.specs.declared.message.Node.TheVariants.{Core, Bank, Dram}
use Rattle.network.specs.declared.message.Message.{Message}
use Rattle.network.specs.Routes.{has_endpoints}
use Rattle.private_cache.specs.CopyTable.{place_for}
use Rattle.core_pts.specs.CoreTable.{CoreState, line_of}
use Rattle.llc_bank.specs.declared.entry.Entry.{Entry}
use Rattle.llc_bank.specs.declared.entry.Entry.TheVariants.{Exclusive, Recalling}
use Rattle.llc_bank.specs.BankTable.{BankState, entry_of}
use Rattle.machine_table.specs.declared.config.Config.{Config}
use Rattle.machine_theorem.specs.States.{State, initial_state}

-- a core of this number that was issued these operations; while a request is out, the copy that it brings has a place
pub record IsCore (config : Config) (number : ℕ) (issued : List Op) (core : CoreState) : Type 0 where
  pub numbered : core.number ≡ number
  pub banks : core.banks ≡ config.banks
  pub line_words : core.line_words ≡ config.line_words
  pub lease : core.lease ≡ config.lease
  pub private_write : core.private_write ≡ config.private_write
  pub sets : 0 < length core.cache.sets
  pub count : core.issued ≡ length issued
  pub room : (op : Op) → core.open_op ≡ Some op → core.is_out ≡ true → place_for core.cache (line_of core op) ≡ true

-- the owner of an entry, if it has one, is a core that there is
abbrev pub IsOwnedBelow : ℕ → Entry → Type 0
IsOwnedBelow cores (Exclusive owner) = owner < cores
IsOwnedBelow cores (Recalling owner) = owner < cores
IsOwnedBelow cores _ = Unit {0}

-- a bank of this number: it has only lines of its own, owned by cores that there are
pub record IsBank (config : Config) (number : ℕ) (bank : BankState) : Type 0 where
  pub numbered : bank.number ≡ number
  pub banks : bank.banks ≡ config.banks
  pub lease : bank.lease ≡ config.lease
  pub sets : 0 < length bank.table.sets
  pub own : (line : ℕ) → line % config.banks ≢ number → entry_of bank line ≡ None
  pub owners : (line : ℕ) (entry : Entry) → entry_of bank line ≡ Some entry → IsOwnedBelow config.cores entry

-- a bank, or the DRAM behind it, that is the one of the line; any core
abbrev pub IsHome : ℕ → Node → Type 0
IsHome home (Core c) = Unit {0}
IsHome home (Bank b) = b ≡ home
IsHome home (Dram b) = b ≡ home

-- a message that goes between nodes of its kind, and these are the homes of its line
abbrev pub GoesHome : Config → Message → Type 0
GoesHome config m = IsHome (m.line % config.banks) m.from × IsHome (m.line % config.banks) m.to ×
    (has_endpoints config.cores config.banks m ≡ true)

pub record HasShape (config : Config) (opening : FinMap nat_cmp ℕ) (a : State) : Type 0 where
  pub some_words : 0 < config.line_words
  pub some_banks : 0 < config.banks
  pub each_core : (c : ℕ) → IsCore config c (a.issued c) (a.cores c)
  pub each_bank : (b : ℕ) → IsBank config b (a.banks b)
  pub each_message : AllByRecursion (GoesHome config) a.bag
  -- the parts beyond those that there are stay as they are initially
  pub cores_beyond : (c : ℕ) → config.cores ≤ c → a.cores c ≡ (initial_state config opening).cores c
  pub banks_beyond : (b : ℕ) → config.banks ≤ b → a.banks b ≡ (initial_state config opening).banks b
  pub drams_beyond : (b : ℕ) → config.banks ≤ b → a.drams b ≡ (initial_state config opening).drams b
  pub lists_beyond : (c : ℕ) → config.cores ≤ c → a.issued c ≡ []

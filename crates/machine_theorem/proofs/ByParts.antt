-- Records of a state and its parts, by their fields in order.
use Rattle.std.proofs.Common.{arith, ◌≡◌, ◌≢◌, ℕ, ◌%◌, ◌<◌, ◌≤◌, true, List, [], length, Some, None, nat_cmp}
use Rattle.std.specs.FinMap.{FinMap}
use Rattle.std.specs.List.{AllByRecursion as Each}
use Rattle.physiological_order.specs.declared.operation.Op.{Op}
use Rattle.private_cache.specs.CopyTable.{place_for}
use Rattle.core_pts.specs.CoreTable.{CoreState, line_of}
use Rattle.llc_bank.specs.declared.entry.Entry.{Entry}
use Rattle.llc_bank.specs.BankTable.{BankState, entry_of}
use Rattle.machine_table.specs.declared.config.Config.{Config}
use Rattle.machine_theorem.specs.Bags.{SameBag}
use Rattle.machine_theorem.specs.States.{State, Same, initial_state}
use Rattle.machine_theorem.specs.Shape.{IsCore, IsBank, IsOwnedBelow, GoesHome, HasShape}

pub same_by : {a b : State} → ((c : ℕ) → a.cores c ≡ b.cores c) → ((j : ℕ) → a.banks j ≡ b.banks j) →
    ((j : ℕ) → a.drams j ≡ b.drams j) → SameBag a.bag b.bag → ((c : ℕ) → a.issued c ≡ b.issued c) →
    a.records ≡ b.records → a.counts ≡ b.counts → Same a b
same_by cores banks drams bag issued records counts = grind arith

module _ {config : Config} where
  pub core_by : {number : ℕ} {issued : List Op} {core : CoreState} → core.number ≡ number →
      core.banks ≡ config.banks → core.line_words ≡ config.line_words → core.lease ≡ config.lease →
      core.private_write ≡ config.private_write → 0 < length core.cache.sets → core.issued ≡ length issued →
      ((op : Op) → core.open_op ≡ Some op → core.is_out ≡ true → place_for core.cache (line_of core op) ≡ true) →
      IsCore config number issued core
  core_by numbered banks line_words lease private_write sets count room = grind arith

  pub bank_by : {number : ℕ} {bank : BankState} → bank.number ≡ number → bank.banks ≡ config.banks →
      bank.lease ≡ config.lease → 0 < length bank.table.sets →
      ((line : ℕ) → line % config.banks ≢ number → entry_of bank line ≡ None) →
      ((line : ℕ) (entry : Entry) → entry_of bank line ≡ Some entry → IsOwnedBelow config.cores entry) →
      IsBank config number bank
  bank_by numbered banks lease sets own owners = grind arith

  pub shape_by : {opening : FinMap nat_cmp ℕ} {a : State} → 0 < config.line_words → 0 < config.banks →
      ((c : ℕ) → IsCore config c (a.issued c) (a.cores c)) → ((b : ℕ) → IsBank config b (a.banks b)) →
      Each (GoesHome config) a.bag →
      ((c : ℕ) → config.cores ≤ c → a.cores c ≡ (initial_state config opening).cores c) →
      ((b : ℕ) → config.banks ≤ b → a.banks b ≡ (initial_state config opening).banks b) →
      ((b : ℕ) → config.banks ≤ b → a.drams b ≡ (initial_state config opening).drams b) →
      ((c : ℕ) → config.cores ≤ c → a.issued c ≡ []) → HasShape config opening a
  shape_by words banks each_core each_bank each_message cores_beyond banks_beyond drams_beyond lists_beyond =
      grind arith

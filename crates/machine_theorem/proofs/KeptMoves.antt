-- Every move keeps the invariant.
use Rattle.std.proofs.Common.{arith, ◌≡◌, ℕ, ◌+◌, ◌%◌, ◌<◌, true, List, ◌∷◌, refl, ap, nat_cmp, rules}
use Rattle.std.specs.FinMap.{FinMap}
use Rattle.network.specs.declared.message.Node.{Node}
use Rattle.network.specs.declared.message.Node.TheVariants as node
use Rattle.network.specs.declared.message.Message.{Message}
use Rattle.timestamp_manager.specs.Lease.{fits}
use Rattle.private_cache.specs.CopyTable.{copy_of}
use Rattle.core_pts.specs.CoreTable.{core_has_case}
use Rattle.llc_bank.specs.BankTable.{core_of, entry_of, bank_has_case}
use Rattle.dram_mts.specs.Table.{dram_has_case}
use Rattle.machine_table.specs.declared.config.Config.{Config}
use Rattle.machine_table.specs.Step as step
use Rattle.machine_table.specs.Step.{Act, message_of, core_step, bank_step, dram_step}
use Rattle.machine_theorem.specs.Bags.{SameBag}
use Rattle.machine_theorem.specs.States.{State}
use Rattle.machine_theorem.specs.Moves.{AreBeside, with_core, with_bank, with_dram, Move, issues, completes, core_steps}
use Rattle.machine_theorem.specs.Moves.{bank_steps, dram_steps}
use Rattle.machine_theorem.specs.Shape.{IsHome}
use Rattle.machine_theorem.specs.Kept.{IsKept}
use Rattle.machine_theorem.proofs.KeptSteps.{kept_reordered, turned_kept, Comes, Goes, Tries, goes_to, goes_kept}
use Rattle.machine_theorem.proofs.KeptSteps.{tries_kept, found_anywhere}
use Rattle.machine_theorem.proofs.Turns.{attempting, advancing, leaving, delivering}
use Rattle.machine_theorem.proofs.CoreMoves.{issue_goes, attempt_goes, eviction_goes, advance_goes}
use Rattle.machine_theorem.proofs.CoreDeliveries.{core_delivery}
use Rattle.machine_theorem.proofs.BankMoves.{entry_goes, bank_delivery, dram_delivery}

module _ (config : Config) (opening : FinMap nat_cmp ℕ) (a : State) (s : IsKept config opening a) where
  abbrev Kept : State → Type 0
  Kept = IsKept config opening

  -- where the delivered message comes first in the bag
  pub came : (message : Message) (rest : List Message) → SameBag a.bag (message ∷ rest) →
      Kept (record a { bag = message ∷ rest })
  came message rest same = kept_reordered config opening a (message ∷ rest) same s

  delivered : {S : Type 0} (put : S → State) (message : Message) (rest : List Message) (done : step.Step S) →
      SameBag a.bag (message ∷ rest) →
      Goes config opening delivering (record a { bag = message ∷ rest }) (λ x. record (put x) { bag = message ∷ rest })
      rest done → Comes config opening Kept a put rest done
  delivered put message rest done same goes = search (rules, found_anywhere, goes_kept, delivering, came)

  core_goes : (c : ℕ) → c < config.cores → (act : Act) (rest : List Message) →
      AreBeside a.bag (node.Core c) (core_has_case (a.cores c)) (message_of act) rest →
      Tries config opening Kept a c rest (core_step (a.cores c) act)
  core_goes c below step.Attempting rest all = rw all (tries_kept config opening (attempting c) a c a.bag _ s
      (attempt_goes config opening a s c below (a.cores c).open_op refl))
  core_goes c below (step.Getting message) rest given = delivered (with_core a c) message rest _ given.0
      (core_delivery config opening a message rest (came message rest given.0) c below given.1 given.2)
  core_goes c below (step.Evicting line) rest all = rw all (goes_kept config opening (leaving c line) a
      (with_core a c) a.bag _ s
      (eviction_goes config opening a s c below line (copy_of (a.cores c).cache line) refl))
  core_goes c below step.Advancing rest all = rw all (goes_kept config opening advancing a (with_core a c) a.bag _ s
      (advance_goes config opening a s c below (fits ((a.cores c).pts + 1))))

  -- a delivered message is one of the home of its line
  pub home : (message : Message) (rest : List Message) → SameBag a.bag (message ∷ rest) → (to : Node) →
      message.to ≡ to → IsHome (message.line % config.banks) to
  home message rest same to is = rw is at ((came message rest same).shape.each_message.0.1)

  pub bank_delivered : (i : ℕ) (message : Message) (rest : List Message) (same : SameBag a.bag (message ∷ rest)) →
      message.to ≡ node.Bank i → bank_has_case (a.banks i) message ≡ true →
      Goes config opening delivering (record a { bag = message ∷ rest })
      (λ x. record (with_bank a i x) { bag = message ∷ rest }) rest (bank_step (a.banks i) (step.Getting message))
  bank_delivered i message rest same to has =
      let here : i ≡ message.line % config.banks = home message rest same (node.Bank i) to in
      rw here (bank_delivery config opening a message rest (came message rest same) (ap core_of to) (rw here at has))

  -- an eviction of any line: a bank has its own alone
  pub line_leaves : (i line : ℕ) →
      Goes config opening delivering a (with_bank a i) a.bag (bank_step (a.banks i) (step.Evicting line))
  line_leaves i line =
      grind (arith, entry_goes config opening a s line (entry_of (a.banks (line % config.banks)) line) refl)

  pub dram_delivered : (i : ℕ) (message : Message) (rest : List Message) (same : SameBag a.bag (message ∷ rest)) →
      message.to ≡ node.Dram i → dram_has_case (a.drams i) message ≡ true →
      Goes config opening delivering (record a { bag = message ∷ rest })
      (λ x. record (with_dram a i x) { bag = message ∷ rest }) rest (dram_step (a.drams i) (step.Getting message))
  dram_delivered i message rest same to has =
      let here : i ≡ message.line % config.banks = home message rest same (node.Dram i) to in
      rw here (dram_delivery config opening a message rest (came message rest same) has)

  bank_goes : (i : ℕ) (act : Act) (rest : List Message) →
      AreBeside a.bag (node.Bank i) (bank_has_case (a.banks i)) (message_of act) rest →
      Comes config opening Kept a (with_bank a i) rest (bank_step (a.banks i) act)
  bank_goes i (step.Getting message) rest given = delivered (with_bank a i) message rest _ given.0
      (bank_delivered i message rest given.0 given.1 given.2)
  bank_goes i (step.Evicting line) rest all = rw all (goes_kept config opening delivering a (with_bank a i) a.bag _ s
      (line_leaves i line))
  bank_goes i _ rest all = tt

  dram_goes : (i : ℕ) (act : Act) (rest : List Message) →
      AreBeside a.bag (node.Dram i) (dram_has_case (a.drams i)) (message_of act) rest →
      Comes config opening Kept a (with_dram a i) rest (dram_step (a.drams i) act)
  dram_goes i (step.Getting message) rest given = delivered (with_dram a i) message rest _ given.0
      (dram_delivered i message rest given.0 given.1 given.2)
  dram_goes i _ rest all = tt

  pub move_kept : (b : State) → Move config a b → Kept b
  move_kept b (issues c op core below is) =
      turned_kept config opening a b s (rw is at (issue_goes config opening a s c below op (a.cores c).open_op refl))
  move_kept b (completes c op received ts core below is) =
      turned_kept config opening a b s (rw is at (attempt_goes config opening a s c below (a.cores c).open_op refl))
  move_kept b (core_steps c act rest done below beside is to) =
      goes_to config opening Kept a b (with_core a c) rest done (rw is at (core_goes c below act rest beside)) to
  move_kept b (bank_steps i act rest done below beside is to) =
      goes_to config opening Kept a b (with_bank a i) rest done (rw is at (bank_goes i act rest beside)) to
  move_kept b (dram_steps i act rest done below beside is to) =
      goes_to config opening Kept a b (with_dram a i) rest done (rw is at (dram_goes i act rest beside)) to

-- What is always true of a machine.
use Rattle.std.specs.Prelude.{◌≡◌, ℕ, ◌≤◌, true, List, [], map, slice_get, slice_index_or}
use Rattle.std.specs.List.{AllByRecursion}
use Rattle.physiological_order.specs.declared.operation.Record.{Record}
use Rattle.physiological_order.specs.Order.{flat, Legal, Arrangement, replay_end, of_core}
use Rattle.protocol.specs.Issued.{IsIssued}
use Rattle.protocol.specs.Recalls.{OwnerAnswers}
use Rattle.machine_table.specs.Machine.{Machine, operation_of}
use Rattle.machine_theorem.specs.Cases.{has_case}
use Rattle.machine_theorem.specs.Coherence.{owners, coherent}
use Rattle.machine_theorem.specs.PastWords.{HasZeros}
use Rattle.machine_theorem.specs.View.{line_in}

pub record IsConsistent (m : Machine) : Type 0 where
  -- its records are a legal history of its opening memory and of what its cores were issued
  pub legal : Legal (flat m.opening) (λ core. slice_index_or m.issued core []) m.records
  -- each core was issued what it completed, in this order, and then its open operation
  pub issued : (core : ℕ) →
      IsIssued (slice_index_or m.issued core []) (of_core core m.records) (operation_of (slice_get m.cores core))
  -- a line has at most one owner, and grants and returns in flight count
  pub one_owner : (line : ℕ) → owners m line ≤ 1
  -- a word's coherent value is the one that the records leave, one after the other in the order of their times, on the
  -- opening memory
  pub coherent : (arranged : List Record) → Arrangement m.records arranged → (word : ℕ) →
      coherent m word ≡ replay_end (flat m.opening) (map (λ r. r.op) arranged) word
  -- the part that a message in flight goes to has a case for it, with a place for the line that it brings
  pub cases : AllByRecursion (λ message. has_case m message.1 ≡ true) m.mail.messages
  -- where lines have one word, the others are 0, in every copy and message, and in the entry and the DRAM of the
  -- line's bank
  pub zeros : (line : ℕ) → HasZeros m.config.line_words (line_in m line)
  -- no recall is lost: while a bank's entry is Recalling, its owner's return is on the way, or a recall that finds it
  pub recalls : (line : ℕ) → OwnerAnswers (line_in m line) (line_in m line).entry

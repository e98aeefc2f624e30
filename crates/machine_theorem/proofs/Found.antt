-- A message in flight is always found by its part.
use Rattle.std.proofs.Common.{◌≡◌, ◌≢◌, ℕ, Bool, true, false, cond, Option, Some, None, sym, subst}
use Rattle.std.specs.List.{slice_get, AllByRecursion as Each}
use Rattle.network.specs.declared.message.Node.{Node}
use Rattle.network.specs.declared.message.Node.TheVariants as node
use Rattle.network.specs.declared.message.Message.{Message}
use Rattle.network.specs.declared.part.Reaction.{Reaction}
use Rattle.network.specs.declared.part.Reaction.TheVariants.{Done, HeldAfter}
use Rattle.network.specs.NumberedMessages.{at_number}
use Rattle.core_pts.specs.CoreTable.{core_table, core_has_case}
use Rattle.llc_bank.specs.BankTable.{bank_table, bank_has_case}
use Rattle.dram_mts.specs.Table.{dram_table, dram_has_case}
use Rattle.machine_table.specs.declared.event.Answer.TheVariants.{Refused}
use Rattle.machine_table.specs.declared.event.Event.TheVariants.{Deliver}
use Rattle.machine_table.specs.declared.event.Refusal.TheVariants.{NoSuch, Stopped}
use Rattle.machine_table.specs.Machine.{Machine, with_core, with_bank, with_dram}
use Rattle.network.specs.Mail.{has_number, has_capacity}
use Rattle.machine_table.specs.Transition.{changed, deliver_to, if_there, gets, on_event, refused, transition}
use Rattle.machine_table.specs.Step as step
use Rattle.machine_table.specs.declared.event.Answer.{Answer}
use Rattle.machine_theorem.specs.Cases.{takes, has_case_at, has_case}
use Rattle.machine_theorem.proofs.Lookups.{each_at_number}

abbrev IsFound : Answer × Machine → Type 0
IsFound outcome = outcome.0 ≢ Refused NoSuch

case_found : (b : Bool) (x y : Answer × Machine) → b ≡ true → IsFound x → IsFound (cond b x y)
case_found true x y is p = p
case_found false x y is p = absurd (let z : false ≡ true = is in cc)

module _ (m : Machine) (n : ℕ) where
  tested_found : (b : Bool) (done other : Answer × Machine) → IsFound done → IsFound other → IsFound (cond b done other)
  tested_found true done other p q = p
  tested_found false done other p q = q

  reacted_found : {S : Type 0} (put : S → Machine) (r : Option (Reaction × S)) →
      IsFound (changed m put (Some n) (step.reacted r))
  reacted_found put (Some (Done (Some answer), part)) = (tested_found (has_number m.mail) _ _ (λ e. cc) (λ e. cc))
  reacted_found put (Some (HeldAfter started, part)) =
      (tested_found (has_capacity m.config.messages m.mail) _ _ (λ e. cc) (λ e. cc))
  reacted_found put _ = λ e. cc

  part_found : {S : Type 0} (put : S → Machine) (o : Option S) (has_case : S → Message → Bool)
      (reacts : S → Message → Option (Reaction × S)) (message : Message) → takes has_case o message ≡ true →
      IsFound (if_there m o (λ x. gets m put n (has_case x message) (reacts x message)))
  part_found put None has_case reacts message has = absurd (let z : false ≡ true = has in cc)
  part_found put (Some part) has_case reacts message has =
      case_found (has_case part message) _ _ has (reacted_found put (reacts part message))

  to_found : (message : Message) (to : Node) → has_case_at m message to ≡ true → IsFound (deliver_to m n message to)
  to_found message (node.Core c) = part_found (with_core m c) (slice_get m.cores c) core_has_case core_table message
  to_found message (node.Bank b) = part_found (with_bank m b) (slice_get m.banks b) bank_has_case bank_table message
  to_found message (node.Dram b) = part_found (with_dram m b) (slice_get m.drams b) dram_has_case dram_table message

  -- where every message in flight has its case
  pub delivery_found : Each (λ x. has_case m x.1 ≡ true) m.mail.messages → (message : Message) →
      at_number n m.mail.messages ≡ Some message → (transition m (Deliver n)).0 ≢ Refused NoSuch
  delivery_found cases message number = go m.is_stopped
    where
      go : (b : Bool) → IsFound (cond b (refused m Stopped) (on_event m (Deliver n)))
      go true = λ e. cc
      go false = subst (λ (o : Option Message). IsFound (if_there m o (λ x. deliver_to m n x x.to))) (sym number)
          (to_found message message.to (each_at_number (λ x. has_case m x.1 ≡ true) n m.mail.messages message
          number cases (λ k p. p)))

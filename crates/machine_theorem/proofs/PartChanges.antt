-- A machine and its state: one part put into both, and the messages in flight afterwards.
use Rattle.std.proofs.Common.{◌≡◌, ℕ, ◌<◌, Bool, true, false, cond, List, [], ◌∷◌, ◌++◌, length, set, get_or, Option}
use Rattle.std.proofs.Common.{Some, None, refl, arith, nat_cmp, rules}
use Rattle.std.specs.FinMap.{FinMap}
use Rattle.physiological_order.specs.declared.operation.Op.{Op}
use Rattle.network.specs.declared.message.Message.{Message}
use Rattle.network.specs.Mail.{Mail, sent}
use Rattle.core_pts.specs.CoreTable.{CoreState}
use Rattle.llc_bank.specs.BankTable.{BankState}
use Rattle.machine_table.specs.Machine as table
use Rattle.machine_table.specs.Machine.{Machine}
use Rattle.machine_table.specs.Step.{record_of}
use Rattle.machine_table.specs.Posted.{left, posted}
use Rattle.machine_theorem.specs.Bags.{SameBag, bag_of}
use Rattle.protocol.specs.Machine.{with_at}
use Rattle.machine_theorem.specs.States.{State, Same, seen}
use Rattle.machine_theorem.specs.Moves.{with_core, with_bank, with_dram, with_answer}
use Rattle.machine_theorem.proofs.Bags.{bag-sent}
use Rattle.machine_theorem.proofs.Lists.{part_put}
use Rattle.machine_theorem.proofs.ByParts.{same_by}

pub itself : (a : State) → Same a a
itself a = same_by (λ c. refl) (λ b. refl) (λ b. refl) (λ h. refl) (λ c. refl) refl refl

-- one part, an operation issued, or one completed
module _ (a : State) (m : Machine) (k : Same a (seen m)) where
  pub core_put : (c : ℕ) (core : CoreState) → c < length m.cores →
      Same (with_core a c core) (seen (table.with_core m c core))
  core_put c core lt = search (rules, same_by, part_put)

  pub bank_put : (b : ℕ) (bank : BankState) → b < length m.banks →
      Same (with_bank a b bank) (seen (table.with_bank m b bank))
  bank_put b bank lt = search (rules, same_by, part_put)

  pub dram_put : (b : ℕ) (lines : FinMap nat_cmp (List ℕ)) → b < length m.drams →
      Same (with_dram a b lines) (seen (table.with_dram m b lines))
  dram_put b lines lt = search (rules, same_by, part_put)

  pub issue_put : (c : ℕ) (op : Op) (core : CoreState) → c < length m.cores → c < length m.issued →
      Same (record (with_core a c core) { issued = with_at a.issued c (a.issued c ++ op ∷ []) })
      (seen (record (table.with_core m c core) { issued = set m.issued c (get_or m.issued c [] ++ op ∷ []) }))
  issue_put c op core lt there = search (rules, core_put, same_by, part_put)

  pub completion_put : (c : ℕ) (op : Op) (received : Option ℕ) (ts : ℕ) (old core : CoreState) → c < length m.cores →
      Same (record (with_core a c core) {
        records = a.records ++ record_of c (length a.records) old op received ts ∷ [];
      })
      (seen (record (table.with_core m c core) {
        records = m.records ++ record_of c (length m.records) old op received ts ∷ [];
      }))
  completion_put c op received ts old core lt = grind (arith, core_put c core lt)

-- the messages in flight
abbrev replied : Mail → Option Message → Mail
replied mail None = mail
replied mail (Some answer) = sent mail answer

module _ (b : State) (m : Machine) (k : Same b (seen m)) (bag : List Message) (mail : Mail)
    (same : SameBag bag (bag_of mail.messages)) (counts : b.counts ≡ mail.counts) where
  pub bag_put : Same (record b { bag = bag }) (seen (record m { mail = mail }))
  bag_put = same_by k.cores k.banks k.drams same k.issued k.records counts

  answer_put : (answer : Option Message) →
      Same (with_answer b bag answer) (seen (record m { mail = replied mail answer }))
  answer_put None = bag_put
  answer_put (Some message) = search (rules, same_by, bag-sent)

-- so after a step that consumes a message, beside which are the rest, or not, and sends this, if anything
pub posted_put : (b : State) (m : Machine) → Same b (seen m) → (all rest : List Message) (mail : Mail)
    (n : Option ℕ) → SameBag all (bag_of mail.messages) → SameBag rest (bag_of (left mail n).messages) →
    b.counts ≡ mail.counts → (consumes : Bool) (sends : Option Message) →
    Same (with_answer b (cond consumes rest all) sends) (seen (record m { mail = posted mail n consumes sends }))
posted_put b m k all rest mail n same same_rest counts true None =
    answer_put b m k rest (left mail n) same_rest counts None
posted_put b m k all rest mail n same same_rest counts false None = answer_put b m k all mail same counts None
posted_put b m k all rest mail n same same_rest counts true (Some q) =
    answer_put b m k rest (left mail n) same_rest counts (Some q)
posted_put b m k all rest mail n same same_rest counts false (Some q) = answer_put b m k all mail same counts (Some q)

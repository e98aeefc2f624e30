-- A machine keeps its invariant with its messages in another order and with other numbers, with another capacity, other
-- counts, and stopped or not.
use Rattle.std.proofs.Common.{arith, ℕ, Bool, nat_cmp}
use Rattle.std.specs.FinMap.{FinMap}
use Rattle.network.specs.declared.counts.Counts.{Counts}
use Rattle.network.specs.Mail.{Mail}
use Rattle.machine_table.specs.declared.config.Config.{Config}
use Rattle.machine_table.specs.Machine.{Machine}
use Rattle.machine_theorem.specs.Bags.{SameBag, bag_of}
use Rattle.machine_theorem.specs.States.{State, seen}
use Rattle.machine_theorem.specs.Kept.{IsKept, Invariant}
use Rattle.machine_theorem.proofs.KeptSteps.{kept_reordered}

-- nothing looks at the capacity and the counts
kept_with : (config : Config) (opening : FinMap nat_cmp ℕ) (a : State) (capacity : ℕ) (counts : Counts) →
    IsKept config opening a → IsKept (record config { messages = capacity }) opening (record a { counts = counts })
kept_with config opening a capacity counts s = grind arith

pub renumbered : (m : Machine) → Invariant m → (capacity : ℕ) (mail : Mail) (is_stopped : Bool) →
    SameBag (bag_of m.mail.messages) (bag_of mail.messages) → Invariant (record m {
      config = record (m.config) { messages = capacity };
      mail = mail;
      is_stopped = is_stopped;
    })
renumbered m s capacity mail is_stopped same =
    grind (
      arith,
      kept_with m.config m.opening (record (seen m) { bag = bag_of mail.messages }) capacity mail.counts
          (kept_reordered m.config m.opening (seen m) (bag_of mail.messages) same s.kept),
    )

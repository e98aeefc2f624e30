-- The seats of a machine that has just opened.
use Rattle.std.proofs.Common.{◌≡◌, ℕ, ◌+◌, List, length, None, sym, ap, ◌∙◌, arith}
use Rattle.core_pts.specs.CoreTable.{CoreState}
use Rattle.seat_rule.specs.declared.views.Hold.{Hold}
use Rattle.mailboxes.specs.declared.machine.Machine.{Machine}
use Rattle.mailboxes.specs.declared.core_seat.CoreSeat.{CoreSeat}
use Rattle.mailboxes.specs.declared.bank_seat.BankSeat.{BankSeat}
use Rattle.mailboxes.specs.Seats.{AllNewBanks, AllNewCores, IsNewCore}
use Rattle.thread_driver.specs.Shifts.{AreBanksInOrder, AreCoresInOrder, NoneOpen}

none_open : (m : Machine) (j : ℕ) (p : CoreSeat) → IsNewCore m j p → p.part.core.open_op ≡ None
none_open m j p is =
    ap (λ (c : CoreState). c.open_op) (sym p.tied.core) ∙ ap (λ (a : Hold). a.core.open_op) is.2

pub new_cores : (m : Machine) (ps : List CoreSeat) → length ps ≡ m.set_up.config.cores → AllNewCores m 0 ps →
    AreCoresInOrder m ps × NoneOpen ps
new_cores m ps long all = (
  record {
    long = long;
    each = λ i p e. (
      (all i p e).0,
      let first : 0 + i ≡ i = omega arith in
          (all i p e).1 ∙ first,
    );
  },
  λ i p e. none_open m (0 + i) p (all i p e),
)

pub new_banks : (m : Machine) (ps : List BankSeat) → length ps ≡ m.set_up.config.banks →
    AllNewBanks m m.set_up.config.cores ps → AreBanksInOrder m ps
new_banks m ps long all =
    record {
      long = long;
      each = λ i p e. ((all i p e).0, (all i p e).1);
    }

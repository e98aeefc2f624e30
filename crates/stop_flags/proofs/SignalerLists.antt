-- What a signaler is once it is made.
use Rattle.std.proofs.Common.{rules}
use Rattle.std.proofs.Common.{◌≡◌, ℕ}
use Rattle.stop_flags.specs.declared.signals.Signals.{Signals}
use Rattle.stop_flags.specs.declared.signaler.Signaler.{Signaler}
use Rattle.stop_flags.specs.Ties.{FlagSeat}
use Rattle.stop_flags.specs.Told.{nothing}
use Rattle.stop_flags.specs.Signalers.{IsNewSignaler}

-- what a signaler is once it is made of a flag_seat of this number
pub new_signaler : (m : Signals) (n : ℕ) (s : Signaler) (flag_seat : FlagSeat) →
    flag_seat.table_id ≡ m.table.shared.table_id → flag_seat.me.0.mine.workers ≡ m.workers →
    flag_seat.me.0.number ≡ n → s.seat ≡ flag_seat → s.said ≡ nothing → IsNewSignaler m n s
new_signaler m n s flag_seat table workers number seat said = search rules

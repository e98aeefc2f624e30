-- A turn of a bank's seat, fair or not, from the calls that it makes.
use Rattle.std.proofs.Common.{◌≡◌, Bool, true, false, Result, sym, subst}
use Rattle.std.specs.Prelude.{◌&&◌, not}
use Rattle.machine_table.specs.declared.event.Refusal.{Refusal}
use Rattle.mailboxes.specs.declared.machine.Machine.{Machine}
use Rattle.mailboxes.specs.declared.bank_seat.BankSeat.{BankSeat}
use Rattle.mailboxes.specs.declared.turning.Turn.{Turn}
use Rattle.mailboxes.specs.BankTurns.{BankTurns}
use Rattle.thread_driver.specs.declared.told.Told.{Told}
use Rattle.thread_driver.specs.Turns.{BankHad, RoomMadeIf, has_moved, told_of_turn}

pub had : (fair : Bool) (m : Machine) (p r s q : BankSeat) (moved : Result Turn Refusal) (told : Told) →
    RoomMadeIf (not fair) p r → BankTurns m r moved s → RoomMadeIf (fair && not (has_moved moved)) s q →
    told ≡ told_of_turn p.is_stopped q.is_stopped moved → BankHad fair m p told q
had false m p r s q moved told made turned same is =
    record {
      between = r;
      moved = moved;
      room_made = made;
      turned = subst (λ x. BankTurns m r moved x) (sym same) turned;
      told_is = is;
    }
had true m p r s q moved told same turned made is =
    record {
      between = s;
      moved = moved;
      turned = subst (λ x. BankTurns m x moved s) same turned;
      room_made = made;
      told_is = is;
    }

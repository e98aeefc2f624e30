-- What a drawer stores, and what its view has.
use Rattle.std.specs.Prelude.{◌≡◌, ℕ, ◌≤◌, false, List, [], length}
use Rattle.atomic_table.specs.declared.shared.Seat.{Seat}
use Rattle.seat_views.specs.declared.views.View.{View}

abbrev pub CounterSeat : Type 0
CounterSeat = Seat (Unit {0}) (View (List ℕ))

-- the number and the list that are stored are what the view has, and no slot is out with the seat
pub record DrawerTied (counter_seat : CounterSeat) (n : ℕ) (xs : List ℕ) : Type 0 where
  pub number : counter_seat.me.0.number ≡ n
  pub live : counter_seat.me.0.spent ≡ false
  pub none_out : counter_seat.me.1 ≡ []
  pub drawn : counter_seat.me.0.mine ≡ xs
  pub few : length xs ≤ 4294967296

-- What a signaler stores, and what its view has.
use Rattle.std.specs.Prelude.{◌≡◌, ◌≤◌, false, []}
use Rattle.atomic_table.specs.declared.shared.Seat.{Seat}
use Rattle.seat_views.specs.declared.views.View.{View}
use Rattle.stop_flags.specs.declared.words.Said.{Said}
use Rattle.stop_flags.specs.declared.words.Voice.{Voice}

abbrev pub FlagSeat : Type 0
FlagSeat = Seat (Unit {0}) (View Voice)

-- what is stored is what the view has, and no slot is out with the seat
pub record SignalerTied (flag_seat : FlagSeat) (said : Said) : Type 0 where
  pub live : flag_seat.me.0.spent ≡ false
  pub none_out : flag_seat.me.1 ≡ []
  pub mine : flag_seat.me.0.mine.said ≡ said
  pub few : said.finished ≤ 4294967296

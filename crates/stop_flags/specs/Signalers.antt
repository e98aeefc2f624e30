-- Signalers of the same signals.
use Rattle.std.specs.Prelude.{◌≡◌, ℕ, ◌+◌, ◌<◌, List, [], length, Some, slice_get, slice_index_or}
use Rattle.seat_views.specs.Seated.{first_view}
use Rattle.stop_flags.specs.declared.signals.Signals.{Signals}
use Rattle.stop_flags.specs.declared.signaler.Signaler.{Signaler}
use Rattle.stop_flags.specs.declared.words.Look.{Look}
use Rattle.stop_flags.specs.Ties.{FlagSeat}
use Rattle.stop_flags.specs.Told.{nothing, voice}

-- a signaler's number, and what its last look found
abbrev pub number_of : Signaler → ℕ
number_of s = s.seat.me.0.number

abbrev pub last_look : Signaler → Look
last_look s = s.seat.me.0.mine.heard

-- the signaler is one of these signals
abbrev pub IsSignalerOf : Signals → Signaler → Type 0
IsSignalerOf signals s =
    (s.seat.table_id ≡ signals.table.shared.table_id) × (s.seat.me.0.mine.workers ≡ signals.workers)

-- the signaler of this number as it opens: it has said nothing
abbrev pub IsNewSignaler : Signals → ℕ → Signaler → Type 0
IsNewSignaler signals j s = IsSignalerOf signals s × (number_of s ≡ j) × (s.said ≡ nothing)

-- all signalers of a list are so, by number
abbrev pub AreNewSignalers : Signals → List Signaler → Type 0
AreNewSignalers signals ss =
    (i : ℕ) (s : Signaler) → i < length ss → IsNewSignaler signals i (slice_index_or ss i s)

-- the same, by number from this one on, for each that a look-up finds
abbrev pub AllNewSignalers : Signals → ℕ → List Signaler → Type 0
AllNewSignalers signals from ss =
    (i : ℕ) (s : Signaler) → slice_get ss i ≡ Some s → IsNewSignaler signals (from + i) s

-- the first seat, which has made all seats below this number
abbrev pub HasMade : Signals → ℕ → FlagSeat → Type 0
HasMade signals n flag_seat =
    (flag_seat.table_id ≡ signals.table.shared.table_id)
    × (flag_seat.me ≡ (record (first_view (voice signals.workers nothing)) { made = n }, []))

-- these are all signalers of the signals, by number
pub record AreAllSignalers (signals : Signals) (ss : List Signaler) : Type 0 where
  pub long : length ss ≡ signals.workers
  pub each : (i : ℕ) (s : Signaler) → slice_get ss i ≡ Some s → IsSignalerOf signals s × (number_of s ≡ i)

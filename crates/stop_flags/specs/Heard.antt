-- What signalers have said and found once all of them are given up.
use Rattle.std.specs.Prelude.{◌≡◌, ℕ, ◌+◌, ◌≤◌, true, List, [], ◌∷◌, ◌++◌, Some, slice_get}
use Rattle.std.specs.List.{list_any}
use Rattle.atomic_table.specs.Seated.{TableId}
use Rattle.seat_views.specs.declared.views.View.{View}
use Rattle.stop_flags.specs.declared.signaler.Signaler.{Signaler}
use Rattle.stop_flags.specs.declared.words.Voice.{Voice}
use Rattle.stop_flags.specs.Signalers.{last_look}

-- how many programs signalers have finished together
abbrev pub finished_by : List Signaler → ℕ
finished_by [] = 0
finished_by (s ∷ ss) = s.said.finished + finished_by ss

-- What the last look of a signaler found is no more than what all of them have said: no more finished programs than
-- they have finished together, and a stop only if one of them has signaled it.
pub record AllHeard (ss : List Signaler) : Type 0 where
  pub finished : (i : ℕ) (s : Signaler) → slice_get ss i ≡ Some s → (last_look s).finished ≤ finished_by ss
  pub stopped : (i : ℕ) (s : Signaler) → slice_get ss i ≡ Some s → (last_look s).is_stopped ≡ true →
      list_any (λ x. x.said.stops) ss ≡ true

-- what is learned from a signaler that is joined: its number and what it holds
abbrev pub entry_of : Signaler → ℕ × Voice
entry_of s = (s.seat.me.0.number, s.seat.me.0.mine)

-- the same of a list of signalers, from the last to the first
abbrev pub entries_of : List Signaler → List (ℕ × Voice)
entries_of [] = []
entries_of (s ∷ ss) = entries_of ss ++ entry_of s ∷ []

-- a view that knows these signalers too
abbrev pub knows_all : View Voice → List Signaler → View Voice
knows_all v ss = record v { known = v.known ++ entries_of ss }

-- all signalers of a list are at the table
abbrev pub AllAt : TableId → List Signaler → Type 0
AllAt table ss = (i : ℕ) (s : Signaler) → slice_get ss i ≡ Some s → s.seat.table_id ≡ table

-- The rule that all signalers keep, and what each step answers.
use Rattle.std.specs.Prelude.{◌≡◌, ℕ, ◌+◌, ◌<◌, ◌≤◌, eqb, true, false, ◌⊎◌, length, slice_index_or}
use Rattle.atomic_table.specs.Table.{State, Me}
use Rattle.atomic_table.specs.Seated.{TableId}
use Rattle.seat_views.specs.declared.views.View.{View}
use Rattle.seat_views.specs.Seated.{over, Shown, with_hold}
use Rattle.stop_flags.specs.declared.words.Look.{Look}
use Rattle.stop_flags.specs.declared.words.Said.{Said}
use Rattle.stop_flags.specs.declared.words.Voice.{Voice}

-- what a signaler has said as it opens
abbrev pub nothing : Said
nothing = record { finished = 0; stops = false }

-- the same with one more program finished
abbrev pub one_finished : Said → Said
one_finished h = record { finished = h.finished + 1; stops = h.stops }

-- the same with a stop
abbrev pub has_stopped : Said → Said
has_stopped h = record { finished = h.finished; stops = true }

-- what a seat holds that has said this and has not looked
abbrev pub voice : ℕ → Said → Voice
voice count h = record { said = h; heard = record { finished = 0; is_stopped = false }; workers = count }

-- the programs that the first n signalers have finished together
abbrev pub in_all : ℕ → (ℕ → Said) → ℕ
in_all count said = over count (λ j. (said j).finished)

-- What each of `count` signalers has said when a word is read: the signaler's own is one of them, and together they
-- have finished as many programs as the word says.
pub record FinishedInAll (count : ℕ) (own : Said) (word : ℕ) : Type 0 where
  pub said : ℕ → Said
  pub seat : ℕ
  pub among : seat < count
  pub mine : said seat ≡ own
  pub total : in_all count said ≡ word

-- the same of a stop: one of them has signaled it
pub record SomeStopped (count : ℕ) (own : Said) : Type 0 where
  pub said : ℕ → Said
  pub seat : ℕ
  pub among : seat < count
  pub mine : said seat ≡ own
  pub by : ℕ
  pub one_of_them : by < count
  pub stopped : (said by).stops ≡ true

-- There are at most `count` signalers, and each knows so. What they have finished is together the first word, and each
-- of them at most 2 ^ 32. The second word is 0 or 1, and it is 1 if and only if one of them has signaled a stop. No
-- word falls: what a look found, the words still say.
pub record FlagsHold (count : ℕ) (s : State (Unit {0}) (View Voice)) : Type 0 where
  pub voices : ℕ → Voice
  pub shown : Shown (λ _. voice count nothing) count s.views voices
  pub two_words : length s.words ≡ 2
  pub few : count ≤ 16
  pub counted : (j : ℕ) → (voices j).workers ≡ count
  pub total : in_all count (λ j. (voices j).said) ≡ slice_index_or s.words 0 0
  pub bounded : (j : ℕ) → (voices j).said.finished ≤ 4294967296
  pub one_bit : (slice_index_or s.words 1 0 ≡ 0) ⊎ (slice_index_or s.words 1 0 ≡ 1)
  pub rung : (j : ℕ) → (voices j).said.stops ≡ true → slice_index_or s.words 1 0 ≡ 1
  pub by_some : slice_index_or s.words 1 0 ≡ 1 → (j : ℕ) × (j < count) × ((voices j).said.stops ≡ true)
  pub heard_finished : (j : ℕ) → (voices j).heard.finished ≤ slice_index_or s.words 0 0
  pub heard_stopped : (j : ℕ) → (voices j).heard.is_stopped ≡ true → slice_index_or s.words 1 0 ≡ 1

-- a signaler that now has said this
abbrev pub now_said : Me (Unit {0}) (View Voice) → Said → Me (Unit {0}) (View Voice) → Type 0
now_said before h after = (after.0 ≡ with_hold before.0 (record before.0.mine { said = h })) × (after.1 ≡ before.1)

-- a signaler whose last look found this
abbrev pub now_heard : Me (Unit {0}) (View Voice) → Look → Me (Unit {0}) (View Voice) → Type 0
now_heard before l after = (after.0 ≡ with_hold before.0 (record before.0.mine { heard = l })) × (after.1 ≡ before.1)

-- the contracts of the four steps: two of them write a word, and two read one
abbrev pub told_finished : Me (Unit {0}) (View Voice) → Me (Unit {0}) (View Voice) → Type 0
told_finished before after = now_said before (one_finished before.0.mine.said) after

abbrev pub told_stopped : Me (Unit {0}) (View Voice) → Me (Unit {0}) (View Voice) → Type 0
told_stopped before after = now_said before (has_stopped before.0.mine.said) after

abbrev pub heard_finished : Me (Unit {0}) (View Voice) → ℕ → Me (Unit {0}) (View Voice) → Type 0
heard_finished before word after =
    now_heard before (record before.0.mine.heard { finished = word }) after × (before.0.mine.said.finished ≤ word)
    × FinishedInAll before.0.mine.workers before.0.mine.said word

abbrev pub heard_stopped : Me (Unit {0}) (View Voice) → ℕ → Me (Unit {0}) (View Voice) → Type 0
heard_stopped before word after =
    now_heard before (record before.0.mine.heard { is_stopped = eqb word 1 }) after
    × (before.0.mine.said.stops ≡ true → word ≡ 1)
    × (word ≡ 1 → SomeStopped before.0.mine.workers before.0.mine.said)

-- the seat is of the table, which has two words and no slot
abbrev pub Belongs : TableId → TableId → ℕ → Type 0
Belongs seat table count = (seat ≡ table) × (table.words ≡ 2) × (table.slots ≡ 0) × (count ≤ 16)

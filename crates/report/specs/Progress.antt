-- What is told of a run while it goes on: a line where so many million more operations are completed.
use Rattle.std.specs.Prelude.{◌≡◌, ◌<◌, ◌*◌, ◌/◌, ℕ, Bool, List, [], ◌∷◌, ◌++◌, length, Option, Some, None, codes}
use Rattle.std.specs.Prelude.{decimal}
use Rattle.machine_table.specs.Machine.{Machine}
use Rattle.physiological_order.specs.declared.operation.Record.{Record}
use Rattle.physiological_order.specs.StaleHits.{stale_count}
use Rattle.run_options.specs.declared.options.StreamOptions.{StreamOptions}
use Rattle.report.specs.Answers.{TextGoesOut}
use Rattle.report.specs.Streams.{IsRunSoFar, IsStreamReport}

-- a number, and what it is of
abbrev pub amount : ℕ → List ℕ → List ℕ
amount n of_what = decimal n ++ of_what

-- how many operations completed, how many of the counted messages were sent, and how many stale hits there are
abbrev pub progress_line : (completed stale : ℕ) → Machine → List ℕ
progress_line completed stale m = codes "tardis: " ++ amount completed (codes " operations, ")
    ++ amount m.mail.counts.renewals (codes " renewals, ") ++ amount m.mail.counts.upgrades (codes " upgrades, ")
    ++ amount m.mail.counts.flushes (codes " flushes, ")
    ++ amount m.mail.counts.write_backs (codes " write-backs, ") ++ amount stale (codes " stale hits\n")

-- how often so many million operations are completed; lines that nobody asks for are never due
abbrev pub times_passed : Option ℕ → (completed : ℕ) → ℕ
times_passed None completed = 0
times_passed (Some millions) completed = completed / (millions * 1000000)

-- Of the machines in this list, the latest first, each has a line. The text has these lines, the latest last.
abbrev pub lines_told : List Machine → List ℕ
lines_told [] = []
lines_told (m ∷ earlier) = lines_told earlier ++ progress_line (length m.records) (stale_count m.records) m

-- how often it was by the last of these lines
abbrev pub times_told : Option ℕ → List Machine → ℕ
times_told every [] = 0
times_told every (m ∷ earlier) = times_passed every (length m.records)

-- A run of the first steps that the source had leads to each, and its records are the first ones of these. By then so
-- many million operations were completed once more than by the line before, at least.
abbrev pub AreTold : StreamOptions → Option (List ℕ) → List Record → List Machine → Type 0
AreTold options known records [] = Unit {0}
AreTold options known records (m ∷ earlier) =
    IsRunSoFar options known m × ((later : List Record) × (records ≡ m.records ++ later))
    × (times_told options.progress earlier < times_passed options.progress (length m.records))
    × AreTold options known m.records earlier

-- Such lines went out, as far as no write failed. By the last of them it was as often as by all of these records.
abbrev pub IsProgress : StreamOptions → Option (List ℕ) → List Record → (old new : Option (List ℕ)) →
    (before after : ℕ) → Type 0
IsProgress options known records old new before after = (told : List Machine) × AreTold options known records told
    × (times_told options.progress told ≡ times_passed options.progress (length records))
    × TextGoesOut old new before after (lines_told told)

-- the text reports a run of all the steps that the source had, and the lines are of its first records
abbrev pub IsToldReport : StreamOptions → Option (List ℕ) → Bool → (old new : Option (List ℕ)) → (before after : ℕ) →
    List ℕ → Type 0
IsToldReport options known all_done old new before after text = (report : IsStreamReport options known all_done text)
    × IsProgress options known report.2.machine.records old new before after

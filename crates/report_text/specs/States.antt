-- The end states of the runs that are all done, each once with how often it occurred, in the order in which they first
-- occurred.
use Rattle.std.specs.Prelude.{ℕ, ◌+◌, Bool, not, if◌then◌else◌, List, [], ◌∷◌, map, filter}
use Rattle.std.specs.Borrow.{Bor}
use Rattle.std.specs.List.{filter_map}
use Rattle.std.specs.Str.{bytes_eq}
use Rattle.report_text.specs.declared.run_end.RunEnd.{RunEnd}
use Rattle.report_text.specs.Ends.{done_state}

-- the values of the condition's names, in their order
abbrev pub NamedValues : Type 0
NamedValues = List ℕ

abbrev pub same_state : NamedValues → NamedValues → Bool
same_state = bytes_eq

-- the end states of those runs that are all done
abbrev pub done_states : List RunEnd → List NamedValues
done_states runs = filter_map (λ run. done_state run.end run.state) runs

-- how often a state occurs
abbrev pub times_met : NamedValues → List NamedValues → ℕ
times_met state [] = 0
times_met state (other ∷ states) = (if same_state state other then 1 else 0) + times_met state states

abbrev pub without_state : NamedValues → List (ℕ × NamedValues) → List (ℕ × NamedValues)
without_state state entries = filter (λ entry. not (same_state state entry.1)) entries

-- each state once, with how often it occurs: the first one, and then those of the rest that differ from it
abbrev pub tallied : List NamedValues → List (ℕ × NamedValues)
tallied [] = []
tallied (state ∷ states) = (1 + times_met state states, state) ∷ without_state state (tallied states)

-- the same list after one more state: its count is one greater, or it is new at the end
abbrev pub one_more : NamedValues → List (ℕ × NamedValues) → List (ℕ × NamedValues)
one_more state [] = (1, state) ∷ []
one_more state (entry ∷ entries) =
    if same_state state entry.1 then (entry.0 + 1, entry.1) ∷ entries else entry ∷ one_more state entries

-- the count that a list has of a state
abbrev pub count_of_state : NamedValues → List (ℕ × NamedValues) → ℕ
count_of_state state [] = 0
count_of_state state (entry ∷ entries) = if same_state state entry.1 then entry.0 else count_of_state state entries

-- the entries of a map from states to counts
abbrev pub state_entries : List (Bor NamedValues × ℕ) → List (ℕ × NamedValues)
state_entries entries = map (λ entry. (entry.1, (entry.0).now)) entries

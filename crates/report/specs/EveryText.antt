-- The text that lists every end of a litmus test.
use Rattle.std.specs.Prelude.{ℕ, ◌+◌, ◌-◌, ◌==◌, nat_lt, Bool, true, false, cond, if◌then◌else◌, List, [], ◌∷◌, ◌++◌}
use Rattle.std.specs.Prelude.{length, codes, decimal}
use Rattle.litmus_reader.specs.Litmus.{Litmus}
use Rattle.litmus_reader.specs.Truth.{holds, value_of}
use Rattle.report_lines.specs.declared.layout.Layout.{Layout}
use Rattle.report_lines.specs.declared.layout.Layout.TheVariants.{Lines, Json}
use Rattle.report_lines.specs.Layouts.{closing, either, list_closing, list_opening, opening, parted, parting}
use Rattle.report_lines.specs.Lines.{field, word_field}
use Rattle.report_lines.specs.Members.{newline}
use Rattle.report_text.specs.Lines.{named_values, quantifier_text}
use Rattle.sequential_ends.specs.Every.{Every, values_in}

-- the condition's expression holds in an end
abbrev pub is_held : Litmus → List ℕ → Bool
is_held test values = holds (value_of test.seen values) test.tree

-- in how many of the ends it holds
abbrev pub held_of : Litmus → List (List ℕ) → ℕ
held_of test [] = 0
held_of test (values ∷ ends) = cond (is_held test values) 1 0 + held_of test ends

-- the test, how many states were met, and how many ends there are
abbrev pub head_text : Layout → Litmus → Every → List ℕ
head_text layout test every = word_field layout (codes "test") test.name
    ++ field layout (codes "threads") test.threads
    ++ field layout (codes "states") every.states
    ++ list_opening layout (codes "ends") (length every.ends)

-- how often a list has a number
abbrev pub times : ℕ → List ℕ → ℕ
times t [] = 0
times t (u ∷ us) = cond (t == u) 1 0 + times t us

-- before the values of an end: a star if the expression holds, else a space
unfoldable pub mark : Layout → Bool → List ℕ
mark Lines true = codes "*"
mark Lines false = codes " "
mark Json true = codes "{\"holds\":true,\"values\":{"
mark Json false = codes "{\"holds\":false,\"values\":{"

-- a turn: the thread, and which of its turns this is
unfoldable pub turn_text : Layout → ℕ → ℕ → List ℕ
turn_text layout t n = either layout (codes " P") (codes "\"P") ++ decimal t ++ (58 ∷ decimal n)
    ++ either layout [] (codes "\"")

-- the turns that are left of an order, behind those done
abbrev pub turns_text : Layout → (first : Bool) → List ℕ → List ℕ → List ℕ
turns_text layout first done [] = []
turns_text layout first done (t ∷ left) = parting layout first ++ turn_text layout t (times t done + 1)
    ++ turns_text layout false (done ++ t ∷ []) left

-- an order
abbrev pub order_text : Layout → List ℕ → List ℕ
order_text layout order = either layout (codes "  ") (codes ",\"order\":[")
    ++ turns_text layout true [] order ++ list_closing layout

-- a line has an order if there are turns; an object does if orders were asked for
abbrev pub has_order : Layout → Bool → List ℕ → Bool
has_order Lines orders order = nat_lt 0 (length order)
has_order Json orders order = orders

-- an order behind an end
unfoldable pub order_behind : Layout → Bool → List ℕ → List ℕ
order_behind layout orders order = if has_order layout orders order then order_text layout order else []

-- an end: the names with their values, and an order that leads there
unfoldable pub end_text : Layout → Bool → Litmus → List ℕ × List ℕ → List ℕ
end_text layout orders test end = mark layout (is_held test end.0) ++ named_values layout test end.0
    ++ either layout [] (codes "}") ++ order_behind layout orders end.1 ++ either layout newline (codes "}")

abbrev pub ends_text : Layout → Bool → Litmus → List (List ℕ × List ℕ) → List ℕ
ends_text layout orders test ends = parted layout (λ at. end_text layout orders test) 0 ends

-- how often the expression holds
abbrev pub often : ℕ → ℕ → List ℕ
often held ends =
    if held == 0 then codes "Never" else if held == ends then codes "Always" else codes "Sometimes"

abbrev pub often_in : Litmus → Every → List ℕ
often_in test every = often (held_of test (values_in every)) (length every.ends)

-- the condition, and in how many ends its expression holds
abbrev pub condition_text : Layout → Litmus → ℕ → List ℕ
condition_text layout test held =
    word_field layout (codes "condition") (quantifier_text test.quantifier) ++ field layout (codes "held") held

-- the test's name, how often the expression holds, and in how many ends it does and doesn't
abbrev pub observation_line : Litmus → ℕ → ℕ → List ℕ
observation_line test held ends = codes "observation" ++ (32 ∷ test.name) ++ (32 ∷ often held ends)
    ++ (32 ∷ decimal held)
    ++ field Lines [] (ends - held)

-- in an object, how often it does alone: the rest stands in other members
unfoldable pub observation_text : Layout → Litmus → ℕ → ℕ → List ℕ
observation_text Lines test held ends = observation_line test held ends
observation_text Json test held ends = word_field Json (codes "observation") (often held ends)

-- the text that lists every end; whether orders were asked for
unfoldable pub every_text : Layout → Litmus → Every → (orders : Bool) → List ℕ
every_text layout test every orders = opening layout (codes "ends")
    ++ head_text layout test every
    ++ ends_text layout orders test every.ends
    ++ list_closing layout
    ++ condition_text layout test (held_of test (values_in every))
    ++ observation_text layout test (held_of test (values_in every)) (length every.ends)
    ++ closing layout

-- The line on standard error that says why there is no report.
use Rattle.std.specs.Prelude.{ℕ, List, [], ◌++◌, codes, decimal}
use Rattle.litmus_lexer.specs.Kinds as litmus
use Rattle.run_results.specs.declared.results.RunError.{RunError}
use Rattle.run_results.specs.declared.results.RunError.TheVariants.{Read, Write, NoMemory, Litmus, Trace, BadConfig}
use Rattle.run_results.specs.declared.results.RunError.TheVariants.{TooManyStates, Opening}
use Rattle.trace_lines.specs.Kinds as trace

-- tardis: line L: K NAME, perhaps with the name of the text behind tardis
abbrev pub fault_line : List ℕ → ℕ → ℕ → List ℕ → List ℕ
fault_line text line number name =
    codes "tardis: " ++ text ++ codes "line " ++ decimal line ++ codes ": " ++ decimal number ++ codes " " ++ name
    ++ codes "\n"

-- tardis: more than N states; M are enough to go on
abbrev pub states_line : ℕ → ℕ → List ℕ
states_line most enough =
    codes "tardis: more than " ++ decimal most ++ codes " states; " ++ decimal enough ++ codes " are enough to go on\n"

abbrev pub error_line : RunError → List ℕ
error_line Read = codes "tardis: read failed\n"
error_line Write = codes "tardis: write failed\n"
error_line NoMemory = codes "tardis: no memory\n"
error_line (Litmus e) = fault_line [] e.line (litmus.number_of_kind e.kind) (litmus.name_of_kind e.kind)
error_line (Trace e) = fault_line [] e.line (trace.number_of_trace_kind e.kind) (trace.name_of_trace_kind e.kind)
error_line (Opening e) =
    fault_line (codes "opening: ") e.line (trace.number_of_trace_kind e.kind) (trace.name_of_trace_kind e.kind)
error_line BadConfig = codes "tardis: bad configuration\n"
error_line (TooManyStates most enough) = states_line most enough

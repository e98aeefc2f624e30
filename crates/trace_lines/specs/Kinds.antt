-- The kinds of faults by number and by name, as a command prints them.
use Rattle.std.specs.Prelude.{ℕ, List, codes}
use Rattle.trace_lines.specs.declared.errors.Kind.{Kind}
use Rattle.trace_lines.specs.declared.errors.Kind.TheVariants.{Read, NoMemory, TooLong, BadCore, BadOperation}
use Rattle.trace_lines.specs.declared.errors.Kind.TheVariants.{BadAddress, BadValue, ExtraWords, BadForm}
use Rattle.trace_lines.specs.declared.errors.Kind.TheVariants.{DoubleWord}

abbrev pub number_of_trace_kind : Kind → ℕ
number_of_trace_kind Read = 1
number_of_trace_kind NoMemory = 2
number_of_trace_kind TooLong = 3
number_of_trace_kind BadCore = 4
number_of_trace_kind BadOperation = 5
number_of_trace_kind BadAddress = 6
number_of_trace_kind BadValue = 7
number_of_trace_kind ExtraWords = 8
number_of_trace_kind BadForm = 9
number_of_trace_kind DoubleWord = 10

abbrev pub name_of_trace_kind : Kind → List ℕ
name_of_trace_kind Read = codes "Read"
name_of_trace_kind NoMemory = codes "NoMemory"
name_of_trace_kind TooLong = codes "TooLong"
name_of_trace_kind BadCore = codes "BadCore"
name_of_trace_kind BadOperation = codes "BadOperation"
name_of_trace_kind BadAddress = codes "BadAddress"
name_of_trace_kind BadValue = codes "BadValue"
name_of_trace_kind ExtraWords = codes "ExtraWords"
name_of_trace_kind BadForm = codes "BadForm"
name_of_trace_kind DoubleWord = codes "DoubleWord"

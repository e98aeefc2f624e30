-- The kinds of faults by number and by name, as a command prints them.
use Rattle.std.specs.Prelude.{ℕ, List, codes}
use Rattle.litmus_lexer.specs.declared.errors.Kind.{Kind}
use Rattle.litmus_lexer.specs.declared.errors.Kind.TheVariants.{NoMemory, TooLarge, BadByte, BadHeader, BadInitial}
use Rattle.litmus_lexer.specs.declared.errors.Kind.TheVariants.{DoubleInitial, BadTable, BadInstruction, ValueRange}
use Rattle.litmus_lexer.specs.declared.errors.Kind.TheVariants.{MixedWidth, AddressAsValue, ValueAsAddress}
use Rattle.litmus_lexer.specs.declared.errors.Kind.TheVariants.{BadCondition, CutShort}

abbrev pub number_of_kind : Kind → ℕ
number_of_kind NoMemory = 1
number_of_kind TooLarge = 2
number_of_kind BadByte = 3
number_of_kind BadHeader = 4
number_of_kind BadInitial = 5
number_of_kind DoubleInitial = 6
number_of_kind BadTable = 7
number_of_kind BadInstruction = 8
number_of_kind ValueRange = 9
number_of_kind MixedWidth = 10
number_of_kind AddressAsValue = 11
number_of_kind ValueAsAddress = 12
number_of_kind BadCondition = 13
number_of_kind CutShort = 14

abbrev pub name_of_kind : Kind → List ℕ
name_of_kind NoMemory = codes "NoMemory"
name_of_kind TooLarge = codes "TooLarge"
name_of_kind BadByte = codes "BadByte"
name_of_kind BadHeader = codes "BadHeader"
name_of_kind BadInitial = codes "BadInitial"
name_of_kind DoubleInitial = codes "DoubleInitial"
name_of_kind BadTable = codes "BadTable"
name_of_kind BadInstruction = codes "BadInstruction"
name_of_kind ValueRange = codes "ValueRange"
name_of_kind MixedWidth = codes "MixedWidth"
name_of_kind AddressAsValue = codes "AddressAsValue"
name_of_kind ValueAsAddress = codes "ValueAsAddress"
name_of_kind BadCondition = codes "BadCondition"
name_of_kind CutShort = codes "CutShort"

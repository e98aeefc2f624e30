-- The text of records.
use Rattle.std.specs.Prelude.{ℕ, ◌^◌, ◌<◌, List, [], ◌∷◌, ◌++◌, codes, decimal, Option, Some, None, IfSome}
use Rattle.std.specs.List.{flat_map, AllByRecursion}
use Rattle.physiological_order.specs.declared.operation.Op.{Op}
use Rattle.physiological_order.specs.declared.operation.Op.TheVariants.{Load, Store, Swap}
use Rattle.physiological_order.specs.declared.operation.Record.{Record}
use Rattle.report_lines.specs.Hexadecimal.{address_text}

-- a field behind another one
abbrev pub spaced : List ℕ → List ℕ
spaced field = 32 ∷ field

-- a value behind a field, if there is one
abbrev pub spaced_value : Option ℕ → List ℕ
spaced_value None = []
spaced_value (Some value) = spaced (decimal value)

-- the letter, the address, and the value that is written
abbrev pub op_text : Op → List ℕ
op_text (Load word) = spaced (codes "R") ++ spaced (address_text word)
op_text (Store word value) = spaced (codes "W") ++ spaced (address_text word) ++ spaced (decimal value)
op_text (Swap word value) = spaced (codes "S") ++ spaced (address_text word) ++ spaced (decimal value)

-- RECEIVED if there is one, TIME, NUMBER, and a line feed
abbrev pub end_text : Record → List ℕ
end_text r = spaced_value r.received ++ spaced (decimal r.ts) ++ spaced (decimal r.number) ++ 10 ∷ []

-- CORE, PLACE, the operation, and the rest
abbrev pub record_text : Record → List ℕ
record_text r = decimal r.core ++ spaced (decimal r.place) ++ op_text r.op ++ end_text r

-- a line for each record, in order
abbrev pub records_text : List Record → List ℕ
records_text records = flat_map record_text records

-- a load and a swap received a value of 64 bits, a store none; and the values that are written have 64 bits
abbrev pub IsAnswered : Op → Option ℕ → Type 0
IsAnswered (Load word) (Some received) = (word < 2 ^ 61) × (received < 2 ^ 64)
IsAnswered (Store word value) None = (word < 2 ^ 61) × (value < 2 ^ 64)
IsAnswered (Swap word value) (Some received) = (word < 2 ^ 61) × (value < 2 ^ 64) × (received < 2 ^ 64)
IsAnswered op received = ⊥

-- a record that the grammar has: of a core below 64, its numbers in their ranges
abbrev pub IsWritable : Record → Type 0
IsWritable r = (r.core < 64) × (r.place < 2 ^ 32) × (r.ts < 2 ^ 64) × (r.number < 2 ^ 64) × IsAnswered r.op r.received

unfoldable pub AreWritable : List Record → Type 0
AreWritable [] = Unit {0}
AreWritable (r ∷ records) = IsWritable r × AreWritable records

-- a load and a swap received a value, a store none
abbrev pub HasItsValue : Op → Option ℕ → Type 0
HasItsValue (Load word) (Some received) = Unit {0}
HasItsValue (Store word value) None = Unit {0}
HasItsValue (Swap word value) (Some received) = Unit {0}
HasItsValue op received = ⊥

-- what a record of a program needs to be one that the grammar has: the ranges of its types do the rest
abbrev pub IsComplete : Record → Type 0
IsComplete r = (r.core < 64) × HasItsValue r.op r.received

abbrev pub AreComplete : List Record → Type 0
AreComplete records = AllByRecursion IsComplete records

-- the numbers of an operation are in the ranges of their types
abbrev pub IsRangedOp : Op → Type 0
IsRangedOp (Load word) = word < 2 ^ 61
IsRangedOp (Store word value) = (word < 2 ^ 61) × (value < 2 ^ 64)
IsRangedOp (Swap word value) = (word < 2 ^ 61) × (value < 2 ^ 64)

-- what is received, the time and the number are
abbrev pub IsRangedEnd : Record → Type 0
IsRangedEnd r = IfSome r.received (λ v. v < 2 ^ 64) × (r.ts < 2 ^ 64) × (r.number < 2 ^ 64)

abbrev pub IsRanged : Record → Type 0
IsRanged r = (r.place < 2 ^ 32) × IsRangedOp r.op × IsRangedEnd r

abbrev pub AreRanged : List Record → Type 0
AreRanged records = AllByRecursion IsRanged records

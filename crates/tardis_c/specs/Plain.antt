-- What words, operations and records of C stand for, and what is wrong with them.
use Rattle.std.specs.Prelude.{ℕ, ◌/◌, ◌%◌, ◌==◌, if◌then◌else◌, nat_lt, Some, None, List, map, filter}
use Rattle.std.specs.Ordering.{nat_cmp}
use Rattle.std.specs.FinMap.{FinMap, empty}
use Rattle.physiological_order.specs.Words.{words_end}
use Rattle.physiological_order.specs.declared.operation.Op.{Op}
use Rattle.physiological_order.specs.declared.operation.Op.TheVariants.{Load, Store, Swap}
use Rattle.physiological_order.specs.declared.operation.Record.{Record}
use Rattle.tardis_c.specs.declared.plain.PlainOperation.{PlainOperation}
use Rattle.tardis_c.specs.declared.plain.PlainRecord.{PlainRecord}
use Rattle.tardis_c.specs.declared.plain.PlainWord.{PlainWord}

-- 6 if the address is that of no word; 0 for nothing
abbrev pub address_fault : ℕ → ℕ
address_fault address = if address % 8 == 0 then 0 else 6

abbrev pub word_fault : PlainWord → ℕ
word_fault plain = address_fault plain.address

-- 4 if there is no such core, 5 if there is no such kind; the address comes last
abbrev pub operation_fault : PlainOperation → ℕ
operation_fault plain = if nat_lt 1048575 plain.core then 4 else if nat_lt 2 plain.kind then 5 else
    address_fault plain.address

-- the operation's fault takes precedence; then 7 if a place has more than 32 bits
abbrev pub record_fault : PlainRecord → ℕ
record_fault plain = if operation_fault plain.operation == 0
    then (if nat_lt plain.place 4294967296 then 0 else 7) else operation_fault plain.operation

-- a word opens with its value, as a store leaves it
abbrev pub store_of : PlainWord → Op
store_of plain = Store (plain.address / 8) plain.value

-- the words that are set at first; of several for one word the last counts
abbrev pub words_of : List PlainWord → FinMap nat_cmp ℕ
words_of opening = words_end empty (map store_of opening)

-- 0 is a load, 1 a store, 2 a swap
abbrev pub op_by : (kind word value : ℕ) → Op
op_by kind word value = if kind == 0 then Load word else if kind == 1 then Store word value else Swap word value

abbrev pub op_of : PlainOperation → Op
op_of plain = op_by plain.kind (plain.address / 8) plain.value

-- what a core was issued, in order
abbrev pub issued_of : List PlainOperation → ℕ → List Op
issued_of operations core = map op_of (filter (λ plain. plain.core == core) operations)

-- a store received nothing
abbrev pub record_of : PlainRecord → Record
record_of plain = record {
  core = plain.operation.core;
  place = plain.place;
  op = op_of plain.operation;
  received = if plain.operation.kind == 1 then None else Some plain.received;
  ts = plain.time;
  number = plain.number;
}

-- What a DRAM does with each message.
use Rattle.std.specs.Prelude.{ℕ, Bool, true, false, ◌&&◌, is_none, List, Option, Some}
use Rattle.std.specs.Ordering.{nat_cmp}
use Rattle.std.specs.FinMap as map
use Rattle.network.specs.declared.message.Node.{Node}
use Rattle.network.specs.declared.message.Node.TheVariants.{Dram}
use Rattle.network.specs.declared.message.Body.{Body}
use Rattle.network.specs.declared.message.Body.TheVariants.{DramLd, DramLdRep, DramSt, DramStRep}
use Rattle.network.specs.declared.message.Message.{Message}
use Rattle.network.specs.declared.part.Reaction.{Reaction}
use Rattle.network.specs.declared.part.Reaction.TheVariants.{Done, Dropped}
use Rattle.network.specs.Search.{is_dram_store}
use Rattle.dram_mts.specs.Lines.{words_of}

abbrev pub is_dram : Node → Bool
is_dram (Dram bank) = true
is_dram _ = false

-- loads and stores come to a DRAM, and nothing else
abbrev pub comes_to_dram : Body → Bool
comes_to_dram DramLd = true
comes_to_dram (DramSt words) = true
comes_to_dram _ = false

abbrev pub dram_has_case : map.FinMap nat_cmp (List ℕ) → Message → Bool
dram_has_case lines m = is_dram m.to && comes_to_dram m.body

-- the answer goes back, about the same line
abbrev pub answer_to : Message → Body → Message
answer_to m body = record { from = m.to; to = m.from; line = m.line; body = body }

-- a load is answered with the line's words; a store sets them and is answered
abbrev pub dram_case : map.FinMap nat_cmp (List ℕ) → Message → Body → Option (Reaction × map.FinMap nat_cmp (List ℕ))
dram_case lines m DramLd = Some (Done (Some (answer_to m (DramLdRep (words_of lines m.line)))), lines)
dram_case lines m (DramSt words) = Some (Done (Some (answer_to m DramStRep)), map.insert lines m.line words)
dram_case lines m _ = Some (Dropped, lines)

abbrev pub dram_table : map.FinMap nat_cmp (List ℕ) → Message → Option (Reaction × map.FinMap nat_cmp (List ℕ))
dram_table lines m = dram_case lines m m.body

-- only the first store of a line allocates
abbrev pub needs_memory : map.FinMap nat_cmp (List ℕ) → Message → Bool
needs_memory lines m = is_dram_store m.body && is_none (map.get lines m.line)

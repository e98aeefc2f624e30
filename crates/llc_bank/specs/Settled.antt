-- Entries that are settled: nothing is under way for them.
use Rattle.std.specs.Prelude.{Bool, true, false}
use Rattle.llc_bank.specs.declared.choice.EntryTest.{EntryTest}
use Rattle.llc_bank.specs.declared.choice.EntryTest.TheVariants as test
use Rattle.llc_bank.specs.declared.entry.Entry.{Entry}
use Rattle.llc_bank.specs.declared.entry.Entry.TheVariants.{Shared, Exclusive}

-- an entry that nothing is under way for
abbrev pub is_settled : Entry → Bool
is_settled (Shared dirty line) = true
is_settled (Exclusive owner) = true
is_settled _ = false

-- a line that no core owns
abbrev pub is_shared : Entry → Bool
is_shared (Shared dirty line) = true
is_shared _ = false

-- what a test asks of an entry
abbrev pub passes : EntryTest → Entry → Bool
passes test.Settled entry = is_settled entry
passes test.Shared entry = is_shared entry

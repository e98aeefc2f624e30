-- Who owns a line, and where a word's coherent value is.
use Rattle.std.specs.Prelude.{ℕ, ◌+◌, ◌/◌, ◌%◌, List, [], ◌∷◌, Option, Some, None, if◌then◌else◌, slice_get}
use Rattle.std.specs.Prelude.{slice_index}
use Rattle.std.specs.Ordering.{nat_cmp}
use Rattle.std.specs.FinMap.{FinMap}
use Rattle.network.specs.declared.message.Body.{Body}
use Rattle.network.specs.declared.message.Body.TheVariants as body
use Rattle.network.specs.declared.message.Message.{Message}
use Rattle.network.specs.Search.{is_ownership_of, is_store_of, first_message, count_messages}
use Rattle.private_cache.specs.declared.line_copy.LineCopy.{LineCopy}
use Rattle.private_cache.specs.CopyTable.{copy_of}
use Rattle.core_pts.specs.CoreTable.{CoreState}
use Rattle.core_pts.specs.OnCopy.{is_exclusive}
use Rattle.llc_bank.specs.declared.entry.Entry.{Entry}
use Rattle.llc_bank.specs.declared.entry.Entry.TheVariants.{Shared}
use Rattle.llc_bank.specs.BankTable.{BankState, core_of, entry_of}
use Rattle.dram_mts.specs.Lines.{words_of}
use Rattle.machine_table.specs.Machine.{Machine}

-- 1 if a copy is Exclusive
abbrev pub owner_in : Option LineCopy → ℕ
owner_in None = 0
owner_in (Some copy) = if is_exclusive copy.state then 1 else 0

-- how many caches have an Exclusive copy of a line
abbrev pub exclusive_copies : List CoreState → ℕ → ℕ
exclusive_copies [] line = 0
exclusive_copies (core ∷ cores) line = owner_in (copy_of core.cache line) + exclusive_copies cores line

-- the owners of a line: its Exclusive copies, and the grants and returns of it in flight
abbrev pub owners : Machine → ℕ → ℕ
owners m line = exclusive_copies m.cores line + count_messages (is_ownership_of line) m.mail.messages

-- the first of two, or else the second
abbrev pub or_other : {X : Type 0} → Option X → Option X → Option X
or_other None other = other
or_other (Some x) other = Some x

abbrev pub or_else : {X : Type 0} → Option X → X → X
or_else None y = y
or_else (Some x) y = x

-- the words of a copy that is Exclusive, and of any copy
abbrev pub owned_words : Option LineCopy → Option (List ℕ)
owned_words None = None
owned_words (Some copy) = if is_exclusive copy.state then Some copy.words else None

abbrev pub copy_words : Option LineCopy → Option (List ℕ)
copy_words None = None
copy_words (Some copy) = Some copy.words

-- a line's words in the cache of its owner
abbrev pub owner_words : List CoreState → ℕ → Option (List ℕ)
owner_words [] line = None
owner_words (core ∷ cores) line = or_other (owned_words (copy_of core.cache line)) (owner_words cores line)

-- a line's words in a core's cache
abbrev pub cached_words : Option CoreState → ℕ → Option (List ℕ)
cached_words None line = None
cached_words (Some core) line = copy_words (copy_of core.cache line)

-- the words that come with a line's ownership; an upgrade stands for those that its core has
abbrev pub words_with : List CoreState → ℕ → Message → Body → Option (List ℕ)
words_with cores line m (body.ExRep timed) = Some timed.words
words_with cores line m (body.UpgradeRep rts) = cached_words (slice_get cores (core_of m.to)) line
words_with cores line m (body.FlushRep timed) = Some timed.words
words_with cores line m (body.WbRep timed) = Some timed.words
words_with cores line m _ = None

abbrev pub granted_words : List CoreState → ℕ → Option (ℕ × Message) → Option (List ℕ)
granted_words cores line None = None
granted_words cores line (Some m) = words_with cores line m.1 m.1.body

-- the words of a bank's Shared entry
abbrev pub shared_words : Option Entry → Option (List ℕ)
shared_words (Some (Shared dirty timed)) = Some timed.words
shared_words _ = None

abbrev pub bank_words : Option BankState → ℕ → Option (List ℕ)
bank_words None line = None
bank_words (Some bank) line = shared_words (entry_of bank line)

-- the words of a store on its way to DRAM
abbrev pub words_to_store : Body → Option (List ℕ)
words_to_store (body.DramSt words) = Some words
words_to_store _ = None

abbrev pub stored_words : Option (ℕ × Message) → Option (List ℕ)
stored_words None = None
stored_words (Some m) = words_to_store m.1.body

-- the words that a DRAM has of a line
abbrev pub words_in : Option (FinMap nat_cmp (List ℕ)) → ℕ → List ℕ
words_in None line = []
words_in (Some lines) line = words_of lines line

-- a line's coherent words: with its owner, or with its ownership in flight, or else in the bank, or else in a store
-- on its way to DRAM, or else in DRAM
abbrev pub coherent_words : Machine → ℕ → List ℕ
coherent_words m line =
    or_else (owner_words m.cores line)
    (or_else (granted_words m.cores line (first_message (is_ownership_of line) m.mail.messages))
    (or_else (bank_words (slice_get m.banks (line % m.config.banks)) line)
    (or_else (stored_words (first_message (is_store_of line) m.mail.messages))
    (words_in (slice_get m.drams (line % m.config.banks)) line))))

-- a word's coherent value
abbrev pub coherent : Machine → ℕ → ℕ
coherent m word = slice_index (coherent_words m (word / m.config.line_words)) (word % m.config.line_words)

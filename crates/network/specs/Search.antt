-- Searches of the messages in flight.
use Rattle.std.specs.Prelude.{ℕ, ◌+◌, Bool, true, false, ◌&&◌, ◌==◌, nat_lt, List, [], ◌∷◌, Option, Some, None}
use Rattle.std.specs.Prelude.{if◌then◌else◌}
use Rattle.std.specs.Borrow.{Bor}
use Rattle.network.specs.declared.message.Node.{Node}
use Rattle.network.specs.declared.message.Node.TheVariants.{Core, Bank, Dram}
use Rattle.network.specs.declared.message.Body.{Body}
use Rattle.network.specs.declared.message.Body.TheVariants.{ExRep, UpgradeRep, FlushRep, WbRep, DramSt}
use Rattle.network.specs.declared.message.Message.{Message}

abbrev pub is_same_node : Node → Node → Bool
is_same_node (Core a) (Core b) = a == b
is_same_node (Bank a) (Bank b) = a == b
is_same_node (Dram a) (Dram b) = a == b
is_same_node _ _ = false

-- whether a message goes from the one node to the other
abbrev pub is_between : Node → Node → Message → Bool
is_between from to m = is_same_node m.from from && is_same_node m.to to

-- a grant of a line, or a return of it, carries the line's ownership
abbrev pub carries_ownership : Body → Bool
carries_ownership (ExRep line) = true
carries_ownership (UpgradeRep rts) = true
carries_ownership (FlushRep line) = true
carries_ownership (WbRep line) = true
carries_ownership _ = false

-- whether a message carries the ownership of a line
abbrev pub is_ownership_of : ℕ → Message → Bool
is_ownership_of line m = (m.line == line) && carries_ownership m.body

abbrev pub is_dram_store : Body → Bool
is_dram_store (DramSt words) = true
is_dram_store _ = false

-- whether a message stores a line's words in DRAM
abbrev pub is_store_of : ℕ → Message → Bool
is_store_of line m = (m.line == line) && is_dram_store m.body

-- a message that passes a test, if there is one
abbrev pub kept_if : (Message → Bool) → Option Message → Option Message
kept_if test None = None
kept_if test (Some m) = if test m then Some m else None

-- a number, with the message that a reference shows
abbrev pub with_message : ℕ × Bor Message → ℕ × Message
with_message p = (p.0, p.1.now)

-- the first message that passes a test, with its number
abbrev pub first_message : (Message → Bool) → List (ℕ × Message) → Option (ℕ × Message)
first_message test [] = None
first_message test (x ∷ xs) = if test x.1 then Some x else first_message test xs

-- how many messages pass a test
abbrev pub count_messages : (Message → Bool) → List (ℕ × Message) → ℕ
count_messages test [] = 0
count_messages test (x ∷ xs) = (if test x.1 then 1 else 0) + count_messages test xs

-- of two messages the one with the lower number, or the one that there is
abbrev pub earlier : Option (ℕ × Message) → Option (ℕ × Message) → Option (ℕ × Message)
earlier None o = o
earlier (Some x) None = Some x
earlier (Some x) (Some y) = if nat_lt y.0 x.0 then Some y else Some x

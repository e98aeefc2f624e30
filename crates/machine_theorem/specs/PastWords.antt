-- Every list of a line's words has eight, and a line may have fewer words: what stands behind them.
use Rattle.std.specs.Prelude.{◌≡◌, ℕ, ◌<◌, ◌≤◌, List, Some, slice_index}
use Rattle.std.specs.List.{AllByRecursion}
use Rattle.protocol.specs.Machine.{Config, Copy, Entry, Shared, Message, ShRep, ExRep, FlushRep, WbRep, DramLdRep}
use Rattle.protocol.specs.Machine.{DramSt, Line, Machine, Reachable}

-- all words from this one on are 0
abbrev pub ZerosFrom : ℕ → List ℕ → Type 0
ZerosFrom n words = (k : ℕ) → n ≤ k → slice_index words k ≡ 0

-- so it is of the words in an entry, and in a message, if there are any
abbrev pub EntryEnds : ℕ → Entry → Type 0
EntryEnds n (Shared dirty line) = ZerosFrom n line.words
EntryEnds n _ = Unit {0}

abbrev pub MessageEnds : ℕ → Message → Type 0
MessageEnds n (ShRep core line) = ZerosFrom n line.words
MessageEnds n (ExRep core line) = ZerosFrom n line.words
MessageEnds n (FlushRep core line) = ZerosFrom n line.words
MessageEnds n (WbRep core line) = ZerosFrom n line.words
MessageEnds n (DramLdRep words) = ZerosFrom n words
MessageEnds n (DramSt words) = ZerosFrom n words
MessageEnds n _ = Unit {0}

-- and so it is wherever words of a line stand
pub record HasZeros (n : ℕ) (line : Line) : Type 0 where
  pub copies : (core : ℕ) (copy : Copy) → line.copies core ≡ Some copy → ZerosFrom n copy.line.words
  pub entry : EntryEnds n line.entry
  pub messages : AllByRecursion (MessageEnds n) line.messages
  pub dram : ZerosFrom n line.dram

-- the protocol reaches the machine, and each word that its lines don't have is 0, wherever it stands
pub record IsReached (config : Config) (machine : Machine) : Type 0 where
  pub some_words : 0 < config.line_words
  pub reachable : Reachable config machine
  pub zeros : (line : ℕ) → HasZeros config.line_words (machine.lines line)

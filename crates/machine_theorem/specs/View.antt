-- The machine's state, seen line by line: what each table and each message says of one line, and of each core its time
-- and its open operation.
use Rattle.std.specs.Prelude.{false, ℕ, ◌%◌, ◌==◌, List, [], ◌∷◌, Option, Some, None, if◌then◌else◌}
use Rattle.std.specs.Ordering.{nat_cmp}
use Rattle.std.specs.FinMap.{FinMap}
use Rattle.physiological_order.specs.Order.{flat}
use Rattle.network.specs.declared.message.TimedLine.{TimedLine}
use Rattle.network.specs.declared.message.Body.{Body}
use Rattle.network.specs.declared.message.Body.TheVariants as body
use Rattle.network.specs.declared.message.Message.{Message}
use Rattle.private_cache.specs.declared.line_copy.LineCopy.{LineCopy}
use Rattle.private_cache.specs.CopyTable.{copy_of}
use Rattle.core_pts.specs.CoreTable.{CoreState}
use Rattle.core_pts.specs.OnCopy.{is_exclusive}
use Rattle.llc_bank.specs.declared.entry.Entry.{Entry}
use Rattle.llc_bank.specs.declared.entry.Entry.TheVariants as entry
use Rattle.llc_bank.specs.BankTable.{BankState, core_of, entry_of}
use Rattle.dram_mts.specs.Lines.{words_of}
use Rattle.machine_table.specs.declared.config.Config.{Config}
use Rattle.machine_table.specs.Machine.{Machine}
use Rattle.machine_theorem.specs.States.{State, seen}
use Rattle.protocol.specs.Machine as by_line
use Rattle.protocol.specs.Machine.{Timed, Copy, Absent, Loading, Shared, Exclusive, Recalling, Storing, ShReq, ExReq}
use Rattle.protocol.specs.Machine.{ShRep, ExRep, RenewRep, UpgradeRep, FlushReq, WbReq, FlushRep, WbRep, DramLd}
use Rattle.protocol.specs.Machine.{DramLdRep, DramSt, DramStRep}

-- a line's words and times
abbrev pub timed : TimedLine → Timed
timed line = record { wts = line.wts; rts = line.rts; words = line.words }

-- a core's copy
abbrev pub copy_seen : LineCopy → Copy
copy_seen copy = record {
  exclusive = is_exclusive copy.state;
  written = copy.written;
  line =
      record { wts = copy.wts; rts = copy.rts; words = copy.words };
}

abbrev pub copy_or_none : Option LineCopy → Option Copy
copy_or_none None = None
copy_or_none (Some copy) = Some (copy_seen copy)

-- a bank's entry; a line that the bank doesn't have is absent
abbrev pub entry_seen : Option Entry → by_line.Entry
entry_seen None = Absent
entry_seen (Some entry.Loading) = Loading
entry_seen (Some (entry.Shared dirty line)) = Shared dirty (timed line)
entry_seen (Some (entry.Exclusive owner)) = Exclusive owner
entry_seen (Some (entry.Recalling owner)) = Recalling owner
entry_seen (Some entry.Storing) = Storing

-- what a message says, with the core that sends or gets it
abbrev pub body_seen : (from to : ℕ) → Body → by_line.Message
body_seen from to (body.ShReq pts version) = ShReq from pts version
body_seen from to (body.ExReq version) = ExReq from version
body_seen from to (body.ShRep line) = ShRep to (timed line)
body_seen from to (body.ExRep line) = ExRep to (timed line)
body_seen from to (body.RenewRep rts) = RenewRep to rts
body_seen from to (body.UpgradeRep rts) = UpgradeRep to rts
body_seen from to body.FlushReq = FlushReq to
body_seen from to (body.WbReq rts) = WbReq to rts
body_seen from to (body.FlushRep line) = FlushRep from (timed line)
body_seen from to (body.WbRep line) = WbRep from (timed line)
body_seen from to body.DramLd = DramLd
body_seen from to (body.DramLdRep words) = DramLdRep words
body_seen from to (body.DramSt words) = DramSt words
body_seen from to body.DramStRep = DramStRep

abbrev pub message_seen : Message → by_line.Message
message_seen m = body_seen (core_of m.from) (core_of m.to) m.body

-- the messages of a line
abbrev pub messages_of : List Message → ℕ → List by_line.Message
messages_of [] line = []
messages_of (m ∷ ms) line = if m.line == line then message_seen m ∷ messages_of ms line else messages_of ms line

-- what a core has of a line
abbrev pub copy_in : CoreState → ℕ → Option Copy
copy_in core line = copy_or_none (copy_of core.cache line)

abbrev pub core_seen : CoreState → by_line.Core
core_seen core = record { pts = core.pts; open_op = core.open_op; out = core.is_out }

-- what a bank has of a line
abbrev pub entry_in : BankState → ℕ → by_line.Entry
entry_in bank line = entry_seen (entry_of bank line)

-- the numbers that a machine was set up with
abbrev pub set_up : Config → FinMap nat_cmp ℕ → by_line.Config
set_up config opening = record {
  opening = flat opening;
  opening_time = config.opening_time;
  line_words = config.line_words;
  lease = config.lease;
  banks = config.banks;
  private_write = config.private_write;
  loses_recalls = false;
}

-- a line of a state
abbrev pub line_seen : Config → State → ℕ → by_line.Line
line_seen config a line = record {
  entry = entry_in (a.banks (line % config.banks)) line;
  copies = λ core. copy_in (a.cores core) line;
  messages = messages_of a.bag line;
  dram = words_of (a.drams (line % config.banks)) line;
}

-- a state by lines
abbrev pub view : Config → State → by_line.Machine
view config a = record {
  lines = λ line. line_seen config a line;
  cores = λ core. core_seen (a.cores core);
  mts = λ bank. (a.banks bank).mts;
  issued = a.issued;
  records = a.records;
}

-- a line of a machine
abbrev pub line_in : Machine → ℕ → by_line.Line
line_in m line = line_seen m.config (seen m) line

-- What C has of answers, messages and what else a machine shows.
use Rattle.std.specs.Prelude.{ℕ, ◌-◌, ◌*◌, ◌^◌, nat_lt, Bool, true, false, Option, Some, None, if◌then◌else◌}
use Rattle.std.specs.Prelude.{is_some, unwrap_or, List, replicate}
use Rattle.physiological_order.specs.declared.operation.Op.{Op}
use Rattle.physiological_order.specs.declared.operation.Op.TheVariants.{Load, Store, Swap}
use Rattle.physiological_order.specs.declared.operation.Record.{Record}
use Rattle.network.specs.declared.message.Body.{Body}
use Rattle.network.specs.declared.message.Body.TheVariants.{ShReq, ExReq, ShRep, ExRep, RenewRep, UpgradeRep, FlushReq}
use Rattle.network.specs.declared.message.Body.TheVariants.{WbReq, FlushRep, WbRep, DramLd, DramLdRep, DramSt}
use Rattle.network.specs.declared.message.Body.TheVariants.{DramStRep}
use Rattle.network.specs.declared.message.Message.{Message}
use Rattle.network.specs.declared.message.Node.{Node}
use Rattle.network.specs.declared.message.Node.TheVariants.{Core, Bank, Dram}
use Rattle.network.specs.declared.message.TimedLine.{TimedLine}
use Rattle.machine_table.specs.declared.event.Answer.{Answer}
use Rattle.machine_table.specs.declared.event.Answer.TheVariants.{Issued, Completed, Requested, Waiting, Idle}
use Rattle.machine_table.specs.declared.event.Answer.TheVariants.{Delivered, Dropped, Held, Started, Evicted, Recalled}
use Rattle.machine_table.specs.declared.event.Answer.TheVariants.{Advanced, Refused}
use Rattle.machine_table.specs.RefusalNumbers.{number_of}
use Rattle.tardis_c.specs.declared.system_parts.Place.{Place}
use Rattle.tardis_c.specs.declared.system_parts.CAnswer.{CAnswer}
use Rattle.tardis_c.specs.declared.system_parts.PlainMessage.{PlainMessage}
use Rattle.tardis_c.specs.declared.system_parts.PlainOpen.{PlainOpen}
use Rattle.tardis_c.specs.declared.system_parts.Carried.{Carried}
use Rattle.tardis_c.specs.declared.plain.PlainOperation.{PlainOperation}
use Rattle.tardis_c.specs.declared.plain.PlainRecord.{PlainRecord}

-- the greatest number of 64 bits in place of one past it
abbrev pub capped : ℕ → ℕ
capped count = if nat_lt count (2 ^ 64) then count else 2 ^ 64 - 1

-- the byte address is eight times the word's; a load writes nothing
abbrev pub plain_op : ℕ → Op → PlainOperation
plain_op core (Load word) = record { core = core; kind = 0; address = word * 8; value = 0 }
plain_op core (Store word value) = record { core = core; kind = 1; address = word * 8; value = value }
plain_op core (Swap word value) = record { core = core; kind = 2; address = word * 8; value = value }

-- a store received nothing: 0
abbrev pub plain_record : Record → PlainRecord
plain_record r = record {
  operation = plain_op r.core r.op;
  place = r.place;
  received = unwrap_or r.received 0;
  time = r.ts;
  number = r.number;
}

-- an answer without a record: the record is zeros
abbrev pub answer_without_record : (kind refusal : ℕ) → CAnswer
answer_without_record kind refusal = record {
  kind = kind;
  refusal = refusal;
  completed = record {
    operation = record { core = 0; kind = 0; address = 0; value = 0 };
    place = 0;
    received = 0;
    time = 0;
    number = 0;
  };
}

abbrev pub c_answer : Answer → CAnswer
c_answer Issued = answer_without_record 0 0
c_answer (Completed r) = record { kind = 1; refusal = 0; completed = plain_record r }
c_answer Requested = answer_without_record 2 0
c_answer Waiting = answer_without_record 3 0
c_answer Idle = answer_without_record 4 0
c_answer Delivered = answer_without_record 5 0
c_answer Dropped = answer_without_record 6 0
c_answer Held = answer_without_record 7 0
c_answer Started = answer_without_record 8 0
c_answer Evicted = answer_without_record 9 0
c_answer Recalled = answer_without_record 10 0
c_answer Advanced = answer_without_record 11 0
c_answer (Refused refusal) = answer_without_record 12 (number_of refusal)

-- a message of this kind that carries nothing
abbrev pub carried_nothing : ℕ → Carried
carried_nothing kind = record { kind = kind; pts = 0; version = None; wts = 0; rts = 0; words = replicate 8 0 }

-- a line has the times of its last write and of its lease's end
abbrev pub carried_line : ℕ → TimedLine → Carried
carried_line kind line = record (carried_nothing kind) { wts = line.wts; rts = line.rts; words = line.words }

-- the kind of a message, and what it carries
abbrev pub carried_by : Body → Carried
carried_by (ShReq pts version) = record (carried_nothing 0) { pts = pts; version = version }
carried_by (ExReq version) = record (carried_nothing 1) { version = version }
carried_by (ShRep line) = carried_line 2 line
carried_by (ExRep line) = carried_line 3 line
carried_by (RenewRep rts) = record (carried_nothing 4) { rts = rts }
carried_by (UpgradeRep rts) = record (carried_nothing 5) { rts = rts }
carried_by FlushReq = carried_nothing 6
carried_by (WbReq rts) = record (carried_nothing 7) { rts = rts }
carried_by (FlushRep line) = carried_line 8 line
carried_by (WbRep line) = carried_line 9 line
carried_by DramLd = carried_nothing 10
carried_by (DramLdRep words) = record (carried_nothing 11) { words = words }
carried_by (DramSt words) = record (carried_nothing 12) { words = words }
carried_by DramStRep = carried_nothing 13

-- what an end is, and its number
abbrev pub end_of : Node → ℕ × ℕ
end_of (Core number) = (0, number)
end_of (Bank number) = (1, number)
end_of (Dram number) = (2, number)

abbrev pub flag : Bool → ℕ
flag false = 0
flag true = 1

abbrev pub message_of : ℕ → Message → PlainMessage
message_of number message = record {
  number = number;
  kind = (carried_by message.body).kind;
  from_kind = (end_of message.from).0;
  from = (end_of message.from).1;
  to_kind = (end_of message.to).0;
  to = (end_of message.to).1;
  line = message.line;
  pts = (carried_by message.body).pts;
  has_version = flag (is_some (carried_by message.body).version);
  version = unwrap_or (carried_by message.body).version 0;
  wts = (carried_by message.body).wts;
  rts = (carried_by message.body).rts;
  words = (carried_by message.body).words;
}

-- 0 without an open operation, 2 if its request is out, 1 if it isn't
abbrev pub open_of : ℕ → Option (Op × Bool) → PlainOpen
open_of core None = record { state = 0; operation = record { core = 0; kind = 0; address = 0; value = 0 } }
open_of core (Some x) = record { state = if x.1 then 2 else 1; operation = plain_op core x.0 }

-- a line of a bank
abbrev pub place_of : Option (ℕ × ℕ) → Place
place_of None = record { is_there = 0; bank = 0; line = 0 }
place_of (Some x) = record { is_there = 1; bank = x.0; line = x.1 }

-- a line of a core's cache
abbrev pub victim_of : Option ℕ → Place
victim_of None = record { is_there = 0; bank = 0; line = 0 }
victim_of (Some line) = record { is_there = 1; bank = 0; line = line }

-- What a run did, in numbers: lines, or members.
use Rattle.std.specs.Prelude.{ℕ, zero, suc, ◌+◌, ◌*◌, List, [], ◌++◌, Option, Some, None, codes, decimal}
use Rattle.event_counts.specs.Counting.{EventCounts}
use Rattle.event_counts.specs.declared.part_counts.CoreCounts.{CoreCounts}
use Rattle.event_counts.specs.declared.part_counts.PartCounts.{PartCounts}
use Rattle.event_counts.specs.declared.kind_counts.KindCounts.{KindCounts}
use Rattle.report_lines.specs.declared.layout.Layout.{Layout}
use Rattle.report_lines.specs.declared.layout.Layout.TheVariants.{Lines, Json}
use Rattle.report_lines.specs.Layouts.{either, list_closing, parted}
use Rattle.report_lines.specs.Lines.{field}
use Rattle.report_lines.specs.Members.{newline}

-- a name and a number, behind what opens the name
unfoldable pub named : Layout → List ℕ → ℕ → List ℕ
named layout name n = name ++ either layout (codes " ") (codes "\":") ++ decimal n

-- the same behind another number
unfoldable pub next_named : Layout → List ℕ → ℕ → List ℕ
next_named layout name n = either layout (codes " ") (codes ",\"") ++ named layout name n

-- a kind of message and how many were sent, if any were
abbrev pub kind_text : Layout → List ℕ → ℕ → List ℕ
kind_text layout name zero = []
kind_text layout name (suc n) = next_named layout name (suc n)

-- the kinds between cores and banks, requests and replies to them
abbrev pub asked_text : Layout → KindCounts → List ℕ
asked_text layout n = kind_text layout (codes "ShReq") n.sh_req
    ++ kind_text layout (codes "ExReq") n.ex_req
    ++ kind_text layout (codes "ShRep") n.sh_rep
    ++ kind_text layout (codes "ExRep") n.ex_rep
    ++ kind_text layout (codes "RenewRep") n.renew_rep
    ++ kind_text layout (codes "UpgradeRep") n.upgrade_rep

-- recalls and what they return
abbrev pub recalled_text : Layout → KindCounts → List ℕ
recalled_text layout n = kind_text layout (codes "FlushReq") n.flush_req
    ++ kind_text layout (codes "WbReq") n.wb_req
    ++ kind_text layout (codes "FlushRep") n.flush_rep
    ++ kind_text layout (codes "WbRep") n.wb_rep

-- the kinds between a bank and its DRAM
abbrev pub dram_text : Layout → KindCounts → List ℕ
dram_text layout n = kind_text layout (codes "DramLd") n.dram_ld
    ++ kind_text layout (codes "DramLdRep") n.dram_ld_rep
    ++ kind_text layout (codes "DramSt") n.dram_st
    ++ kind_text layout (codes "DramStRep") n.dram_st_rep

-- the messages by kind
abbrev pub sent_text : Layout → KindCounts → List ℕ
sent_text layout n = asked_text layout n ++ recalled_text layout n ++ dram_text layout n

-- before the first number of a part: in a line the part's name and number
unfoldable pub part_text : Layout → List ℕ → ℕ → List ℕ
part_text Lines part number = part ++ decimal number ++ codes " "
part_text Json part number = codes "{\""

-- the operations of a core that completed
abbrev pub done_text : Layout → CoreCounts → List ℕ
done_text layout n = named layout (codes "loads") n.loads
    ++ next_named layout (codes "stores") n.stores
    ++ next_named layout (codes "swaps") n.swaps

-- which of them were hits, and the misses by their causes
abbrev pub found_text : Layout → CoreCounts → List ℕ
found_text layout n = next_named layout (codes "hits") n.hits
    ++ next_named layout (codes "cold") n.cold
    ++ next_named layout (codes "evicted") n.evicted
    ++ next_named layout (codes "recalled") n.recalled
    ++ next_named layout (codes "ended") n.ended
    ++ next_named layout (codes "shared") n.shared

-- what became of a core's copies, the deliveries to it that were held or dropped, and its time
abbrev pub copies_text : Layout → CoreCounts → List ℕ
copies_text layout n = next_named layout (codes "evictions") n.part.evictions
    ++ next_named layout (codes "returns") n.returns
    ++ next_named layout (codes "reloads") n.reloads
    ++ next_named layout (codes "held") n.part.held
    ++ next_named layout (codes "dropped") n.part.dropped
    ++ next_named layout (codes "time") n.last_time

-- a core: its line, or an object
unfoldable pub core_text : Layout → ℕ → CoreCounts → List ℕ
core_text layout core n = part_text layout (codes "core ") core ++ done_text layout n ++ found_text layout n
    ++ copies_text layout n ++ sent_text layout n.part.sent ++ either layout newline (codes "}")

-- a bank
unfoldable pub bank_text : Layout → ℕ → PartCounts → List ℕ
bank_text layout bank n = part_text layout (codes "bank ") bank ++ named layout (codes "evictions") n.evictions
    ++ next_named layout (codes "held") n.held ++ next_named layout (codes "dropped") n.dropped
    ++ sent_text layout n.sent ++ either layout newline (codes "}")

-- the events, and the deliveries that were held or dropped; no member stands before these
abbrev pub totals_text : Layout → EventCounts → List ℕ
totals_text layout n = either layout [] (codes "\"") ++ named layout (codes "events") n.events
    ++ either layout newline []
    ++ field layout (codes "held") n.held
    ++ field layout (codes "dropped") n.dropped

-- the cores, and the banks
abbrev pub cores_text : Layout → List CoreCounts → List ℕ
cores_text layout cores =
    either layout [] (codes ",\"cores\":[") ++ parted layout (core_text layout) 0 cores ++ list_closing layout

abbrev pub banks_text : Layout → List PartCounts → List ℕ
banks_text layout banks =
    either layout [] (codes ",\"banks\":[") ++ parted layout (bank_text layout) 0 banks ++ list_closing layout

-- all that is counted
unfoldable pub counted_text : Layout → EventCounts → List ℕ
counted_text layout n = totals_text layout n ++ cores_text layout n.cores ++ banks_text layout n.banks

-- what a row begins with
unfoldable pub row_opening : Layout → List ℕ
row_opening layout = either layout (codes "row ") (codes "{\"completed\":")

-- before the counts of a row: how many operations had completed
unfoldable pub completed_text : Layout → ℕ → List ℕ
completed_text layout completed = row_opening layout ++ decimal completed ++ either layout newline (codes ",")

-- a row, by its number: how many operations had completed, and what was counted by then
unfoldable pub row_text : Layout → (every row : ℕ) → EventCounts → List ℕ
row_text layout every row n =
    completed_text layout (every * (row + 1)) ++ counted_text layout n ++ either layout [] (codes "}")

-- the rows, each `every` operations, if there are to be any
unfoldable pub rows_text : Layout → (every : Option ℕ) → List EventCounts → List ℕ
rows_text layout None rows = []
rows_text layout (Some every) rows =
    either layout [] (codes ",\"rows\":[") ++ parted layout (row_text layout every) 0 rows ++ list_closing layout

-- what the counts at the end begin with: in an object they are a member
unfoldable pub end_opening : Layout → List ℕ
end_opening layout = either layout [] (codes ",\"counts\":{")

-- the counts at the end
unfoldable pub end_counts_text : Layout → EventCounts → List ℕ
end_counts_text layout n = end_opening layout ++ counted_text layout n ++ either layout [] (codes "}")

-- the rows, and the counts at the end: in an object members behind the others
unfoldable pub event_counts_text : Layout → (every : Option ℕ) → List EventCounts → EventCounts → List ℕ
event_counts_text layout every rows n = rows_text layout every rows ++ end_counts_text layout n

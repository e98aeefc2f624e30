use Rattle.std.proofs.Common.{◌≡◌, ◌++◌, drop, codes, []}
use Rattle.report_lines.specs.Layouts.{either, parted}
use Rattle.trace_texts.specs.CountLines.{row_text}
use Rattle.trace_texts.proofs.count_lines.put_count_rows.Given as goal

-- those so far and those that are left are all
abbrev pub invariant-loop-row : goal.invariant-loop-row
invariant-loop-row l =
    l.out.items ++ parted l.layout (row_text l.layout l.every) l.row (drop l.row l.rows) ≡ (l.fn.out.items
    ++ either l.layout [] (codes ",\"rows\":[")) ++ parted l.layout (row_text l.layout l.every) 0 l.rows

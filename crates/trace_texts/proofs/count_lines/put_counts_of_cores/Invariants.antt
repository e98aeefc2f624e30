use Rattle.std.proofs.Common.{◌≡◌, ◌++◌, drop, codes, []}
use Rattle.report_lines.specs.Layouts.{either, parted}
use Rattle.trace_texts.specs.CountLines.{core_text}
use Rattle.trace_texts.proofs.count_lines.put_counts_of_cores.Given as goal

-- those so far and those that are left are all
abbrev pub invariant-loop-core : goal.invariant-loop-core
invariant-loop-core l =
    l.out.items ++ parted l.layout (core_text l.layout) l.core (drop l.core l.cores) ≡ (l.fn.out.items
    ++ either l.layout [] (codes ",\"cores\":[")) ++ parted l.layout (core_text l.layout) 0 l.cores

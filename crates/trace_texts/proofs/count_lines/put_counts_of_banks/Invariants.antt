use Rattle.std.proofs.Common.{◌≡◌, ◌++◌, drop, codes, []}
use Rattle.report_lines.specs.Layouts.{either, parted}
use Rattle.trace_texts.specs.CountLines.{bank_text}
use Rattle.trace_texts.proofs.count_lines.put_counts_of_banks.Given as goal

-- those so far and those that are left are all
abbrev pub invariant-loop-bank : goal.invariant-loop-bank
invariant-loop-bank l =
    l.out.items ++ parted l.layout (bank_text l.layout) l.bank (drop l.bank l.banks) ≡ (l.fn.out.items
    ++ either l.layout [] (codes ",\"banks\":[")) ++ parted l.layout (bank_text l.layout) 0 l.banks

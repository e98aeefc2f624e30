use Rattle.std.proofs.Common.{◌≡◌, ◌++◌, drop, codes, []}
use Rattle.report_lines.specs.Layouts.{either, parted}
use Rattle.report_lines.specs.Lines.{value_text}
use Rattle.trace_texts.proofs.reports.put_word_values.Given as goal

-- those so far and those that are left are all
abbrev pub invariant-loop-at : goal.invariant-loop-at
invariant-loop-at l =
    l.out.items ++ parted l.layout (λ at v. value_text l.layout v.0 v.1) l.at (drop l.at l.values) ≡ (l.fn.out.items
    ++ either l.layout [] (codes ",\"words\":{")) ++ parted l.layout (λ at v. value_text l.layout v.0 v.1) 0 l.values

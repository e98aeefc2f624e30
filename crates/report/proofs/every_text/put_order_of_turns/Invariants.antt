use Rattle.std.proofs.Common.{◌≡◌, ◌==◌, ◌++◌, take, drop, codes, true, []}
use Rattle.report_lines.specs.Layouts.{either}
use Rattle.report.specs.EveryText.{turns_text}
use Rattle.report.proofs.every_text.put_order_of_turns.Given as goal

-- the turns so far and those that are left are all
abbrev pub invariant-loop-at : goal.invariant-loop-at
invariant-loop-at l =
    l.out.items ++ turns_text l.layout (l.at == 0) (take l.at l.order) (drop l.at l.order)
    ≡ (l.fn.out.items ++ either l.layout (codes "  ") (codes ",\"order\":[")) ++ turns_text l.layout true [] l.order

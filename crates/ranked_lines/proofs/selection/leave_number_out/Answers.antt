use Rattle.std.proofs.Common.{◌≡◌, filter, not, rules, sym, ap, ◌∙◌}
use Rattle.std.proofs.lemmas.Fn.{filter_same}
use Rattle.ranked_lines.specs.Rising.{all_but, is_but}
use Rattle.ranked_lines.proofs.SortedLists.{all_but-none}
use Rattle.ranked_lines.proofs.selection.leave_number_out.Goals as goal

pub returns-in_default : goal.returns-in_default
returns-in_default c =
    sym (ap (λ but. all_but but c.args.numbers.now.items) c.in_default.is ∙ all_but-none c.args.numbers.now.items)

pub returns : goal.returns
returns c =
    let kept : c.retain.new.self.items ≡ filter (λ x. not (is_but c.args.but.now x)) c.args.numbers.now.items =
    filter_same _ _ _ (λ x b f' k. search rules) _ _ c.retain.ensures.filtered in
    kept

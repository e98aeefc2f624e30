use Rattle.std.proofs.Common.{◌≡◌, filter, is_some, rules}
use Rattle.std.proofs.lemmas.Fn.{filter_same}
use Rattle.network.proofs.SlotChanges.{still_there-filter, IsRising-filter, length-filter_full}
use Rattle.network.proofs.slots.drop_all_empty_slots.Goals as goal

pub returns-clause-same : goal.returns-clause-same
returns-clause-same c =
    let kept : c.retain.new.self.items ≡ filter (λ x. is_some x.1) c.args.slots.now.items =
    filter_same _ _ _ (λ x b f' k. search rules) _ _ c.retain.ensures.filtered in
    rw kept (still_there-filter c.args.slots.now.items)

pub returns-clause-rising : goal.returns-clause-rising
returns-clause-rising c = λ high rising.
    let kept : c.retain.new.self.items ≡ filter (λ x. is_some x.1) c.args.slots.now.items =
    filter_same _ _ _ (λ x b f' k. search rules) _ _ c.retain.ensures.filtered in
    rw kept (IsRising-filter 0 high (λ x. is_some x.1) c.args.slots.now.items rising)

pub returns-clause-long : goal.returns-clause-long
returns-clause-long c =
    let kept : c.retain.new.self.items ≡ filter (λ x. is_some x.1) c.args.slots.now.items =
    filter_same _ _ _ (λ x b f' k. search rules) _ _ c.retain.ensures.filtered in
    rw kept (let many = length-filter_full c.args.slots.now.items in many)

use Rattle.std.proofs.Common.{ℕ, List, ap, ◌∙◌, refl}
use Rattle.sequential_machine.specs.Turns.{words_after, value_for}
use Rattle.std.proofs.lemmas.Result.{IfOk-weaker}
use Rattle.sequential_ends.proofs.Packing.{list_there, turned_packed}
use Rattle.sequential_ends.proofs.layers.row_after_turn.Goals as goal

pub returns : goal.returns
returns c = λ p t lt w l e.
    let parts = c.split_first_list.ensures.split _ _ (e ∙ list_there p.received t lt) in
    let after = c.in_ok-after.ensures in
    IfOk-weaker c.row_with_received.result _ _ (λ row is. is ∙ turned_packed p t c.args.op c.deref.result.now
    c.args.lists.now
    c.args.left.now _ c.split_first_list.result.0.now c.split_first_list.result.1.now c.in_ok-after.value lt
    (c.deref.ensures.value ∙ after.0 ∙ ap (λ (ws : List ℕ). words_after ws c.args.op) w)
    (after.1 ∙ ap (λ (ws : List ℕ). value_for ws c.args.op) w) l e refl parts.0 parts.1) c.row_with_received.ensures

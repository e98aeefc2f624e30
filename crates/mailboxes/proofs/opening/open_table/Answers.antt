use Rattle.std.proofs.Common.{ℕ, ◌∙◌, List, sym, subst, replicate, None}
use Rattle.atomic_table.specs.Table.{opening}
use Rattle.seat_views.specs.Seated.{first_view}
use Rattle.seat_rule.specs.declared.views.SetUp.{SetUp}
use Rattle.seat_rule.specs.Rule.{Holds, slot_count, opening_hold}
use Rattle.mailboxes.proofs.opening.open_table.Goals as goal

pub vacant-requires : goal.vacant-requires
vacant-requires c =
    let z : SetUp = c.args.set_up in
    subst
    (λ (ws : List ℕ). Holds z (opening ws (replicate (slot_count z) None) (first_view (opening_hold z 0))))
    (sym (c.as_slice.ensures.value ∙ c.in_ok-words.ensures.items_if_clones_equal (λ y e. e)))
    (c.opened_machines_keep_the_rule.ensures z c.requires)

use Rattle.std.proofs.Common.{sym, subst}
use Rattle.atomic_table.specs.Table.{Splits}
use Rattle.seat_views.specs.Seated.{one_more, seat_view}
use Rattle.seat_rule.specs.declared.views.SetUp.{SetUp}
use Rattle.seat_rule.specs.Rule.{Holds, seat_count, slot_count, from_of, to_of, opening_hold}
use Rattle.seat_rule.proofs.CountSteps.{splitting, joining}
use Rattle.seat_rule.proofs.laws.made_and_joined_seats_keep_the_rule.Goals as goal

pub returns-clause-made : goal.returns-clause-made
returns-clause-made c =
    λ z id v aim same live some more.
    subst (λ (y : SetUp). Splits (Holds z) id v (one_more v) (seat_view v.made (opening_hold y v.made))) (sym same)
    (splitting z (seat_count z) (from_of z) (to_of z) (slot_count z) id v live some more)

pub returns-clause-joined : goal.returns-clause-joined
returns-clause-joined c =
    λ z id v other u. joining z (seat_count z) (from_of z) (to_of z) (slot_count z) id v other u

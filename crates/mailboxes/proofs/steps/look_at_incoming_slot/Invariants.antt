use Rattle.seat_rule.specs.Rule.{no_hold}
use Rattle.seat_views.specs.Seated.{first_view}
use Rattle.mailboxes.proofs.steps.look_at_incoming_slot.Given as goal

abbrev pub ghosts-look_at_incoming_slot_as : goal.ghosts-look_at_incoming_slot_as
ghosts-look_at_incoming_slot_as a = record { set_up = a.table.now.key; to = first_view no_hold }

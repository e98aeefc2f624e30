-- The records are those that are told, and the opening is that of the machine that was made.
use Rattle.std.proofs.Common.{◌∙◌, ap}
use Rattle.machine_table.specs.Machine.{Machine}
use Rattle.guide_uses.proofs.Opened.{opened_on_zeros}
use Rattle.guide_uses.proofs.drive.first_store.Goals as goal

pub returns : goal.returns
returns c =
    opened_on_zeros _ _ _ _
    (c.in-Ok.ensures.set_up.opening ∙ ap (λ (m : Machine). m.opening) c.in_ok-system.ensures.opened ∙ c.new.ensures)
    c.records-legal.ensures.records c.records-legal.ensures.legal

use Rattle.std.proofs.Common.{◌&&◌, Bool, cond, not, ap, ◌∙◌}
use Rattle.interleaving_core.proofs.MaskedCores.{trying_noted}
use Rattle.interleaving_core.proofs.core_masks.update_masks_after_delivery.Goals as goal

pub returns : goal.returns
returns c cores old here same are =
    trying_noted c.args.masks.now cores c.args.number old c.args.core.now here are same c.with_bit-masks.result
    (c.with_bit-masks.ensures.here ∙ ap (λ (x : Bool × Bool). cond (x.0 && not x.1) 1 0) c.open_status-is_open.ensures)
    c.with_bit-masks.ensures.elsewhere

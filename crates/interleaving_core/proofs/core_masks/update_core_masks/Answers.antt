use Rattle.std.proofs.Common.{◌&&◌, Bool, cond, not, ap, ◌∙◌}
use Rattle.interleaving_core.proofs.MaskedCores.{masks_noted}
use Rattle.interleaving_core.proofs.core_masks.update_core_masks.Goals as goal

pub returns : goal.returns
returns c cores old here are =
    masks_noted c.args.masks.now cores c.args.number old c.args.core.now here are c.with_bit-masks.result
    c.with_bit-masks-2.result
    (c.with_bit-masks.ensures.here ∙ ap (λ (x : Bool × Bool). cond (not x.0) 1 0) c.open_status-is_open.ensures)
    c.with_bit-masks.ensures.elsewhere
    (c.with_bit-masks-2.ensures.here
    ∙ ap (λ (x : Bool × Bool). cond (x.0 && not x.1) 1 0) c.open_status-is_open.ensures)
    c.with_bit-masks-2.ensures.elsewhere

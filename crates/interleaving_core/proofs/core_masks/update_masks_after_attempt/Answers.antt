use Rattle.std.proofs.Common.{◌≡◌, true, Option, None, cond, ap, sym, subst, ◌∙◌}
use Rattle.std.specs.Prelude.{◌&&◌, is_some, not}
use Rattle.physiological_order.specs.declared.operation.Op.{Op}
use Rattle.core_pts.specs.CoreTable.{CoreState}
use Rattle.machine_table.specs.declared.event.Answer.{Answer}
use Rattle.interleaving_core.specs.PartChanges.{StandsAfter}
use Rattle.interleaving_core.proofs.MaskedCores.{masks_noted, none_out, still_masked, stands_same, trying_noted}
use Rattle.interleaving_core.proofs.core_masks.update_masks_after_attempt.Goals as goal

pub returns-in-Completed : goal.returns-in-Completed
returns-in-Completed c cores old core here stands are =
    let closed : core.open_op ≡ None = subst (λ (a : Answer). StandsAfter a old core) c.in-Completed.is stands in
    let idle = c.with_bit-masks in
    let trying = c.with_bit-masks-in-Completed in
    masks_noted c.args.masks.now cores c.args.number old core here are idle.result trying.result
    (idle.ensures.here ∙ ap (λ (o : Option Op). cond (not (is_some o)) 1 0) (sym closed)) idle.ensures.elsewhere
    (trying.ensures.here ∙ ap (λ (o : Option Op). cond (is_some o && not core.is_out) 1 0) (sym closed))
    trying.ensures.elsewhere

pub returns-in-Requested : goal.returns-in-Requested
returns-in-Requested c cores old core here stands are =
    let out : core ≡ record old { is_out = true } =
    subst (λ (a : Answer). StandsAfter a old core) c.in-Requested.is stands in
    let told = c.with_bit-masks-in-Requested in
    trying_noted c.args.masks.now cores c.args.number old core here are (ap (λ (x : CoreState). x.open_op) out)
    told.result
    (told.ensures.here ∙ none_out (is_some old.open_op)
    ∙ ap (λ (x : CoreState). cond (is_some x.open_op && not x.is_out) 1 0) (sym out))
    told.ensures.elsewhere

pub returns-in_default : goal.returns-in_default
returns-in_default c cores old core here stands are =
    let same = stands_same c.args.answer.now old core c.in_default.not-Completed c.in_default.not-Requested stands in
    still_masked c.args.masks.now cores c.args.number old core here are (ap (λ (x : CoreState). x.open_op) same)
    (ap (λ (x : CoreState). x.is_out) same)

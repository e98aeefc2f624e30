use Rattle.std.proofs.Common.{ap, sym, ◌∙◌}
use Rattle.std.specs.FinMap.{get}
use Rattle.event_counts.specs.Losses.{key_of}
use Rattle.event_counts.proofs.HashedMaps.{get_hashed}
use Rattle.event_counts.proofs.lost_copies.LostCopies.loss.Goals as goal

pub returns : goal.returns
returns c =
    let key = key_of c.args.core c.args.line in
    let value = rw c.key_of_copy.ensures at c.get.ensures.value in
    c.copied.ensures ∙ value ∙ sym (get_hashed c.self.inside.hash.entries key)
    ∙ ap (λ copies. get copies.lost key) c.self.view_is

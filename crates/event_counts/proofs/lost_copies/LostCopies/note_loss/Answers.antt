use Rattle.std.proofs.Common.{ap, ◌∙◌}
use Rattle.std.specs.FinMap.{insert}
use Rattle.event_counts.specs.Losses.{key_of}
use Rattle.event_counts.proofs.HashedMaps.{changed_hashed}
use Rattle.event_counts.proofs.lost_copies.LostCopies.note_loss.Goals as goal

pub returns : goal.returns
returns c =
    let key = key_of c.args.core c.args.line in
    let updates = rw (c.unwrap-before.ensures, c.key_of_copy.ensures) at c.insert-stored.ensures.updates in
    changed_hashed c.self.inside.hash.entries c.insert-stored.new.self.entries key c.args.why updates.0
    ∙ ap (λ copies. insert copies.lost key c.args.why) c.self.view_is

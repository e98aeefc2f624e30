use Rattle.std.proofs.Common.{ap, ◌∙◌}
use Rattle.event_counts.proofs.HashedMaps.{same_hashed}
use Rattle.event_counts.proofs.lost_copies.LostCopies.reserve.Goals as goal

pub returns-clause-same : goal.returns-clause-same
returns-clause-same c =
    same_hashed c.self.inside.hash.entries c.reserve.new.self.entries c.reserve.ensures.entries.2
    ∙ ap (λ copies. copies.lost) c.self.view_is

use Rattle.std.proofs.Common.{ap, sym, ◌∙◌}
use Rattle.std.specs.FinMap as map
use Rattle.number_map.proofs.HashedMaps.{get_hashed}
use Rattle.number_map.proofs.number_map.NumberMap.get.Goals as goal

pub returns : goal.returns
returns g c = c.copied.ensures ∙ c.get.ensures.value ∙ sym (get_hashed c.self.inside.hash.entries c.args.key)
    ∙ ap (λ m. map.get m c.args.key) c.self.view_is

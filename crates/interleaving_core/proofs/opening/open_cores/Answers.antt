use Rattle.std.proofs.Common.{◌++◌, [], ◌∷◌, ap₂, ◌∙◌, sym, subst}
use Rattle.line_sets.specs.Geometry.{IsGeometry}
use Rattle.private_cache.specs.declared.cache.Geometry.{Geometry}
use Rattle.core_pts.specs.SetUp.{IsInRange}
use Rattle.core_pts.specs.CoreTable.{opened}
use Rattle.interleaving_core.proofs.GoodRanges.{cache_geometry, core_in_range}
use Rattle.interleaving_core.proofs.PartRows.{next_core}
use Rattle.interleaving_core.proofs.opening.open_cores.Goals as goal

pub new-requires-clause-config : goal.new-requires-clause-config
new-requires-clause-config c =
    subst IsInRange (sym c.core_config-core.ensures)
    (core_in_range c.args.config c.requires c.loop-number.number c.loop-number-test.true)

pub new-requires-clause-geometry : goal.new-requires-clause-geometry
new-requires-clause-geometry c =
    subst (λ (shape : Geometry). IsGeometry shape.sets shape.ways) (sym c.private_cache_geometry.ensures)
    (cache_geometry c.args.config c.requires)

pub loop-number-preserved : goal.loop-number-preserved
loop-number-preserved c =
    let core = c.in_ok-new.ensures ∙ ap₂ opened c.core_config-core.ensures c.private_cache_geometry.ensures in
    c.in_ok-push.ensures.items ∙ ap₂ (λ xs x. xs ++ x ∷ []) c.loop-number.invariant core
    ∙ next_core c.args.config c.loop-number.number

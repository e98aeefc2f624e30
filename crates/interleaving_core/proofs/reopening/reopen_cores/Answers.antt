use Rattle.std.proofs.Common.{◌++◌, [], ◌∷◌, ap₂, length-set, ◌∙◌, arith, sym, subst}
use Rattle.std.proofs.lemmas.List.{take_more_set}
use Rattle.line_sets.specs.Geometry.{IsGeometry}
use Rattle.private_cache.specs.declared.cache.Geometry.{Geometry}
use Rattle.core_pts.specs.SetUp.{IsInRange}
use Rattle.core_pts.specs.CoreTable.{opened}
use Rattle.interleaving_core.proofs.GoodRanges.{cache_geometry, core_in_range}
use Rattle.interleaving_core.proofs.PartRows.{next_core}
use Rattle.interleaving_core.proofs.reopening.reopen_cores.Goals as goal

pub reopen-requires-clause-config : goal.reopen-requires-clause-config
reopen-requires-clause-config c =
    subst IsInRange (sym c.core_config.ensures)
    (core_in_range c.args.config c.requires.good c.loop-at.at
    (omega (arith, c.loop-at-test.true, c.loop-at.invariant.1, c.requires.count)))

pub reopen-requires-clause-geometry : goal.reopen-requires-clause-geometry
reopen-requires-clause-geometry c =
    subst (λ (shape : Geometry). IsGeometry shape.sets shape.ways) (sym c.private_cache_geometry.ensures)
    (cache_geometry c.args.config c.requires.good)

pub loop-at-preserved : goal.loop-at-preserved
loop-at-preserved c = (
  take_more_set c.loop-at.cores.items c.loop-at.at c.reopen.new.self
      (omega (arith, c.loop-at-test.true, c.loop-at.invariant.1))
      ∙ ap₂ (λ xs x. xs ++ x ∷ []) c.loop-at.invariant.0
      (c.in_ok-reopen.ensures.opened ∙ ap₂ opened c.core_config.ensures c.private_cache_geometry.ensures)
      ∙ next_core c.args.config c.loop-at.at,
  length-set c.loop-at.cores.items c.loop-at.at c.reopen.new.self ∙ c.loop-at.invariant.1,
)

use Rattle.std.proofs.Common.{◌++◌, [], ◌∷◌, ap, ap₂, length-set, ◌∙◌, arith, sym, subst}
use Rattle.std.proofs.lemmas.List.{take_more_set}
use Rattle.line_sets.specs.Geometry.{IsGeometry}
use Rattle.llc_bank.specs.declared.config.BankConfig.{BankConfig}
use Rattle.llc_bank.specs.SetUp.{IsInRange}
use Rattle.llc_bank.specs.BankTable.{empty_bank}
use Rattle.interleaving_core.proofs.GoodRanges.{bank_geometry, bank_in_range}
use Rattle.interleaving_core.proofs.PartRows.{next_bank}
use Rattle.interleaving_core.proofs.reopening.reopen_banks.Goals as goal

pub reopen-requires-clause-config : goal.reopen-requires-clause-config
reopen-requires-clause-config c =
    subst IsInRange (sym c.bank_config.ensures)
    (bank_in_range c.args.config c.requires.good c.loop-at.at
    (omega (arith, c.loop-at-test.true, c.loop-at.invariant.1, c.requires.count)))

pub reopen-requires-clause-geometry : goal.reopen-requires-clause-geometry
reopen-requires-clause-geometry c =
    subst (λ (bank : BankConfig). IsGeometry bank.sets bank.ways) (sym c.bank_config.ensures)
    (bank_geometry c.args.config c.requires.good)

pub loop-at-preserved : goal.loop-at-preserved
loop-at-preserved c = (
  take_more_set c.loop-at.banks.items c.loop-at.at c.reopen.new.self
      (omega (arith, c.loop-at-test.true, c.loop-at.invariant.1))
      ∙ ap₂ (λ xs x. xs ++ x ∷ []) c.loop-at.invariant.0
      (c.in_ok-reopen.ensures.opened ∙ ap empty_bank c.bank_config.ensures)
      ∙ next_bank c.args.config c.loop-at.at,
  length-set c.loop-at.banks.items c.loop-at.at c.reopen.new.self ∙ c.loop-at.invariant.1,
)

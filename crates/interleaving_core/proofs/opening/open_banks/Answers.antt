use Rattle.std.proofs.Common.{◌++◌, [], ◌∷◌, ap, ap₂, ◌∙◌, sym, subst}
use Rattle.line_sets.specs.Geometry.{IsGeometry}
use Rattle.llc_bank.specs.declared.config.BankConfig.{BankConfig}
use Rattle.llc_bank.specs.SetUp.{IsInRange}
use Rattle.llc_bank.specs.BankTable.{empty_bank}
use Rattle.interleaving_core.proofs.GoodRanges.{bank_geometry, bank_in_range}
use Rattle.interleaving_core.proofs.PartRows.{next_bank}
use Rattle.interleaving_core.proofs.opening.open_banks.Goals as goal

pub new-requires-clause-config : goal.new-requires-clause-config
new-requires-clause-config c =
    subst IsInRange (sym c.bank_config.ensures)
    (bank_in_range c.args.config c.requires c.loop-number.number c.loop-number-test.true)

pub new-requires-clause-geometry : goal.new-requires-clause-geometry
new-requires-clause-geometry c =
    subst (λ (bank : BankConfig). IsGeometry bank.sets bank.ways) (sym c.bank_config.ensures)
    (bank_geometry c.args.config c.requires)

pub loop-number-preserved : goal.loop-number-preserved
loop-number-preserved c =
    let bank = c.in_ok-new.ensures ∙ ap empty_bank c.bank_config.ensures in
    c.in_ok-push.ensures.items ∙ ap₂ (λ xs x. xs ++ x ∷ []) c.loop-number.invariant bank
    ∙ next_bank c.args.config c.loop-number.number

use Rattle.std.proofs.Common.{◌≡◌, ◌/◌, ◌%◌, length, ap}
use Rattle.llc_bank.specs.BankTable.{BankState}
use Rattle.llc_bank.proofs.Sound.{home_set, sound-drop_line}
use Rattle.llc_bank.proofs.bank.Bank.drop_entry.Goals as goal

pub invariant_of-self : goal.invariant_of-self
invariant_of-self c =
    let is : c.args.set ≡ (c.line.inside.0 / c.self.inside.banks) % length c.self.inside.table.sets =
    home_set c.self.inside.banks c.self.inside.table c.args.self.now _ _ _ (ap (λ (b : BankState). b.banks)
    c.self.view_is) (ap (λ (b : BankState). b.table) c.self.view_is) c.line.view_is c.requires.set in
    sound-drop_line c.self.inside.banks c.self.inside.table c.remove-entry.new.self c.args.set
    c.line.inside.0 c.self.invariant is c.remove-entry.ensures.after

use Rattle.std.proofs.Common.{◌≡◌, ◌<◌, List, ℕ, length, Some, IfOk, slice_get, sym, ap, ◌∙◌, subst}
use Rattle.ranked_lines.specs.Rising.{sorted}
use Rattle.line_sets.specs.SetTable.{all_listed}
use Rattle.ranked_lines.proofs.Lemmas.{all_but-none}
use Rattle.llc_bank.specs.BankTable.{BankState}
use Rattle.llc_bank.specs.Settled.{is_settled}
use Rattle.llc_bank.proofs.bank.Bank.settled_line.Goals as goal

pub nth_listed-requires : goal.nth_listed-requires
nth_listed-requires c =
    subst (λ (xs : List ℕ). c.args.at < length xs)
    (sym (all_but-none (all_listed is_settled c.self.inside.table.sets)
    ∙ ap (λ (bank : BankState). all_listed is_settled bank.table.sets) c.self.view_is)) c.requires

pub returns : goal.returns
returns c =
    subst (λ (xs : List ℕ). IfOk c.nth_listed.result (λ line. slice_get (sorted xs) c.args.at ≡ Some line))
    (all_but-none (all_listed is_settled c.self.inside.table.sets)
    ∙ ap (λ (bank : BankState). all_listed is_settled bank.table.sets) c.self.view_is) c.nth_listed.ensures

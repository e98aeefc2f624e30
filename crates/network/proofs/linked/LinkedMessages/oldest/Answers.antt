use Rattle.std.proofs.Common.{◌≡◌, ℕ, ◌∙◌, sym, ap, arith, option_map, None}
use Rattle.line_arena.specs.CellLists.{first_cell}
use Rattle.network.specs.declared.message.Message.{Message}
use Rattle.network.specs.LinkNumbers.{link_of, is_on}
use Rattle.network.specs.NumberedMessages.{still_there}
use Rattle.network.specs.Search.{is_between}
use Rattle.network.specs.Stored.{held, cell_messages}
use Rattle.network.proofs.LinkLaws.{link-between, link-low, none-between}
use Rattle.network.proofs.StoredMessages.{first-held, none-held, same-test}
use Rattle.network.proofs.linked.LinkedMessages.oldest.Goals as goal

pub returns-in_err-link : goal.returns-in_err-link
returns-in_err-link c =
    let xs = still_there c.self.inside.slots.items in
    let none : link_of c.self.inside.cores c.self.inside.banks c.args.from c.args.to ≡ None =
    sym c.link_of.ensures ∙ c.in_err-link.was in
    rw (← c.self.view_is, c.from_residual.ensures) (sym (ap (option_map (λ (x : ℕ × Message). x.0))
    (none-between _ _ c.args.from c.args.to (cell_messages c.self.inside.arena.lists xs) none
    c.self.invariant.linked.endpoints)))

pub front-requires : goal.front-requires
front-requires c =
    let low = link-low _ _ c.args.from c.args.to c.in_ok-link.link (sym c.link_of.ensures ∙ c.in_ok-link.was) in
    omega (arith, low, c.self.invariant.linked.many)

pub returns-in_err-cell : goal.returns-in_err-cell
returns-in_err-cell c =
    let a = c.self.inside in let ls = a.arena.lists in let xs = still_there a.slots.items in
    let l = c.in_ok-link.link in
    let link = sym c.link_of.ensures ∙ c.in_ok-link.was in
    let low = link-low _ _ c.args.from c.args.to l link in
    let each = c.self.invariant.linked.each l (omega (arith, low, c.self.invariant.linked.many)) in
    let none = none-held (is_on a.cores a.banks l) (held ls xs)
    (sym (ap first_cell each) ∙ sym c.front.ensures ∙ c.in_err-cell.was) in
    let same = same-test (is_on a.cores a.banks l) (is_between c.args.from c.args.to) (cell_messages ls xs)
    (link-between a.cores a.banks c.args.from c.args.to l link) in
    rw (← c.self.view_is, c.from_residual-in_err-cell.ensures)
    (sym (ap (option_map (λ (x : ℕ × Message). x.0)) (sym same ∙ none)))

pub get-requires : goal.get-requires
get-requires c =
    let a = c.self.inside in let ls = a.arena.lists in let xs = still_there a.slots.items in
    let l = c.in_ok-link.link in
    let link = sym c.link_of.ensures ∙ c.in_ok-link.was in
    let low = link-low _ _ c.args.from c.args.to l link in
    let each = c.self.invariant.linked.each l (omega (arith, low, c.self.invariant.linked.many)) in
    (first-held (is_on a.cores a.banks l) c.in_ok-cell.cell ls xs c.self.invariant.linked.placed
    (sym (ap first_cell each) ∙ sym c.front.ensures ∙ c.in_ok-cell.was)).0

pub returns : goal.returns
returns c =
    let a = c.self.inside in let ls = a.arena.lists in let xs = still_there a.slots.items in
    let l = c.in_ok-link.link in
    let link = sym c.link_of.ensures ∙ c.in_ok-link.was in
    let low = link-low _ _ c.args.from c.args.to l link in
    let each = c.self.invariant.linked.each l (omega (arith, low, c.self.invariant.linked.many)) in
    let first = first-held (is_on a.cores a.banks l) c.in_ok-cell.cell ls xs c.self.invariant.linked.placed
    (sym (ap first_cell each) ∙ sym c.front.ensures ∙ c.in_ok-cell.was) in
    let same = same-test (is_on a.cores a.banks l) (is_between c.args.from c.args.to) (cell_messages ls xs)
    (link-between a.cores a.banks c.args.from c.args.to l link) in
    rw (← c.self.view_is)
    (sym (ap (option_map (λ (x : ℕ × Message). x.0)) (sym same ∙ first.1 ∙ c.get.ensures)))

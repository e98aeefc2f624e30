use Rattle.std.proofs.Common.{ℕ, ◌&&◌, ◌∙◌, ◌+◌, ap, sym, arith, map, option_map, refl}
use Rattle.network.specs.declared.message.Message.{Message}
use Rattle.network.specs.LinkNumbers.{is_on, is_below}
use Rattle.network.specs.NumberedMessages.{still_there}
use Rattle.network.specs.Search.{earlier, first_message, is_store_of, with_message}
use Rattle.network.specs.Stored.{held, cell_messages}
use Rattle.network.proofs.FirstMessages.{first-either, first-filter, first-none}
use Rattle.network.proofs.FirstMessages.{more-below, none-below, stores-first}
use Rattle.network.proofs.SlotChanges.{IsRising-still_there}
use Rattle.network.proofs.StoredMessages.{messages-rising}
use Rattle.network.proofs.linked.LinkedMessages.store_of.Goals as goal

pub loop-bank-init : goal.loop-bank-init
loop-bank-init c =
    let a = c.self.inside in
    sym (first-none _ (cell_messages a.arena.lists (still_there a.slots.items))
    (λ m. none-below a.cores a.banks 0 (is_store_of c.args.line) m refl))

pub loop-bank-preserved : goal.loop-bank-preserved
loop-bank-preserved c =
    let a = c.self.inside in let ls = a.arena.lists in let xs = still_there a.slots.items in
    let bank = c.loop-bank.bank in let stores = is_store_of c.args.line in
    let each = c.self.invariant.linked.each bank (omega (arith, c.self.invariant.linked.many)) in
    let here = c.first_wanted_on_link.ensures
    ∙ ap (λ us. first_message stores (map (λ (h : ℕ × (ℕ × Message)). h.1) us)) each
    ∙ first-filter stores (is_on a.cores a.banks bank) (held ls xs) in
    let rising = messages-rising 0 a.next ls xs c.self.invariant.linked.placed
    (IsRising-still_there 0 a.next a.slots.items c.self.invariant.rising) in
    c.earlier_message-found.ensures ∙ ap (λ o. earlier o (option_map with_message c.first_wanted_on_link.result))
    c.loop-bank.invariant
    ∙ ap (earlier (first_message (λ m. stores m && is_below a.cores a.banks bank m) (cell_messages ls xs))) here
    ∙ first-either (λ m. stores m && is_below a.cores a.banks bank m) (λ m. is_on a.cores a.banks bank m && stores m)
    (λ m. stores m && is_below a.cores a.banks (bank + 1) m) 0 a.next (cell_messages ls xs) rising
    (λ m. more-below a.cores a.banks bank stores m)

pub returns-in_err-message : goal.returns-in_err-message
returns-in_err-message c =
    let a = c.self.inside in let xs = still_there a.slots.items in
    let first = stores-first a.cores a.banks c.loop-bank.bank c.args.line (cell_messages a.arena.lists xs)
    c.self.invariant.linked.endpoints (omega arith) ∙ sym c.loop-bank.invariant in
    rw (← c.self.view_is, c.from_residual.ensures) (sym (ap (option_map (λ (x : ℕ × Message). x.1)) (first
    ∙ ap (option_map with_message) c.in_err-message.was)))

pub returns : goal.returns
returns c =
    let a = c.self.inside in let xs = still_there a.slots.items in
    let first = stores-first a.cores a.banks c.loop-bank.bank c.args.line (cell_messages a.arena.lists xs)
    c.self.invariant.linked.endpoints (omega arith) ∙ sym c.loop-bank.invariant in
    rw (← c.self.view_is) (sym (ap (option_map (λ (x : ℕ × Message). x.1)) (first
    ∙ ap (option_map with_message) c.in_ok-message.was)))

use Rattle.std.proofs.Common.{◌≡◌, inl, inr, false, nat_lt, length, Some, None, is_some, refl, sym, ap, ◌∙◌}
use Rattle.std.proofs.Common.{arith, lt-ltb, le-ltb}
use Rattle.std.proofs.lemmas.Bool.{cases_lt}
use Rattle.line_arena.specs.Rings.{or_blank}
use Rattle.line_arena.specs.CellLists.{look_up}
use Rattle.line_arena.specs.Chains.{rings_of}
use Rattle.line_arena.specs.Arenas.{shown}
use Rattle.line_arena.proofs.Places.{found_is_held, listed_is_found, place}
use Rattle.line_arena.proofs.arena.Arena.holds.Goals as goal

pub returns-then-cell-self : goal.returns-then-cell-self
returns-then-cell-self g c =
    let s = c.self.inside.chains in let i = c.self.invariant in let x = c.cell.inside.0 in
    let none = i.uses.1 x c.if-cell-self.true in
    let look = look_up x (shown (rings_of s)) in
    let gone : false ≡ is_some look = elim look as (λ o. look ≡ o → false ≡ is_some o) [
      | None ↦ λ e. refl
      | Some v ↦ λ e. let two = sym none ∙ found_is_held s i x v e in cc
    ] refl in
    gone ∙ ap (λ a. is_some (look_up x a.lists)) c.self.view_is ∙ ap (λ y. is_some (look_up y c.args.self.now.lists))
    c.cell.view_is

pub returns : goal.returns
returns g c =
    let s = c.self.inside.chains in let i = c.self.invariant in let x = c.cell.inside.0 in
    let full = i.uses.0 x c.if-cell-self.false in let look = look_up x (shown (rings_of s)) in
    let n = full.0.list in let all = length s.heads.items in
    let same : nat_lt n all ≡ is_some look = elim (cases_lt n all) [
      | inl low ↦ lt-ltb n all low ∙ sym (listed_is_found s i x full.0 full.1 low)
      | inr past ↦ le-ltb n all past ∙ elim look as (λ o. look ≡ o → false ≡ is_some o) [
        | None ↦ λ e. refl
        | Some v ↦ λ e. let low = (place s i x v e).1 in
            let at = ap (λ o. (or_blank o).list) (sym full.1 ∙ found_is_held s i x v e) in
            absurd (omega (arith, low, at, past))
      ] refl
    ] in
    c.is_on_list.ensures full.0 full.1 ∙ same ∙ ap (λ a. is_some (look_up x a.lists)) c.self.view_is
    ∙ ap (λ y. is_some (look_up y c.args.self.now.lists)) c.cell.view_is

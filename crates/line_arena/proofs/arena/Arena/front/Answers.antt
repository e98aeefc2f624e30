use Rattle.std.proofs.Common.{[], length, get_or, if◌then◌else◌, Some, None, sym, ap, ◌∙◌, arith, ne_eqb}
use Rattle.line_arena.specs.Rings.{no_head}
use Rattle.line_arena.specs.CellLists.{first_cell}
use Rattle.line_arena.specs.Chains.{rings_of}
use Rattle.line_arena.proofs.Shows.{length-shown}
use Rattle.line_arena.proofs.Places.{front_is}
use Rattle.line_arena.proofs.arena.Arena.front.Goals as goal

pub returns : goal.returns
returns g c =
    let s = c.self.inside.chains in let i = c.self.invariant in let l = c.args.list in
    let rings_many = i.tied.tied.many in let long = length-shown (rings_of s) in
    let same = ap (λ a. length a.lists) c.self.view_is in let low = c.requires in
    let h = get_or s.heads.items l no_head in let some = c.if-count-eq0.false in let count = c.count.ensures in
    sym (ap (λ a. first_cell (get_or a.lists l [])) (sym c.self.view_is) ∙ front_is s i l (omega arith)
    ∙ ap (λ b. if b then None else Some h.first) (ne_eqb h.count 0 (λ e. absurd (omega (arith, e, count, some))))
    ∙ ap Some (sym c.first.ensures))

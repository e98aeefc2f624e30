use Rattle.std.proofs.Common.{◌≡◌, ◌-◌, ◌≤◌, ◌<◌, length, set, if◌then◌else◌, nat_lt, Some, None}
use Rattle.std.proofs.Common.{refl, sym, ap, subst, ◌∙◌, arith}
use Rattle.std.proofs.Common.{length-set}
use Rattle.std.proofs.lemmas.List.{get_or_read}
use Rattle.line_arena.specs.declared.node.Head.{Head}
use Rattle.line_arena.specs.Rings.{no_head, node, or_blank, at, with_next, with_prev, edit}
use Rattle.line_arena.specs.Filled.{IsFilled}
use Rattle.line_arena.proofs.Edits.{length-edit}
use Rattle.line_arena.proofs.EmptiedCells.{filled_back, edit_emptied, edit_item}
use Rattle.line_arena.proofs.Moves.{prev_near, next_near, some, found, detach_made, edit_filled, edit_on, Kept}
use Rattle.line_arena.proofs.Moves.{kept_set, kept_edit, total_down}
use Rattle.line_arena.proofs.chains.Chains.unlink_node.Goals as goal

pub set_next_cell-requires : goal.set_next_cell-requires
set_next_cell-requires g c =
    let s = c.args.self.now in let t = c.requires.tied.tied in let x = c.args.cell in let k =
    c.position_of_cell-links.result in
    let n = node k.prev k.next k.list (at s.block x).item in let here = c.position_of_cell-links.ensures in
    let on : k.list < length s.heads.items = rw (ap (λ o. (or_blank o).list) here) at c.requires.on in
    λ low. let near = prev_near s.block s.capacity s.heads.items t x n here on low in
    filled_back s.block x k.prev (near.0, near.1)

pub set_previous_cell-requires : goal.set_previous_cell-requires
set_previous_cell-requires g c =
    let s = c.args.self.now in let t = c.requires.tied.tied in let x = c.args.cell in let k =
    c.position_of_cell-links.result in
    let n = node k.prev k.next k.list (at s.block x).item in let here = c.position_of_cell-links.ensures in
    let on : k.list < length s.heads.items = rw (ap (λ o. (or_blank o).list) here) at c.requires.on in
    λ low. let near = next_near s.block s.capacity s.heads.items t x n here on low in
    subst (λ cs. IsFilled cs k.next) (sym c.set_next_cell.ensures.block) (edit_filled s.capacity (with_next k.next)
    s.block k.prev k.next t.cells (λ m. refl) (filled_back s.block x k.next (near.0, near.1)))

pub index_mut-head-requires : goal.index_mut-head-requires
index_mut-head-requires g c =
    let s = c.args.self.now in
    let on = rw (ap (λ o. (or_blank o).list) c.position_of_cell-links.ensures) at c.requires.on in
    omega (arith, on, s.heads.ok.0)

pub overflow_sub-head : goal.overflow_sub-head
overflow_sub-head g c =
    let s = c.args.self.now in let t = c.requires.tied.tied in let x = c.args.cell in let k =
    c.position_of_cell-links.result in
    let n = node k.prev k.next k.list (at s.block x).item in let here = c.position_of_cell-links.ensures in
    let on : k.list < length s.heads.items = rw (ap (λ o. (or_blank o).list) here) at c.requires.on in
    let is = get_or_read s.heads.items k.list c.index_mut-head.result.now on c.index_mut-head.ensures.value no_head in
    let count =
    ap (λ (h : Head). h.count) c.set_previous_cell.ensures.head
    ∙ ap (λ (h : Head). h.count) c.set_next_cell.ensures.head in
    subst (λ m. 1 ≤ m) (sym count) (subst (λ h. 1 ≤ h.count) (sym is)
    (some s.block s.capacity s.heads.items t x n here on))

pub returns : goal.returns
returns g c =
    let s = c.args.self.now in let t = c.requires.tied.tied in let x = c.args.cell in let k =
    c.position_of_cell-links.result in
    let cap = s.capacity in let hs = s.heads.items in let all = length hs in let h = c.index_mut-head.result.now in
    let n = node k.prev k.next k.list (at s.block x).item in let here = c.position_of_cell-links.ensures in
    let on : k.list < all = rw (ap (λ o. (or_blank o).list) here) at c.requires.on in
    let is = get_or_read hs k.list h on c.index_mut-head.ensures.value no_head in
    let q = c.set_previous_cell.new.head in
    let last : Head → Head = λ h. record h { last = if nat_lt k.next cap then h.last else k.prev } in
    let head = c.set_previous_cell.ensures.head ∙ ap last c.set_next_cell.ensures.head in
    let new = record q { count = q.count - 1 } in
    let lists = length-set hs k.list new in
    let some1 : 1 ≤ h.count = subst (λ q. 1 ≤ q.count) (sym is) (some s.block cap hs t x n here on) in
    let next = edit cap (with_next k.next) s.block k.prev in
    let long : length next ≡ cap = length-edit cap (with_next k.next) s.block k.prev ∙ t.cells in
    let took = set s.block x None in let long1 : length took ≡ cap = length-set s.block x None ∙ t.cells in
    let next1 = edit cap (with_next k.next) took k.prev in
    let long2 : length next1 ≡ cap = length-edit cap (with_next k.next) took k.prev ∙ long1 in
    let written =
    c.set_previous_cell.ensures.block ∙ ap (λ cs. edit cap (with_prev k.prev) cs k.next) c.set_next_cell.ensures.block
    in
    let cells = ap (λ cs. set cs x None) written ∙ edit_emptied cap (with_prev k.prev) next k.next x
    ∙ ap (λ cs. edit cap (with_prev k.prev) cs k.next) (edit_emptied cap (with_next k.next) s.block k.prev x) in
    let made = detach_made s.block cap hs t x n here on h q (set c.set_previous_cell.new.block x None) is head cells in
    let same = ap (λ cs. (at cs x).item) written ∙ edit_item cap (with_prev k.prev) (λ m. refl) next k.next x
    ∙ edit_item cap (with_next k.next) (λ m. refl) s.block k.prev x in
    record {
      tied = record {
        tied = made.0;
        small = (c.requires.tied.small.0, omega (arith, c.requires.tied.small.1, lists));
      };
      value = found s.block cap hs t x n here on ∙ ap (λ o. Some o) (sym same);
      lists = made.1;
      total = total_down hs k.list h new on is some1 (ap (λ h. h.count - 1) head);
      uses = (
        subst (Kept all x s.block) (sym cells)
            (kept_edit all k.list cap (with_prev k.prev) s.block next1 k.next x long2 (λ m. refl) on
            (λ low. edit_on cap (with_next k.next) took k.prev k.next k.list long1 (λ m. refl)
            (next_near s.block cap hs t x n here on low))
            (kept_edit all k.list cap (with_next k.next) s.block took k.prev x long1 (λ m. refl) on
            (prev_near s.block cap hs t x n here on) (kept_set all s.block x None))),
        subst (λ cs. IsFilled cs x) (sym written) (edit_filled cap (with_prev k.prev) next k.next x long (λ m. refl)
            (edit_filled cap (with_next k.next) s.block k.prev x t.cells (λ m. refl) (n, here))),
      );
      sizes = record { capacity = refl; used = refl; free = (refl, refl); lists = lists };
    }

use Rattle.std.proofs.Common.{◌≡◌, ◌+◌, length, set, if◌then◌else◌, nat_lt, Some, None, refl}
use Rattle.std.proofs.Common.{sym, ap, subst, ◌∙◌, arith, length-set}
use Rattle.std.proofs.Common.{get_or-set_same}
use Rattle.std.proofs.lemmas.List.{get_or_read, set-set}
use Rattle.std.proofs.lemmas.List.Sums.{sum_by-set}
use Rattle.line_arena.specs.declared.node.Head.{Head}
use Rattle.line_arena.specs.Rings.{no_head, node, at, with_next, edit}
use Rattle.line_arena.specs.Filled.{IsFilled}
use Rattle.line_arena.proofs.Moves.{attach_made, last_near, edit_filled, Kept, kept_set, kept_edit}
use Rattle.line_arena.proofs.chains.Chains.link_node_at_end.Goals as goal

pub set_next_cell-requires : goal.set_next_cell-requires
set_next_cell-requires g c =
    let s = c.args.self.now in let t = c.requires.tied.tied in let h = c.index_mut-head.result.now in let x =
    c.args.cell in
    let l = c.args.list in
    let n = node h.last (s.capacity + l) l (at s.block x).item in let long = length-set s.block x None in let cells =
    t.cells in
    let free = get_or-set_same s.block x None None (omega (arith, c.requires.cell.0, long, cells)) in
    let is = get_or_read s.heads.items l h c.requires.list c.index_mut-head.ensures.value no_head in
    λ low. let near = last_near (set s.block x None) s.capacity s.heads.items t l x h n c.requires.list free is low in
    subst (λ cs. IsFilled cs h.last) (sym (c.set_cell_links.ensures ∙ sym (set-set s.block x None (Some n))))
    (near.0, near.1)

pub returns : goal.returns
returns g c =
    let s = c.args.self.now in let t = c.requires.tied.tied in let h = c.index_mut-head.result.now in let x =
    c.args.cell in
    let l = c.args.list in let low = c.requires.list in let hs = s.heads.items in let cap = s.capacity in
    let it = (at s.block x).item in let n = node h.last (cap + l) l it in let gone = set s.block x None in
    let put = set gone x (Some n) in let all = length hs in let many = t.cells in
    let long1 = length-set s.block x None in let long : length put ≡ cap = length-set gone x (Some n) ∙ many in
    let free = get_or-set_same s.block x None None (omega (arith, c.requires.cell.0, long1, many)) in
    let is = get_or_read hs l h low c.index_mut-head.ensures.value no_head in
    let q = c.set_next_cell.new.head in let head = c.set_next_cell.ensures.head in
    let new = record q { last = x; count = q.count + 1 } in
    let lists = length-set hs l new in
    let cells = c.set_next_cell.ensures.block ∙ ap (λ cs. edit cap (with_next x) cs h.last) (c.set_cell_links.ensures
    ∙ sym (set-set s.block x None (Some n))) in
    let made = attach_made gone cap hs t l x it h q c.set_next_cell.new.block low c.requires.cell.0 free is head cells
    in
    record {
      tied = record {
        tied = made.0;
        small = (c.requires.tied.small.0, omega (arith, c.requires.tied.small.1, lists));
      };
      rings = made.1;
      total = (let changed = sum_by-set (λ (h : Head). h.count) hs l new no_head low in
          let same = ap (λ (h : Head). h.count) (head ∙ ap (λ (h : Head). record h {
            first = if nat_lt h.last cap then h.first else x;
          }) is) in omega (arith, changed, same));
      uses = subst (λ ds. Kept all x gone ds × IsFilled ds x) (sym cells) (
        kept_edit all l cap (with_next x) gone put h.last x long (λ m. refl) low
            (last_near gone cap hs t l x h n low free is) (kept_set all gone x (Some n)),
        edit_filled cap (with_next x) put h.last x long (λ m. refl) (
          n,
          get_or-set_same gone x (Some n) None (omega (arith, many, c.requires.cell.0)),
        ),
      );
      sizes = record { capacity = refl; used = refl; free = (refl, refl); lists = lists };
    }

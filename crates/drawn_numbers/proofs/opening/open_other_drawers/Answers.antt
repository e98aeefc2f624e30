use Rattle.std.proofs.Common.{◌≡◌, ℕ, ◌+◌, ◌≤◌, ◌++◌, [], ◌∷◌, List, length, length-append, sym, ap, subst}
use Rattle.std.proofs.Common.{arith, ◌∙◌}
use Rattle.seat_views.specs.Seated.{one_more}
use Rattle.drawn_numbers.specs.declared.drawer.Drawer.{Drawer}
use Rattle.drawn_numbers.specs.Drawers.{IsNewDrawer}
use Rattle.drawn_numbers.proofs.DrawerLists.{new_drawer, more_drawers}
use Rattle.drawn_numbers.proofs.opening.open_other_drawers.Goals as goal

pub make_seat-seat-requires-clause-table : goal.make_seat-seat-requires-clause-table
make_seat-seat-requires-clause-table c =
    let m = c.args.numbers.now in
    let i = c.loop-number.invariant in
    (i.0.0, m.sized.1, m.sized.2, subst (λ k. k ≤ 16) (sym m.keyed) m.sized.3)

pub make_seat-seat-requires-clause-more : goal.make_seat-seat-requires-clause-more
make_seat-seat-requires-clause-more c =
    let m = c.args.numbers.now in
    let i = c.loop-number.invariant in
    let v = ap (λ y. y.0.made) i.0.1 in
    let key = m.keyed in
    let more = c.loop-number-test.true in
    (ap (λ y. y.0.spent) i.0.1, omega arith, omega arith)

pub loop-number-preserved : goal.loop-number-preserved
loop-number-preserved c =
    let i = c.loop-number.invariant in
    let made = c.make_seat-seat.ensures in
    let m = c.args.numbers.now in
    let d : Drawer = c.new_drawer.result in
    let ds : List Drawer = c.loop-number.others.items in
    let new = c.new_drawer.ensures in
    let items : c.push.new.self.items ≡ ds ++ d ∷ [] = c.in_ok-push.ensures.items in
    let long : length c.push.new.self.items ≡ length ds + 1 = ap length items ∙ length-append ds (d ∷ []) in
    let n : ℕ = c.loop-number.number in
    let seat : IsNewDrawer m n d =
    new_drawer m n d c.make_seat-seat.result c.loop-number-test.true (made.table.2 ∙ i.0.0) new.0 new.1 new.2 in (
      (made.table.0 ∙ i.0.0, made.made.0 ∙ ap (λ y. (one_more y.0, y.1)) i.0.1),
      omega arith,
      omega arith,
      more_drawers m 1 ds c.push.new.self.items d items i.3 (subst (λ k. IsNewDrawer m k d) (omega arith) seat),
    )

use Rattle.std.proofs.Common.{◌≡◌, ◌+◌, List, ◌∷◌, length, sym, subst, ap, arith}
use Rattle.std.specs.Prelude.{slice_index_or}
use Rattle.drawn_numbers.specs.declared.drawer.Drawer.{Drawer}
use Rattle.drawn_numbers.specs.Drawers.{IsNewDrawer, AllNewDrawers, AreNewDrawers}
use Rattle.drawn_numbers.proofs.DrawerLists.{new_drawer, front_drawer, get_index}
use Rattle.drawn_numbers.proofs.opening.open_numbers.Goals as goal

pub returns : goal.returns
returns c =
    let m = c.in_ok-numbers.numbers in
    let some = m.some in
    let made = c.in_ok-all.ensures.first in
    let new = c.new_drawer.ensures in
    let others = c.in_ok-all.ensures.others in
    let ds : List Drawer = c.in_ok-all.all.items in
    let d : Drawer = c.new_drawer.result in
    let items : c.insert.new.self.items ≡ d ∷ ds = c.in_ok-insert.ensures.items in
    let long : length c.insert.new.self.items ≡ length (d ∷ ds) = ap length items in
    let count : length ds + 1 ≡ m.drawers = others.0 in
    let all : AllNewDrawers m 0 (d ∷ ds) = front_drawer m ds d others.1
    (new_drawer m 0 d c.open_other_drawers.new.first some made.0 new.0 new.1 new.2) in
    let asked = c.in_ok-numbers.ensures.0 in (
      asked,
      omega arith,
      subst (AreNewDrawers m) (sym items)
          (λ i e lt.
          subst (λ k. IsNewDrawer m k (slice_index_or (d ∷ ds) i e)) (omega arith)
          (all i _ (get_index (d ∷ ds) i e lt))),
    )

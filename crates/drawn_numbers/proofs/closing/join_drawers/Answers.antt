use Rattle.std.proofs.Common.{◌<◌, [], ◌∷◌, List, length, slice_set, append_assoc, sym, ap, subst, ◌∙◌}
use Rattle.std.specs.Prelude.{slice_get}
use Rattle.seat_views.specs.Seated.{knows}
use Rattle.drawn_numbers.specs.declared.drawer.Drawer.{Drawer}
use Rattle.drawn_numbers.specs.Ties.{CounterSeat}
use Rattle.drawn_numbers.specs.Dealt.{drawer_entry, drawer_entries, knows_all}
use Rattle.drawn_numbers.proofs.DrawerLists.{joined, get_middle}
use Rattle.drawn_numbers.proofs.Endings.{filled_length}
use Rattle.drawn_numbers.proofs.closing.join_drawers.Goals as goal

pub close_drawer-other-requires : goal.close_drawer-other-requires
close_drawer-other-requires c =
    let i = c.loop-drawer.invariant in
    let d : Drawer = c.in-Some.drawer in
    let new : List Drawer = c.pop.new.self.items in
    let all = joined c.args.drawers.items c.loop-drawer.drawers.items new i.2.0 c.pop.result d i.2.1
    c.pop.ensures.items c.in-Some.is in
    let long = ap length i.2.3 ∙ filled_length i.2.0 c.args.lists.now.items in
    subst (λ k. d.number < k) (sym long)
    (c.requires.drawers (length new) d (ap (λ z. slice_get z (length new)) all ∙ get_middle new d i.2.0)).1

pub join_view-requires-clause-table : goal.join_view-requires-clause-table
join_view-requires-clause-table c =
    let i = c.loop-drawer.invariant in
    let table = c.requires.table in
    let new : List Drawer = c.pop.new.self.items in
    let all = joined c.args.drawers.items c.loop-drawer.drawers.items new i.2.0 c.pop.result c.in-Some.drawer i.2.1
    c.pop.ensures.items c.in-Some.is in (
      (i.0 ∙ table.0, table.1, table.2, table.3),
      ap (λ (y : CounterSeat). y.table_id) c.close_drawer-other.ensures.counter_seat
          ∙ (c.requires.drawers (length new) c.in-Some.drawer
          (ap (λ z. slice_get z (length new)) all ∙ get_middle new c.in-Some.drawer i.2.0)).0,
    )

pub loop-drawer-preserved : goal.loop-drawer-preserved
loop-drawer-preserved c =
    let i = c.loop-drawer.invariant in
    let m = c.join_view.ensures in
    let left = c.close_drawer-other.ensures in
    let v = c.args.seat.now.me.0 in
    let own = c.args.seat.now.me.1 in
    let d : Drawer = c.in-Some.drawer in
    let done : List Drawer = i.2.0 in (
      m.table.0 ∙ i.0,
      m.table.1 ∙ i.1,
      (
        d ∷ done,
        joined c.args.drawers.items c.loop-drawer.drawers.items c.pop.new.self.items done c.pop.result d i.2.1
            c.pop.ensures.items c.in-Some.is,
        m.met ∙ ap (λ y. (knows y.0 c.close_drawer-other.result.me.0, y.1)) i.2.2
            ∙ ap (λ (y : CounterSeat). (knows (knows_all v done) y.me.0, own)) left.counter_seat
            ∙ ap (λ z. (record v { known = z }, own)) (append_assoc v.known (drawer_entries done)
            (drawer_entry d ∷ [])),
        left.list ∙ ap (λ z. slice_set z d.number d.drawn) i.2.3,
      ),
    )

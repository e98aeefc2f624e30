use Rattle.std.proofs.Common.{◌≡◌, ℕ, List, map, sym, ap, ◌∙◌, subst, arith}
use Rattle.std.proofs.lemmas.Option.{slice_get_within}
use Rattle.std.specs.Mem.Slots.{slots_items}
use Rattle.atomic_table.specs.Table.{Final, Seen}
use Rattle.seat_views.specs.declared.views.View.{View}
use Rattle.drawn_numbers.specs.declared.drawer.Drawer.{Drawer}
use Rattle.drawn_numbers.specs.Ties.{CounterSeat}
use Rattle.drawn_numbers.specs.Drawn.{Drawn}
use Rattle.drawn_numbers.specs.Drawers.{IsDrawerOf}
use Rattle.drawn_numbers.specs.Dealt.{AllDrawn, knows_all, lists_filled}
use Rattle.drawn_numbers.proofs.DrawerLists.{each_of, split_of}
use Rattle.drawn_numbers.proofs.Endings.{filled_snoc, all_drawn}
use Rattle.drawn_numbers.proofs.numbers.Numbers.close.Goals as goal

pub unwrap-requires : goal.unwrap-requires
unwrap-requires c =
    let h = c.requires.whole.there 0 c.args.self.some in
    let within = slice_get_within c.args.drawers.items h.0 h.1 h.2 in
    let long = c.args.drawers.ok.0 in
    c.pop-last.ensures.variant.1 (omega arith)

pub free-requires : goal.free-requires
free-requires c =
    let none = c.close_with-closed.ensures.counts.1 ∙ c.args.self.sized.2 in
    λ k lt. absurd (omega arith)

pub returns : goal.returns
returns c =
    let m = c.args.self in
    let n : ℕ = m.drawers in
    let all : List Drawer = c.args.drawers.items in
    let rest : List Drawer = c.pop-last.new.self.items in
    let last : Drawer = c.unwrap.result in
    let split = split_of all rest _ last c.pop-last.ensures.items c.unwrap.ensures in
    let view : c.join_drawers.new.seat.me.0 ≡ knows_all last.seat.me.0 rest =
    ap (λ y. y.0) c.join_drawers.ensures.met ∙ ap (λ (y : CounterSeat). knows_all y.me.0 rest)
    c.close_drawer-seat.ensures.counter_seat in
    let words : List ℕ = slots_items c.close_with-closed.result.words in
    let slots : List (Unit {0}) = slots_items c.close_with-closed.result.slots in
    let id : ℕ = c.join_drawers.new.seat.id in
    let end : Final (Seen (Drawn n) id (knows_all last.seat.me.0 rest)) words slots =
    subst (λ (y : ℕ × View (List ℕ)). Final (Seen (Drawn y.0) id y.1) words slots) (λ i. (m.keyed i, view i))
    c.close_with-closed.ensures.values.2 in
    let lists = c.join_drawers.ensures.lists ∙ ap (lists_filled rest) c.close_drawer-seat.ensures.list
    ∙ sym (filled_snoc rest last m.lists.items) ∙ ap (λ y. lists_filled y m.lists.items) (sym split) in
    subst (λ y. AllDrawn n all (map (λ xs. xs.items) y)) (sym lists)
    (all_drawn n id all rest last m.lists.items words slots split m.room
    (λ i d e. (each_of (IsDrawerOf m) all c.requires.drawers i d e).1) c.requires.whole end)

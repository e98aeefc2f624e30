use Rattle.std.proofs.Common.{◌++◌, [], ◌∷◌, List, length, append_assoc, ap, ◌∙◌}
use Rattle.std.specs.Prelude.{slice_get}
use Rattle.seat_views.specs.Seated.{knows}
use Rattle.mailboxes.specs.Ties.{SlotSeat}
use Rattle.mailboxes.specs.Remains.{backwards, entry, knows_all}
use Rattle.mailboxes.proofs.JoinedSeats.{joined, get_middle, room_left}
use Rattle.mailboxes.proofs.closing.join_seats.Goals as goal

pub leave_part-other-requires : goal.leave_part-other-requires
leave_part-other-requires g c =
    let i = c.loop-port.invariant in
    let all = joined c.args.seats.items c.loop-port.seats.items c.pop.new.self.items i.3.0 c.pop.result
    c.in-Some.port i.3.1 c.pop.ensures.items c.in-Some.is in
    room_left g.S.Leaver.part c.args.seats.items c.pop.new.self.items i.3.0 c.in-Some.port c.args.parts.now.items
    c.loop-port.parts.items all i.3.3 c.requires.room i.2

pub join_view-requires-clause-table : goal.join_view-requires-clause-table
join_view-requires-clause-table g c =
    let i = c.loop-port.invariant in
    let d = c.requires.table in
    let new = c.pop.new.self.items in
    let all = joined c.args.seats.items c.loop-port.seats.items new i.3.0 c.pop.result c.in-Some.port i.3.1
    c.pop.ensures.items c.in-Some.is in (
      (i.0 ∙ d.0, d.1, d.2),
      ap (λ (y : SlotSeat). y.table_id) c.leave_part-other.ensures.slot_seat
          ∙ c.requires.seats (length new) c.in-Some.port
          (ap (λ z. slice_get z (length new)) all ∙ get_middle new c.in-Some.port i.3.0),
    )

pub loop-port-preserved : goal.loop-port-preserved
loop-port-preserved g c =
    let i = c.loop-port.invariant in
    let m = c.join_view.ensures in
    let left = c.leave_part-other.ensures in
    let v = c.args.seat.now.me.0 in
    let own = c.args.seat.now.me.1 in
    let p : g.row.S.Denot = c.in-Some.port in
    let done : List g.row.S.Denot = i.3.0 in
    let known = λ (x : g.row.S.Denot). entry (g.S.Leaver.mail x) in (
      m.table.0 ∙ i.0,
      m.table.1 ∙ i.1,
      left.room ∙ i.2,
      (
        p ∷ done,
        joined c.args.seats.items c.loop-port.seats.items c.pop.new.self.items done c.pop.result p i.3.1
            c.pop.ensures.items c.in-Some.is,
        m.met ∙ ap (λ y. (knows y.0 c.leave_part-other.result.me.0, y.1)) i.3.2
            ∙ ap (λ (y : SlotSeat). (knows (knows_all v (backwards known done)) y.me.0, own)) left.slot_seat
            ∙ ap (λ z. (record v { known = z }, own)) (append_assoc v.known (backwards known done) (known p ∷ [])),
        left.part ∙ ap (λ z. z ++ g.S.Leaver.part p ∷ []) i.3.3
            ∙ append_assoc c.args.parts.now.items (backwards g.S.Leaver.part done) (g.S.Leaver.part p ∷ []),
      ),
    )

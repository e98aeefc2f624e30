use Rattle.std.proofs.Common.{rules, ◌≡◌, ℕ, ◌<◌, ◌++◌, [], ◌∷◌, List, Option, sym, ap, ◌∙◌, subst, arith}
use Rattle.std.proofs.lemmas.Option.{slice_get_within}
use Rattle.std.specs.Prelude.{slice_get, reverse}
use Rattle.std.specs.Mem.Slots.{slots_counts, slots_items}
use lib.ListN.{get_elem?}
use mathlib.Core.Option.{some}
use Rattle.atomic_table.specs.Table.{Final, Seen}
use Rattle.network.specs.declared.message.Message.{Message}
use Rattle.seat_views.specs.declared.views.View.{View}
use Rattle.seat_rule.specs.declared.views.SetUp.{SetUp}
use Rattle.seat_rule.specs.declared.views.Hold.{Hold}
use Rattle.seat_rule.specs.Rule.{Holds, slot_count}
use Rattle.mailboxes.specs.declared.core_seat.CoreSeat.{CoreSeat}
use Rattle.mailboxes.specs.declared.bank_seat.BankSeat.{BankSeat}
use Rattle.closed_machine.specs.declared.parts.BankPart.{BankPart}
use Rattle.closed_machine.specs.declared.parts.CorePart.{CorePart}
use Rattle.mailboxes.specs.Remains.{backwards, core_part, bank_part, core_entry, bank_entry, knows_all, OneState}
use Rattle.mailboxes.proofs.JoinedSeats.{get_front, backwards_snoc, reversed}
use Rattle.mailboxes.proofs.OneStates.{split_of, table_of_first, at_table, view_of_first, one_state}
use Rattle.mailboxes.proofs.machine.Machine.close_seats.Goals as goal

pub unwrap-first-requires : goal.unwrap-first-requires
unwrap-first-requires c =
    let some : 0 < c.args.self.set_up.config.cores = search rules in
    let h = c.requires.whole.cores_there.there 0 some in
    let within = slice_get_within c.args.cores.items h.0 h.1 h.2 in
    let long = c.args.cores.ok.0 in
    c.pop-first.ensures.variant.1 (omega arith)

pub join_seats-requires-clause-table : goal.join_seats-requires-clause-table
join_seats-requires-clause-table c =
    let split = split_of _ c.pop-first.new.self.items _ _ c.pop-first.ensures.items c.unwrap-first.ensures in
    at_table c.args.self c.leave_part-seat.result.table_id
    (table_of_first c.args.self _ _ _ _ c.requires.cores split c.leave_part-seat.ensures.slot_seat)

pub join_seats-requires-clause-seats : goal.join_seats-requires-clause-seats
join_seats-requires-clause-seats c =
    let rest : List CoreSeat = c.pop-first.new.self.items in
    let split = split_of _ rest _ _ c.pop-first.ensures.items c.unwrap-first.ensures in
    λ i p e.
    (c.requires.cores i p (ap (λ y. slice_get y i) split ∙ get_front rest (c.unwrap-first.result ∷ []) i p e)).0.0

pub join_seats-requires-2-clause-table : goal.join_seats-requires-2-clause-table
join_seats-requires-2-clause-table c =
    let split = split_of _ c.pop-first.new.self.items _ _ c.pop-first.ensures.items c.unwrap-first.ensures in
    at_table c.args.self c.join_seats.new.seat.table_id
    (c.join_seats.ensures.table.0
    ∙ table_of_first c.args.self _ _ _ _ c.requires.cores split c.leave_part-seat.ensures.slot_seat)

pub join_seats-requires-2-clause-seats : goal.join_seats-requires-2-clause-seats
join_seats-requires-2-clause-seats c = λ i p e. (c.requires.banks i p e).0.0

pub close_with-closed-requires : goal.close_with-closed-requires
close_with-closed-requires c =
    let split = split_of _ c.pop-first.new.self.items _ _ c.pop-first.ensures.items c.unwrap-first.ensures in
    c.join_seats-2.ensures.table.0 ∙ c.join_seats.ensures.table.0
    ∙ table_of_first c.args.self _ _ _ _ c.requires.cores split c.leave_part-seat.ensures.slot_seat

pub returns-clause-cores : goal.returns-clause-cores
returns-clause-cores c =
    let rest : List CoreSeat = c.pop-first.new.self.items in
    let first : CoreSeat = c.unwrap-first.result in
    let split = split_of _ rest _ _ c.pop-first.ensures.items c.unwrap-first.ensures in
    let parts : List CorePart = backwards core_part rest in
    c.reverse.ensures.items
    ∙ ap (reverse {A = CorePart})
    (c.join_seats.ensures.parts ∙ ap (λ (y : List CorePart). y ++ parts) c.leave_part-seat.ensures.part
    ∙ ap (λ (y : List CorePart). (y ++ core_part first ∷ []) ++ parts) c.in_ok-core_parts.ensures.items
    ∙ sym (backwards_snoc core_part rest first) ∙ ap (backwards core_part) (sym split))
    ∙ reversed core_part c.args.cores.items

pub returns-clause-banks : goal.returns-clause-banks
returns-clause-banks c =
    let banks : List BankSeat = c.args.banks.items in
    c.reverse-2.ensures.items
    ∙ ap (reverse {A = BankPart})
    (c.join_seats-2.ensures.parts
    ∙ ap (λ (y : List BankPart). y ++ backwards bank_part banks) c.in_ok-bank_parts.ensures.items)
    ∙ reversed bank_part banks

pub returns-clause-state : goal.returns-clause-state
returns-clause-state c =
    let m = c.args.self in
    let z : SetUp = m.set_up in
    let banks : List BankSeat = c.args.banks.items in
    let rest : List CoreSeat = c.pop-first.new.self.items in
    let first : CoreSeat = c.unwrap-first.result in
    let split = split_of _ rest _ _ c.pop-first.ensures.items c.unwrap-first.ensures in
    let w : View Hold =
    knows_all (knows_all first.mail.seat.me.0 (backwards core_entry rest)) (backwards bank_entry banks) in
    let all : c.join_seats-2.new.seat.me.0 ≡ w =
    view_of_first first rest banks c.leave_part-seat.result c.join_seats.new.seat c.join_seats-2.new.seat
    c.leave_part-seat.ensures.slot_seat c.join_seats.ensures.met c.join_seats-2.ensures.met in
    let words : List ℕ = slots_items c.close_with-closed.result.words in
    let slots : List (Option Message) = slots_items c.close_with-closed.result.slots in
    let id : ℕ = c.join_seats-2.new.seat.id in
    let final : Final (Seen (Holds z) id w) words slots =
    subst (λ (y : SetUp × View Hold). Final (Seen (Holds y.0) id y.1) words slots) (λ i. (m.keyed i, all i))
    c.close_with-closed.ensures.values.2 in
    let last : c.slot_count-last.result ≡ slot_count z = c.slot_count-last.ensures ∙ m.sized.2 in
    let counted : get_elem? words (slot_count z) ≡ some c.word-count.result =
    subst (λ k. get_elem? words k ≡ some c.word-count.result) last c.word-count.ensures in
    let closes = c.closed_machines_are_one_state.ensures z id w words slots c.word-count.result m.good
    first.mail.tied.live final counted in
    let whole = c.requires.whole in (
      closes.log,
      closes.counted,
      subst (λ y. OneState z c.args.cores.items banks closes.log y) (sym c.take_slot_messages.ensures)
          (one_state z c.args.cores.items rest banks first split c.word-count.result slots whole.cores_there
          whole.banks_there closes
          (c.links_lose_and_double_nothing.ensures.taken z closes.seats closes.phases closes.log closes.whole)
          (c.links_lose_and_double_nothing.ensures.lying z closes.seats closes.phases closes.log closes.whole)
          (sym (slots_counts c.close_with-closed.result.slots).0 ∙ c.close_with-closed.ensures.counts.1 ∙ m.sized.2)),
    )

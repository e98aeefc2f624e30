use Rattle.std.proofs.Common.{◌<◌, ◌+◌, ◌%◌, ap, refl, subst, sym, ◌∙◌, arith, rules}
use Rattle.seat_rule.specs.declared.views.SetUp.{SetUp}
use Rattle.seat_rule.specs.Plays.{SeatState}
use Rattle.seat_rule.specs.Rule.{slot_count}
use Rattle.mailboxes.specs.Places.{incoming_count}
use Rattle.mailboxes.proofs.EmptySlots.{place_ends}
use Rattle.mailboxes.proofs.OwnMessages.{own_after}
use Rattle.mailboxes.proofs.mailbox.Mailbox.take.Goals as goal

pub fill_hand-requires-clause-slot : goal.fill_hand-requires-clause-slot
fill_hand-requires-clause-slot c =
    let p = c.args.self.now in
    let m = c.args.machine.now in
    let z = m.set_up in
    let f = c.in-Some.ensures.found in
    let few = f.2 in
    let count = incoming_count z.config.cores z.config.banks p.number in
    let ends = place_ends z p.number p.cursor f.0 ((p.cursor + f.0) % count) c.in-Some.slot c.requires.seat.1
    (omega (arith, few)) refl f.3 in (
      subst (λ (y : SetUp). c.in-Some.slot < slot_count y) (sym m.keyed) ends.1.0,
      ap (λ (s : SeatState). s.0.spent) f.6 ∙ p.tied.live,
      search rules,
      search rules,
    )

pub invariant_of-self-2-clause-own : goal.invariant_of-self-2-clause-own
invariant_of-self-2-clause-own c =
    let p = c.args.self.now in
    let z = c.args.machine.now.set_up in
    own_after z p.cores p.number p.cursor (incoming_count z.config.cores z.config.banks p.number)
    (c.in-Some.slot, c.in-Some.after) p.seat.me c.find_full_slot-found.new.seat.me
    c.fill_hand.ensures.taken.0 p.inbox c.fill_hand.new.came_in c.requires.seat.2 c.in-Some.ensures.found
    c.fill_hand.ensures.taken.1 p.own c.fill_hand.ensures.taken.3

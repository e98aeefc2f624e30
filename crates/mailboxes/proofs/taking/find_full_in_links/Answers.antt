use Rattle.std.proofs.Common.{◌≡◌, ◌+◌, ◌*◌, ap, refl, ◌∙◌, arith}
use Rattle.mailboxes.specs.Places.{incoming}
use Rattle.mailboxes.proofs.EmptySlots.{full_on, next_slot, none_on, none_yet}
use Rattle.mailboxes.proofs.taking.find_full_in_links.Goals as goal

pub loop-n-init : goal.loop-n-init
loop-n-init c =
    let z = c.args.machine.now.set_up in
    let first : c.args.place ≡ c.args.place + 4 * 0 = omega arith in (
      refl,
      refl,
      none_yet z c.args.number c.args.place c.args.seat.now.me c.requires.idle.1 c.requires.idle.2,
      c.requires.slot ∙ ap (incoming z.config.cores z.config.banks c.args.number) first,
    )

pub returns-in-Some-clause-found : goal.returns-in-Some-clause-found
returns-in-Some-clause-found c =
    let z = c.args.machine.now.set_up in
    let i = c.loop-n.invariant in
    let n = c.loop-n.n in
    let more = c.loop-n-test.true in
    full_on z c.args.number c.args.place (4 * n) (c.args.place + 4 * n) c.args.seat.now.me c.loop-n.seat.me i.2 refl 4
    (4 * c.args.links) c.in-Some.found c.find_full_in_link.new.seat.me (omega (arith, more)) c.in-Some.ensures.found

pub loop-n-preserved : goal.loop-n-preserved
loop-n-preserved c =
    let z = c.args.machine.now.set_up in
    let i = c.loop-n.invariant in
    let n = c.loop-n.n in
    let seat = c.find_full_in_link.ensures.table in
    let more : 4 * n + 4 ≡ 4 * (n + 1) = omega arith in
    let further : c.args.place + 4 * n + 4 ≡ c.args.place + 4 * (n + 1) = omega arith in (
      seat.0 ∙ i.0,
      seat.1 ∙ i.1,
      none_on z c.args.number c.args.place (4 * n) (c.args.place + 4 * n) c.args.seat.now.me c.loop-n.seat.me i.2 refl 4
          (4 * (n + 1)) c.find_full_in_link.new.seat.me more c.in_default.ensures.found,
      (λ j. i.3 j + c.requires.slots.stride j)
          ∙ next_slot z.config.cores z.config.banks c.args.number (c.args.place + 4 * n)
          ∙ ap (incoming z.config.cores z.config.banks c.args.number) further,
    )

use Rattle.std.proofs.Common.{ℕ}
use Rattle.mailboxes.proofs.Rounds.{early_full, early_none, last_found, later_full, later_none, rest_full, rest_none}
use Rattle.mailboxes.proofs.taking.find_full_slot.Goals as goal

pub returns-in-Some-clause-found : goal.returns-in-Some-clause-found
returns-in-Some-clause-found c =
    let slots = c.requires.slots in
    rest_full c.args.machine.now.set_up c.args.number c.args.cursor c.place_of_cursor-start.result
    c.args.slots.now.count c.place_of_cursor-start.ensures slots.some slots.count c.args.seat.now.me c.in-Some.found
    c.find_full_in_part.new.seat.me c.requires.idle.1 c.requires.idle.2 c.in-Some.ensures.found

pub returns-in-Some-find_full_in_links-clause-found : goal.returns-in-Some-find_full_in_links-clause-found
returns-in-Some-find_full_in_links-clause-found c =
    let z = c.args.machine.now.set_up in
    let slots = c.requires.slots in
    let start : ℕ = c.place_of_cursor-start.result in
    let so = rest_none z c.args.number c.args.cursor start c.args.slots.now.count c.place_of_cursor-start.ensures
    slots.some slots.count c.args.seat.now.me c.find_full_in_part.new.seat.me c.requires.idle.1 c.requires.idle.2
    c.in_default.ensures.found in
    later_full z c.args.number c.args.cursor start c.args.slots.now.count c.place_of_cursor-start.ensures slots.some
    slots.count c.args.seat.now.me c.in-Some-find_full_in_links.found c.find_full_in_part.new.seat.me
    c.find_full_in_links.new.seat.me so c.in-Some-find_full_in_links.ensures.found

pub returns-in-Some-find_full_in_links-2-clause-found : goal.returns-in-Some-find_full_in_links-2-clause-found
returns-in-Some-find_full_in_links-2-clause-found c =
    let z = c.args.machine.now.set_up in
    let slots = c.requires.slots in
    let start : ℕ = c.place_of_cursor-start.result in
    let so = rest_none z c.args.number c.args.cursor start c.args.slots.now.count c.place_of_cursor-start.ensures
    slots.some slots.count c.args.seat.now.me c.find_full_in_part.new.seat.me c.requires.idle.1 c.requires.idle.2
    c.in_default.ensures.found in
    let next = later_none z c.args.number c.args.cursor start c.args.slots.now.count c.place_of_cursor-start.ensures
    slots.some slots.count c.args.seat.now.me c.find_full_in_part.new.seat.me c.find_full_in_links.new.seat.me so
    c.in_default-find_full_in_links.ensures.found in
    early_full z c.args.number c.args.cursor start c.args.slots.now.count c.place_of_cursor-start.ensures slots.some
    slots.count c.args.seat.now.me c.in-Some-find_full_in_links-2.found c.find_full_in_links.new.seat.me
    c.find_full_in_links-2.new.seat.me next c.in-Some-find_full_in_links-2.ensures.found

pub returns-clause-found : goal.returns-clause-found
returns-clause-found c =
    let z = c.args.machine.now.set_up in
    let slots = c.requires.slots in
    let start : ℕ = c.place_of_cursor-start.result in
    let so = rest_none z c.args.number c.args.cursor start c.args.slots.now.count c.place_of_cursor-start.ensures
    slots.some slots.count c.args.seat.now.me c.find_full_in_part.new.seat.me c.requires.idle.1 c.requires.idle.2
    c.in_default.ensures.found in
    let next = later_none z c.args.number c.args.cursor start c.args.slots.now.count c.place_of_cursor-start.ensures
    slots.some slots.count c.args.seat.now.me c.find_full_in_part.new.seat.me c.find_full_in_links.new.seat.me so
    c.in_default-find_full_in_links.ensures.found in
    let last = early_none z c.args.number c.args.cursor start c.args.slots.now.count c.place_of_cursor-start.ensures
    slots.some slots.count c.args.seat.now.me c.find_full_in_links.new.seat.me c.find_full_in_links-2.new.seat.me next
    c.in_default-find_full_in_links-2.ensures.found in
    last_found z c.args.number c.args.cursor start c.args.slots.now.count c.place_of_cursor-start.ensures slots.some
    slots.count c.args.seat.now.me c.find_full_in_part-2.result c.find_full_in_links-2.new.seat.me
    c.find_full_in_part-2.new.seat.me last c.find_full_in_part-2.ensures.found

use Rattle.std.proofs.Common.{arith}
use Rattle.closed_machine.proofs.run.Run.owners.Goals as goal

pub returns-clause-owners : goal.returns-clause-owners
returns-clause-owners c =
    λ parts.
    let run = c.args.self.now in
    let copies = c.exclusive_copies.ensures.copies parts in
    let seats = c.grants_with_seats.ensures.grants parts in
    let slots = c.grants_in_slots.ensures.grants parts in
    let all = c.owners_are_added_up.ensures run.set_up parts.seats parts.phases run.records.items c.args.line in
    omega arith

pub returns-clause-one : goal.returns-clause-one
returns-clause-one c =
    let run = c.args.self.now in
    let parts = c.requires in
    let copies = c.exclusive_copies.ensures.copies parts in
    let seats = c.grants_with_seats.ensures.grants parts in
    let slots = c.grants_in_slots.ensures.grants parts in
    let all = c.owners_are_added_up.ensures run.set_up parts.seats parts.phases run.records.items c.args.line in
    let one = parts.whole.consistent.owners c.args.line in
    omega arith

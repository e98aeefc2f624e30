use Rattle.llc_bank.proofs.RoomMade.{in-same-set, can-be-evicted}
use Rattle.llc_bank.proofs.bank.Bank.make_room.Goals as goal

pub returns-clause-same_set : goal.returns-clause-same_set
returns-clause-same_set c =
    in-same-set c.before.args.self.now c.before.args.line c.line_that_makes_room.result
    c.line_that_makes_room.ensures.sound
    c.line_that_makes_room.ensures.line

pub returns-clause-evicted : goal.returns-clause-evicted
returns-clause-evicted c =
    can-be-evicted c.before.args.self.now c.before.args.line c.line_that_makes_room.result
    c.line_that_makes_room.ensures.sound
    c.line_that_makes_room.ensures.line

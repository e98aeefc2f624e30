use Rattle.mailboxes.proofs.StoredSeats.{nothing_changed}
use Rattle.mailboxes.proofs.part_serving.serve_nonempty_inbox.Goals as goal

pub returns-clause-effect : goal.returns-clause-effect
returns-clause-effect g c =
    c.servings_do_one_of_five.ensures g.P.Receiver.table g.P.Receiver.takes_memory c.args.came_in.now
    c.args.part.now c.serve.result c.serve.new.self c.serve.new.part c.requires.quiet c.serve.ensures

pub returns-clause-same : goal.returns-clause-same
returns-clause-same g c not =
    nothing_changed g.P.Receiver.table c.args.came_in.now c.args.part.now c.serve.result c.serve.new.self
    c.serve.new.part
    (c.servings_do_one_of_five.ensures g.P.Receiver.table g.P.Receiver.takes_memory c.args.came_in.now
    c.args.part.now c.serve.result c.serve.new.self c.serve.new.part c.requires.quiet c.serve.ensures) not

use Rattle.litmus_lexer.proofs.NameIndex.{name-pushed}
use Rattle.litmus_lexer.proofs.locations.Locations.push.Goals as goal

pub returns-clause-pushed : goal.returns-clause-pushed
returns-clause-pushed c =
    let absent = rw (← c.self.view_is) at c.requires.absent in
    rw (← c.self.view_is) (name-pushed c.args.name.now c.self.inside.names.keys c.in_ok-copy.copy
    c.insert.new.self.keys
    c.in_ok-copy.ensures.items c.in_ok-insert.ensures.keys absent)

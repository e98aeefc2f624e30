use Rattle.std.proofs.Common.{sym, ◌∙◌}
use Rattle.litmus_lexer.proofs.NameIndex.{index-found, index-none}
use Rattle.litmus_lexer.proofs.locations.Locations.index.Goals as goal

pub returns-in-Some-clause-index : goal.returns-in-Some-clause-index
returns-in-Some-clause-index c =
    rw (← c.self.view_is) (index-found c.args.name.now c.self.inside.names.keys c.in-Some.index
    (sym c.get_index_of.ensures.index ∙ c.in-Some.is))

pub returns-in-None-clause-index : goal.returns-in-None-clause-index
returns-in-None-clause-index c =
    rw (c.len.ensures.count, ← c.self.view_is) (index-none c.args.name.now c.self.inside.names.keys
    (sym c.get_index_of.ensures.index ∙ c.in-None.is))

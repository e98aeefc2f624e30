use Rattle.private_cache.proofs.Sound.{victim-first}
use Rattle.private_cache.proofs.cache.Cache.victim.Goals as goal

pub returns-clause-there : goal.returns-clause-there
returns-clause-there c =
    (victim-first c.self.inside.table c.args.self.now c.args.line c.set_of.result c.in_ok-oldest.oldest c.self.view_is
    c.self.invariant c.set_of.ensures.set c.oldest.ensures.within c.in_ok-oldest.ensures.line).there

pub returns-clause-makes_place : goal.returns-clause-makes_place
returns-clause-makes_place c =
    (victim-first c.self.inside.table c.args.self.now c.args.line c.set_of.result c.in_ok-oldest.oldest c.self.view_is
    c.self.invariant c.set_of.ensures.set c.oldest.ensures.within c.in_ok-oldest.ensures.line).makes_place

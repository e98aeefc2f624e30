use Rattle.std.proofs.Common.{◌≡◌}
use Rattle.private_cache.specs.CopyTable.{set_of}
use Rattle.private_cache.proofs.Sound.{put-there, sound-put}
use Rattle.private_cache.proofs.cache.Cache.add.Goals as goal

pub invariant_of-self : goal.invariant_of-self
invariant_of-self c =
    let is : c.set_of-set.result ≡ set_of c.self.inside.table c.line.inside.0 =
    rw (c.self.view_is, c.line.view_is) c.set_of-set.ensures.set in
    sound-put c.self.inside.table c.add.new.self c.set_of-set.result c.line.inside.0 _ c.self.invariant
    is c.add.ensures

pub returns-clause-there : goal.returns-clause-there
returns-clause-there c =
    let is : c.set_of-set.result ≡ set_of c.self.inside.table c.line.inside.0 =
    rw (c.self.view_is, c.line.view_is) c.set_of-set.ensures.set in
    rw (← c.line.view_is) (put-there c.self.inside.table c.add.new.self c.set_of-set.result c.line.inside.0 _
    c.self.invariant is c.add.ensures)

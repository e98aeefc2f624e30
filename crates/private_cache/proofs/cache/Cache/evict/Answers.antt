use Rattle.std.proofs.Common.{◌≡◌}
use Rattle.private_cache.specs.CopyTable.{set_of}
use Rattle.private_cache.proofs.Sound.{sound-drop_line}
use Rattle.private_cache.proofs.cache.Cache.evict.Goals as goal

pub invariant_of-self : goal.invariant_of-self
invariant_of-self c =
    let is : c.set_of-set.result ≡ set_of c.self.inside.table c.line.inside.0 =
    rw (c.self.view_is, c.line.view_is) c.set_of-set.ensures.set in
    sound-drop_line c.self.inside.table c.remove.new.self c.set_of-set.result _ c.self.invariant is
    c.remove.ensures.after

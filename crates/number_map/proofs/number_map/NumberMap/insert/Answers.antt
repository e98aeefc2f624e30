use Rattle.std.proofs.Common.{ap, sym, ◌∙◌}
use mathlib.Core.Bool.{false≢true}
use Rattle.std.specs.FinMap as map
use Rattle.number_map.proofs.HashedMaps.{hashed_given, get_hashed}
use Rattle.number_map.proofs.number_map.NumberMap.insert.Goals as goal

pub returns-clause-inserted : goal.returns-clause-inserted
returns-clause-inserted g c =
    hashed_given c.self.inside.hash.entries c.insert.new.self.entries c.args.key c.args.value
    c.in_ok-insert.ensures.updates.0
    ∙ ap (λ m. map.insert m c.args.key c.args.value) c.self.view_is

pub returns-in_err-insert-clause-known : goal.returns-in_err-insert-clause-known
returns-in_err-insert-clause-known g c known =
    let none = sym (ap (λ m. map.get m c.args.key) c.self.view_is) ∙ get_hashed c.self.inside.hash.entries c.args.key
    ∙ c.in_err-insert.ensures.absent in
    absurd (false≢true (rw none at known))

use Rattle.std.proofs.Common.{◌∙◌, ap, sym, ◌≡◌, ◌-◌, [], take, append-nil}
use Rattle.number_map.proofs.CopiedMaps.{found, found-start, found-insert, copied}
use Rattle.number_map.proofs.number_map.NumberMap.try_clone.Goals as goal

pub loop-entry-init : goal.loop-entry-init
loop-entry-init g c q = ap (λ copy. found c.in_ok-entries.entries.items copy q) c.new-copy.ensures
    ∙ found-start c.args.self.now c.in_ok-entries.entries.items q c.in_ok-entries.ensures

pub loop-entry-preserved : goal.loop-entry-preserved
loop-entry-preserved g c q =
    ap (λ copy. found c.pop.new.self.items copy q) c.in_ok-insert.ensures.inserted
    ∙ found-insert c.pop.new.self.items c.loop-entry.copy c.in-Some.entry.0 c.in-Some.entry.1 q
    ∙ ap (λ es. found es c.loop-entry.copy q) (sym c.in-Some.ensures.items)
    ∙ c.loop-entry.invariant q

pub returns : goal.returns
returns g c =
    let none : c.loop-entry.entries.items ≡ [] = c.in_default.ensures.items ∙ append-nil c.pop.new.self.items
    ∙ c.in_default.ensures.rest ∙ ap (λ n. take (n - 1) c.loop-entry.entries.items)
    c.in_default.ensures.cases.0 in
    copied c.args.self.now c.loop-entry.copy (λ q. ap (λ es. found es c.loop-entry.copy q) (sym none)
    ∙ c.loop-entry.invariant q)

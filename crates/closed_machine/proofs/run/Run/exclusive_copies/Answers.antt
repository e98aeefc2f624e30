use Rattle.std.proofs.Common.{◌≡◌, sym, ap, ◌∙◌, arith}
use Rattle.std.specs.Prelude.{slice_get}
use Rattle.std.proofs.lemmas.Option.{slice_get_within}
use Rattle.private_cache.specs.CopyTable.{copy_of}
use Rattle.core_pts.specs.CoreTable.{CoreState}
use Rattle.machine_theorem.specs.Coherence.{owner_in}
use Rattle.seat_views.specs.Seated.{over}
use Rattle.closed_machine.proofs.SeatSums.{found_core, over_more}
use Rattle.closed_machine.proofs.run.Run.exclusive_copies.Goals as goal

pub find_by_number-at-requires : goal.find_by_number-at-requires
find_by_number-at-requires c =
    let there = c.requires.cores_there c.loop-core.core c.loop-core-test.true in
    (there.0, there.1, ap (λ xs. slice_get xs there.0) c.as_slice.ensures.value ∙ there.2, there.3)

pub index-requires : goal.index-requires
index-requires c =
    let items = c.args.self.now.cores.items in
    let p = c.find_by_number-at.ensures in
    let near = slice_get_within items c.find_by_number-at.result p.0
    (ap (λ xs. slice_get xs c.find_by_number-at.result) (sym c.as_slice.ensures.value) ∙ p.1) in
    let long = c.args.self.now.cores.ok.0 in
    omega arith

pub loop-core-preserved : goal.loop-core-preserved
loop-core-preserved c =
    let i = c.loop-core.invariant in
    let p = c.find_by_number-at.ensures in (
      (let few = i.0 in let one = c.exclusive_copies_in_core-count.ensures.one in omega arith),
      (λ parts.
          over_more c.loop-core.core (λ j. owner_in (copy_of (parts.seats j).core.cache c.args.line)) c.loop-core.count
          c.exclusive_copies_in_core-count.result (i.1 parts)
          (c.exclusive_copies_in_core-count.ensures.value
          ∙ ap (λ (x : CoreState). owner_in (copy_of x.cache c.args.line))
          (found_core c.args.self.now parts c.loop-core.core c.find_by_number-at.result p.0 c.index.result.now
          (ap (λ xs. slice_get xs c.find_by_number-at.result) (sym c.as_slice.ensures.value)
          ∙ p.1) p.2 c.index.ensures))),
    )

pub returns-clause-copies : goal.returns-clause-copies
returns-clause-copies c =
    λ parts.
    let end : c.loop-core.core ≡ c.args.self.now.set_up.config.cores =
    (let t = c.loop-core-test.false in let e = c.loop-core.auto.core-end in omega arith) in
    c.loop-core.invariant.1 parts
    ∙ ap (λ n. over n (λ j. owner_in (copy_of (parts.seats j).core.cache c.args.line))) end

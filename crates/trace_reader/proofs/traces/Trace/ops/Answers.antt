use Rattle.std.proofs.Common.{◌≡◌, ◌≤◌, length, [], sym, ◌∙◌, ap, arith}
use Rattle.std.proofs.lemmas.Bool.Decides.{nat_tests}
use Rattle.std.proofs.lemmas.List.{get_or_past}
use Rattle.trace_reader.specs.Steps.{lane, ops_of}
use Rattle.trace_reader.proofs.ByCore.{ops-none}
use Rattle.trace_reader.proofs.traces.Trace.ops.Goals as goal

pub returns-in-None : goal.returns-in-None
returns-in-None c =
    let lanes = c.self.inside.lanes.items in
    let same : length c.deref.result.now ≡ length lanes = ap (λ w. length w) c.deref.ensures.value in
    let past : length lanes ≤ c.args.core = grind (arith, nat_tests, c.in-None.ensures.lookup, same) in
    let none : lane c.args.self.now c.args.core ≡ [] =
    ap (λ w. lane w c.args.core) (sym c.self.view_is) ∙ get_or_past lanes c.args.core [] past in
    sym (ap ops_of none ∙ ops-none)

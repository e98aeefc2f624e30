use Rattle.std.proofs.Common.{[], length, get_or, sym, ap, ◌∙◌, arith}
use Rattle.line_arena.specs.Chains.{rings_of}
use Rattle.line_arena.proofs.Shows.{length-shown}
use Rattle.line_arena.proofs.Counts.{one_length}
use Rattle.line_arena.proofs.arena.Arena.len.Goals as goal

pub returns : goal.returns
returns g c =
    let s = c.self.inside.chains in let i = c.self.invariant in let l = c.args.list in
    let rings_many = i.tied.tied.many in let long = length-shown (rings_of s) in
    let same = ap (λ a. length a.lists) c.self.view_is in let low = c.requires in
    c.count.ensures ∙ sym (one_length s i l (omega arith)) ∙ ap (λ a. length (get_or a.lists l [])) c.self.view_is

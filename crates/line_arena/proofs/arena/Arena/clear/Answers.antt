use Rattle.std.proofs.Common.{[], length, replicate, sym, ap, ◌∙◌}
use Rattle.line_arena.specs.Arenas.{lists_of}
use Rattle.line_arena.specs.Chains.{rings_of}
use Rattle.line_arena.proofs.Seen.{shown_new}
use Rattle.line_arena.proofs.Shows.{length-shown}
use Rattle.line_arena.proofs.arena.Arena.clear.Goals as goal

pub returns : goal.returns
returns g c =
    let ok = c.empty_lists.ensures in let s = c.self.inside.chains in
    let long = sym c.self.invariant.tied.tied.many ∙ sym (length-shown (rings_of s)) ∙ ap (λ a. length a.lists)
    c.self.view_is in
    let lists = shown_new _ (rings_of c.empty_lists.new.self) ok.empty.0 ∙ ap (λ k. replicate k []) long in
    let cells = ok.fields.0 ∙ ap (λ a. a.cells) c.self.view_is in
    λ i. lists_of (lists i) (cells i)

use Rattle.std.proofs.Common.{◌≡◌, ◌++◌, [], List, ℕ, ◌∙◌, sym, ap, length, arith, refl}
use Rattle.std.specs.List.{prefix_len}
use Rattle.std.proofs.lemmas.List.{append-nil}
use Rattle.text_lines.specs.Lines.{is_within_line}
use Rattle.trace_reader.specs.Ahead.{ahead}
use Rattle.trace_reader.proofs.NextLine.{both-last, found-after, found-last}
use Rattle.trace_reader.proofs.blocks.Block.find_line.Goals as goal

pub returns-else-length-eq0-clause-next : goal.returns-else-length-eq0-clause-next
returns-else-length-eq0-clause-next g c =
    let i = c.loop-length.invariant in
    let f = c.in_ok-fill.ensures.bytes in
    let none : f.0 ≡ [] = f.4 c.if-not-branch.true in
    let same : ahead c.fill.new.self ≡ ahead c.loop-length.self = f.1 ∙ ap (λ (w : List ℕ). ahead
    c.loop-length.self ++ w)
    none ∙ append-nil (ahead c.loop-length.self) in
    let len : c.loop-length.length ≡ prefix_len is_within_line (ahead c.fill.new.self) = rw same i.len in
    let whole : c.loop-length.length ≡ length (ahead c.loop-length.self) =
    c.if-length-ahead.true ∙ ap (λ (w : List ℕ). length w) c.ahead.ensures.bytes in
    let all : c.loop-length.length ≡ length (ahead c.fill.new.self) = rw same whole in
    found-last _ _ _ _ _ (both-last _ _ _ _ _ _ _ i.bytes f.2 f.1 (c.in_ok-fill.ensures.end (rw
    c.if-not-branch.true refl)))
    len all c.if-length-eq0.false

pub returns-else-length-ahead-clause-next : goal.returns-else-length-ahead-clause-next
returns-else-length-ahead-clause-next g c =
    let i = c.loop-length.invariant in
    found-after _ _ _ _ _ i.bytes i.len i.within (λ short same. c.if-length-ahead.false
    (same ∙ ap (λ (w : List ℕ). length w) (sym c.ahead.ensures.bytes)))

pub returns-after-loop-length-clause-next : goal.returns-after-loop-length-clause-next
returns-after-loop-length-clause-next g c =
    let i = c.loop-length.invariant in
    found-after _ _ _ _ _ i.bytes i.len i.within (λ short same. absurd (omega arith))

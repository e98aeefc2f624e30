use Rattle.std.proofs.Common.{eqb, sym, ap, ◌∙◌, arith, w8}
use lib.Count.{count_trailing_zeros}
use Rattle.std.proofs.lemmas.Simd.{bitmask_splat, leading_from_mask_l, trailing_mask_l}
use Rattle.line_sets.proofs.entries.count_tags_before.Goals as goal

pub returns-then-same-eq0 : goal.returns-then-same-eq0
returns-then-same-eq0 c =
    let hits = bitmask_splat w8 eqb c.args.tags.now 16 c.args.tag (omega arith) (omega arith) in
    sym (leading_from_mask_l (λ x. eqb x c.args.tag) c.args.tags.now (sym hits ∙ c.if-same-eq0.true) ∙ omega arith)

pub returns : goal.returns
returns c =
    let hits = bitmask_splat w8 eqb c.args.tags.now 16 c.args.tag (omega arith) (omega arith) in
    ap (count_trailing_zeros 64) hits
    ∙ trailing_mask_l (λ x. eqb x c.args.tag) 64 c.args.tags.now (omega arith) (omega arith)

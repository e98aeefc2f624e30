use Rattle.std.proofs.Common.{◌≡◌, ◌≤◌, ◌<◌, length, take, false, ◌∙◌, ap, ◌++◌, List, ℕ, arith}
use Rattle.std.specs.Prelude.{nat_lt}
use Rattle.std.proofs.lemmas.List.{length-take-le, nil_from_length}
use Rattle.std.proofs.lemmas.Bool.Decides.{nat_tests}
use Rattle.trace_reader.specs.Ahead.{ahead}
use Rattle.trace_reader.proofs.NextLine.{grown, none-left}
use Rattle.trace_reader.proofs.blocks.Block.fill.Goals as goal

pub returns-clause-bytes : goal.returns-clause-bytes
returns-clause-bytes g c =
    let block = c.move_to_front.new.self in
    let buffer = c.read.new.buffer in
    let n = c.in_ok-count.count in
    let came = c.in_ok-count.ensures.bytes in
    let len : length (take n buffer) ≡ n = length-take-le n buffer came.0 in
    let within : block.end ≤ length block.bytes = omega arith in (
      take n buffer,
      grown block.bytes buffer block.start block.end _ n block.ordered within came.0
          ∙ ap (λ (w : List ℕ). w ++ take n buffer) c.move_to_front.ensures.same,
      came.1,
      λ more. grind (arith, nat_tests, len, more),
      λ none. nil_from_length (take n buffer) (grind (arith, nat_tests, len, none)),
    )

pub returns-clause-end : goal.returns-clause-end
returns-clause-end g c =
    λ e. let n = c.in_ok-count.count in
    let came = c.in_ok-count.ensures.bytes in
    let none : nat_lt 0 n ≡ false = cc e in
    let zero : n ≡ 0 = grind (arith, nat_tests, none) in
    let same : length (ahead c.move_to_front.new.self) ≡ length (ahead c.args.self.now) =
    ap (λ (w : List ℕ). length w) c.move_to_front.ensures.same in
    let room : 0 < length c.read.new.buffer = omega (arith, c.move_to_front.ensures.room, same) in
    none-left _ _ _ (nil_from_length _ (length-take-le n c.read.new.buffer came.0 ∙ zero)) came.1 (came.2 zero room)

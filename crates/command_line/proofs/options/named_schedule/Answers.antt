use Rattle.std.proofs.Common.{◌≡◌, ◌∙◌, Option, Some, [], ap, codes, refl, sym}
use Rattle.std.specs.Prelude.{unwrap_or}
use Rattle.clap.specs.Words.{Text, found_of, first_of, rows_of}
use Rattle.command_line.proofs.Numbers.{word_says}
use Rattle.command_line.proofs.options.named_schedule.Goals as goal

pub returns-in-seed : goal.returns-in-seed
returns-in-seed c =
    let first = first_of c.args.name.now (rows_of (found_of c.args.matches.now)) in
    let is : first ≡ Some (codes "seed") =
    word_says first c.argument_word.result.now (codes "seed") c.argument_word.ensures c.in-seed.is (λ e. absurd cc) in (
      λ seed. refl,
      λ threads. let same : Some (codes "seed") ≡ Some (codes "threads") = sym is ∙ threads in absurd cc,
      λ other more. absurd (other is),
    )

pub returns-in-threads : goal.returns-in-threads
returns-in-threads c =
    let first = first_of c.args.name.now (rows_of (found_of c.args.matches.now)) in
    let is : first ≡ Some (codes "threads") =
    word_says first c.argument_word.result.now (codes "threads") c.argument_word.ensures c.in-threads.is
    (λ e. absurd cc) in (
      λ seed. let same : Some (codes "threads") ≡ Some (codes "seed") = sym is ∙ seed in absurd cc,
      λ threads. refl,
      λ other more. absurd (more is),
    )

pub returns-in_default : goal.returns-in_default
returns-in_default c = (
  λ seed.
      let is : c.argument_word.result.now ≡ codes "seed" =
      c.argument_word.ensures ∙ ap (λ (o : Option Text). unwrap_or o []) seed in
      absurd (c.in_default.not-seed is),
  λ threads.
      let is : c.argument_word.result.now ≡ codes "threads" =
      c.argument_word.ensures ∙ ap (λ (o : Option Text). unwrap_or o []) threads in
      absurd (c.in_default.not-threads is),
  λ other more. refl,
)

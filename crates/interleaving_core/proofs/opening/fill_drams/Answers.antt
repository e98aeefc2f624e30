use Rattle.std.proofs.Common.{◌≡◌, ◌-◌, ◌∙◌, [], ap, ap₂, append-nil, sym, length, take}
use Rattle.std.proofs.lemmas.List.{length-replicate}
use Rattle.std.specs.FinMap.{empty, entries}
use Rattle.machine_theorem.proofs.Lemmas.{fair}
use Rattle.interleaving_core.proofs.DramWords.{filled, filled_last, filled_is, set_counts}
use Rattle.interleaving_core.proofs.opening.fill_drams.Goals as goal

pub loop-word-init : goal.loop-word-init
loop-word-init c = (
  ap₂ (λ ws ds. filled c.args.config ws ds) c.in_ok-words.ensures c.requires.zeros,
  ap length c.requires.zeros ∙ length-replicate c.args.config.banks empty,
)

pub set_dram_word-requires-clause-count : goal.set_dram_word-requires-clause-count
set_dram_word-requires-clause-count c = c.loop-word.invariant.1

pub loop-word-preserved : goal.loop-word-preserved
loop-word-preserved c = (
  ap (λ ds. filled c.args.config c.pop.new.self.items ds) c.in_ok-set_dram_word.ensures
      ∙ sym (filled_last c.args.config c.pop.new.self.items c.in-Some.word c.loop-word.drams.items)
      ∙ ap (λ ws. filled c.args.config ws c.loop-word.drams.items) (sym c.in-Some.ensures.items)
      ∙ c.loop-word.invariant.0,
  ap length c.in_ok-set_dram_word.ensures ∙ set_counts c.args.config c.in-Some.word c.loop-word.drams.items
      ∙ c.loop-word.invariant.1,
)

pub returns : goal.returns
returns c =
    let none : c.loop-word.words.items ≡ [] = c.in_default.ensures.items ∙ append-nil c.pop.new.self.items
    ∙ c.in_default.ensures.rest ∙ ap (λ n. take (n - 1) c.loop-word.words.items) c.in_default.ensures.cases.0 in
    ap (λ ws. filled c.args.config ws c.loop-word.drams.items) (sym none) ∙ c.loop-word.invariant.0
    ∙ filled_is c.args.config (fair c.args.config c.requires.good).some_banks (entries c.args.memory.now)

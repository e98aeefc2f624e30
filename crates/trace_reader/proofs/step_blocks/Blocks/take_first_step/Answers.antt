use Rattle.std.proofs.Common.{◌++◌, List, ap, sym, ◌∙◌, inl, inr}
use Rattle.std.specs.List.{flat_map}
use Rattle.std.proofs.lemmas.List.{drop_more}
use Rattle.programs.specs.Acts.{behind_first}
use Rattle.programs.specs.declared.steps.Step.{Step}
use Rattle.programs.specs.declared.steps.Step.TheVariants as step
use Rattle.trace_reader.proofs.step_blocks.Blocks.take_first_step.Goals as goal

pub returns-clause-waiting : goal.returns-clause-waiting
returns-clause-waiting c = λ received.
    let blocks = c.args.self.now in
    let behind = flat_map (λ block. block) blocks.full.items ++ blocks.back.items in
    elim c.requires.turned [
      | inl below ↦ c.replace_emptied_front.ensures.same
          ∙ sym (ap (λ (w : List Step). behind_first (w ++ behind) received)
          (drop_more blocks.front.items blocks.taken step.Advance below))
      | inr none ↦ absurd (c.requires.some none)
    ]

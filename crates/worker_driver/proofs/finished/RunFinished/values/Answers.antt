use Rattle.std.proofs.Common.{◌≡◌, ℕ, List, [], ◌∷◌, map, refl, sym, ap, ◌∙◌}
use Rattle.std.proofs.lemmas.Result.{IfOk-weaker}
use Rattle.machine_table.specs.Machine.{Machine}
use Rattle.machine_theorem.specs.Coherence.{coherent}
use Rattle.closed_machine.specs.RunParts.{state_of_run}
use Rattle.worker_driver.proofs.finished.RunFinished.values.Goals as goal

-- two functions that agree give the same list
maps_alike : (f g : ℕ → ℕ) → ((n : ℕ) → f n ≡ g n) → (ns : List ℕ) → map f ns ≡ map g ns
maps_alike f g alike [] = refl
maps_alike f g alike (n ∷ ns) = ap (λ x. x ∷ map f ns) (alike n) ∙ ap (λ xs. g n ∷ xs) (maps_alike f g alike ns)

pub returns : goal.returns
returns c = IfOk-weaker c.values.result _ _
    (λ values of m shown.
    let parts = shown.0 in
    of parts
    ∙ maps_alike _ _
    (λ word. sym (c.owners_and_values_are_of_states.ensures.numbered_values c.args.self.now.set_up.config
    c.args.self.now.set_up.memory (state_of_run c.args.self.now parts) parts.good parts.whole.reached word))
    c.args.words.now
    ∙ ap (λ (k : Machine). map (coherent k) c.args.words.now) shown.1)
    c.values.ensures.value

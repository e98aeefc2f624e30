use Rattle.std.proofs.Common.{◌≡◌, map, take}
use Rattle.machine_theorem.specs.Coherence.{coherent}
use Rattle.streamed_runs.proofs.streamed_run.StreamedRun.values.Given as goal

abbrev pub invariant-loop-word : goal.invariant-loop-word
invariant-loop-word l =
    l.values.items ≡ map (λ entry. (entry.0, coherent l.self.machine entry.0)) (take l.word-index l.word-items)

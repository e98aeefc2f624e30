use Rattle.std.proofs.Common.{◌≡◌, ℕ, ◌*◌, ◌-◌, ◌^◌}
use Rattle.network.specs.declared.counts.Counts.{Counts}
use Rattle.network.specs.Mail.{AreCounts}
use Rattle.seat_rule.specs.Rule.{counts_of}
use Rattle.closed_machine.specs.RunSums.{AreCountsOf}
use Rattle.closed_machine.proofs.run.Run.counts.Given as goal

-- what the seats so far counted is added up
abbrev pub invariant-loop-number : goal.invariant-loop-number
invariant-loop-number l =
    AreCounts l.counts (l.number * (2 ^ 64 - 1))
    × ((each : ℕ → Counts) → AreCountsOf l.self each → l.counts ≡ counts_of l.number each)

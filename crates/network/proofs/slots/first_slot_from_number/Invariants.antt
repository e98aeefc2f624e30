use Rattle.std.proofs.Common.{◌-◌, ◌<◌, ◌≤◌, ℕ, length}
use Rattle.network.specs.NumberedMessages.{number_at}
use Rattle.network.proofs.slots.first_slot_from_number.Given as goal

abbrev pub invariant-loop-low : goal.invariant-loop-low
invariant-loop-low l = record {
  order : l.low ≤ l.high;
  within : l.high ≤ length l.slots;
  before : (k : ℕ) → k < l.low → number_at l.slots k < l.number;
  after : (k : ℕ) → l.high ≤ k → k < length l.slots → l.number ≤ number_at l.slots k;
}

abbrev pub decreases-loop-low : goal.decreases-loop-low
decreases-loop-low l = l.high - l.low

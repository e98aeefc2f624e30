-- The owners of a line in a state: as in the machine of the state, and in the same state.
use Rattle.std.proofs.Common.{arith, ◌≡◌, ℕ, zero, suc, ◌+◌, refl, sym, ap₂, ◌∙◌, nat_cmp}
use Rattle.std.proofs.Math.Path.{fun_ext}
use Rattle.std.specs.FinMap.{FinMap}
use Rattle.private_cache.specs.CopyTable.{copy_of}
use Rattle.core_pts.specs.CoreTable.{CoreState}
use Rattle.machine_table.specs.declared.config.Config.{Config}
use Rattle.protocol.specs.Machine.{owned_below}
use Rattle.machine_theorem.specs.Coherence as machine
use Rattle.machine_theorem.specs.Coherence.{exclusive_copies}
use Rattle.machine_theorem.specs.Ownership.{owners}
use Rattle.machine_theorem.specs.States.{State, Same, first, numbered_from, numbered}
use Rattle.machine_theorem.specs.View.{copy_in}
use Rattle.machine_theorem.proofs.Bags.{bag-numbered}
use Rattle.machine_theorem.proofs.Coherence.{owned_first, owns_is, owners_weigh, owners_are}

copies_sum : (cores : ℕ → CoreState) (n line : ℕ) →
    exclusive_copies (first cores n) line ≡ owned_below (λ c. copy_in (cores c) line) n
copies_sum cores zero line = refl
copies_sum cores (suc n) line =
    ap₂ (λ a b. a + b) (sym (owns_is (copy_of (cores 0).cache line))) (copies_sum (λ c. cores (suc c)) n line)
    ∙ sym (owned_first (λ c. copy_in (cores c) line) n)

pub owners_numbered : (config : Config) (opening : FinMap nat_cmp ℕ) (a : State) (line : ℕ) →
    machine.owners (numbered config opening a) line ≡ owners config a line
owners_numbered config opening a line =
    cc (copies_sum a.cores config.cores line, owners_are (numbered_from 0 a.bag) line, bag-numbered 0 a.bag)

pub owners_same : (config : Config) (a b : State) → Same a b → (line : ℕ) → owners config a line ≡ owners config b line
owners_same config a b k line = grind (arith, fun_ext k.cores, owners_weigh a.bag line, owners_weigh b.bag line)

use Rattle.std.proofs.Common.{◌≡◌, ℕ, cond, arith, ap}
use Rattle.core_pts.specs.contracts.core_state.Core.{the_view}
use Rattle.core_pts.proofs.OpenCopies.{copies-counted}
use Rattle.core_pts.proofs.core_state.Core.free_copies.Goals as goal

pub overflow_sub-result : goal.overflow_sub-result
overflow_sub-result c =
    let whole = copies-counted (the_view c.self.inside) c.count-copies.result c.self.inside.has_copy c.self.invariant.1
    c.count-copies.ensures.free in
    let there : ◌≡◌ {A = ℕ} (cond c.self.inside.has_copy 1 0) 1 = ap (λ b. cond b 1 0) c.if-self.true in
    omega (arith, whole, there)

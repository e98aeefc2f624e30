use Rattle.std.proofs.Common.{ℕ, refl}
use Rattle.drawn_numbers.specs.Drawers.{HasDrawer}
use Rattle.drawn_numbers.proofs.DrawerLists.{one_further}
use Rattle.drawn_numbers.proofs.numbers.Numbers.is_whole.Goals as goal

pub loop-number-preserved : goal.loop-number-preserved
loop-number-preserved c =
    one_further (λ (j : ℕ). HasDrawer c.args.drawers.now j) c.loop-number.number c.loop-number.invariant
    (c.if-not-has_drawer.ensures.there refl)

-- What the lists end as, once a `&mut` to a value has ended.
use Rattle.std.specs.Prelude.{ℕ}
use Rattle.std.specs.Borrow.{Fml, RattleType, MutBor, Lends}
use Rattle.line_arena.specs.Rings.{with_value_of}
use Rattle.line_arena.specs.declared.chains.Chains.{Chains}
use Rattle.line_arena.specs.contracts.chains.Chains.{the_row}

abbrev pub lends_value : (R : RattleType) → MutBor (Chains R.Denot) → ℕ → MutBor R.Denot → Fml
lends_value R c x r = Lends (the_row R) R c r (λ w.
    record c.now { block = with_value_of c.now.block x w })

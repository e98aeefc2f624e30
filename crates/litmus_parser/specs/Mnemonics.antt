-- The words of instructions.
use Rattle.std.specs.Prelude.{ℕ, ◌||◌, Bool, if◌then◌else◌, List, Option, Some, None, codes}
use Rattle.std.specs.Str.{bytes_eq}
use Rattle.litmus_parser.specs.declared.syntax.Width.TheVariants.{Single, Double}
use Rattle.litmus_parser.specs.declared.forms.Mnemonic.{Mnemonic}
use Rattle.litmus_parser.specs.declared.forms.Mnemonic.TheVariants.{Load, Store, Swap, Li, Ori, Fence}

-- what a mnemonic names; the suffix .aq or .rl of a swap has no effect
abbrev pub mnemonic_of : List ℕ → Option Mnemonic
mnemonic_of w =
    if bytes_eq w (codes "lw") then Some (Load Single)
    else if bytes_eq w (codes "ld") then Some (Load Double)
    else if bytes_eq w (codes "sw") then Some (Store Single)
    else if bytes_eq w (codes "sd") then Some (Store Double)
    else if bytes_eq w (codes "li") then Some Li
    else if bytes_eq w (codes "ori") then Some Ori
    else if bytes_eq w (codes "fence") then Some Fence
    else if bytes_eq w (codes "amoswap.w") || bytes_eq w (codes "amoswap.w.aq")
    || bytes_eq w (codes "amoswap.w.rl") then Some (Swap Single)
    else if bytes_eq w (codes "amoswap.d") || bytes_eq w (codes "amoswap.d.aq")
    || bytes_eq w (codes "amoswap.d.rl") then Some (Swap Double)
    else None

-- the sets that a fence names
abbrev pub is_fence_set : List ℕ → Bool
is_fence_set w = bytes_eq w (codes "r") || bytes_eq w (codes "w") || bytes_eq w (codes "rw")

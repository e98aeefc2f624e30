-- Names of registers and locations, and what the initial block sets.
use Rattle.std.specs.Prelude.{ℕ, ◌==◌, ◌&&◌, Bool, false, List, Option, Some, None, option_and_then}
use Rattle.std.specs.List.{find}
use Rattle.litmus_parser.specs.declared.syntax.Name.{Name}
use Rattle.litmus_parser.specs.declared.syntax.Name.TheVariants.{Register, Location}
use Rattle.litmus_parser.specs.declared.syntax.Setting.{Setting}
use Rattle.litmus_parser.specs.declared.syntax.Setting.TheVariants.{Number, Address}
use Rattle.litmus_parser.specs.declared.syntax.Item.{Item}

-- the locations named so far, in the order in which they came
abbrev pub Names : Type 0
Names = List (List ℕ)

abbrev pub same_name : Name → Name → Bool
same_name (Register s q) (Register t r) = s == t && q == r
same_name (Location l) (Location m) = l == m
same_name name other = false

abbrev pub setting_address : Setting → Option ℕ
setting_address (Address l) = Some l
setting_address (Number n) = None

-- the location to which the first item that sets the thread's register sets it
abbrev pub address_of : List Item → ℕ → ℕ → Option ℕ
address_of items thread register =
    option_and_then (λ item. setting_address item.setting)
    (find (λ item. same_name item.name (Register thread register)) items)

-- A report in lines, or as one JSON object: what differs.
use Rattle.std.specs.Prelude.{ℕ, suc, ◌==◌, Bool, if◌then◌else◌, List, [], ◌∷◌, ◌++◌, codes, decimal}
use Rattle.report_lines.specs.declared.layout.Layout.{Layout}
use Rattle.report_lines.specs.declared.layout.Layout.TheVariants.{Lines, Json}
use Rattle.report_lines.specs.Members.{line, member, word_member}

-- the first in lines, the other in an object
unfoldable pub either : Layout → List ℕ → List ℕ → List ℕ
either Lines lines json = lines
either Json lines json = json

-- the version and the command, as an object begins
abbrev pub command_text : List ℕ → List ℕ
command_text command = codes "{\"version\":1" ++ word_member (codes "command") command

-- what a report begins with
unfoldable pub opening : Layout → List ℕ → List ℕ
opening Lines command = []
opening Json command = command_text command

-- what a report ends with
unfoldable pub closing : Layout → List ℕ
closing layout = either layout [] (codes "}\n")

-- before a list: how many items there are, or the member that has them
unfoldable pub list_opening : Layout → List ℕ → ℕ → List ℕ
list_opening Lines label count = line label (decimal count)
list_opening Json label count = member label (codes "[")

-- behind a list
unfoldable pub list_closing : Layout → List ℕ
list_closing layout = either layout [] (codes "]")

-- before an item of a list: a comma in an object, but not before the first
unfoldable pub parting : Layout → Bool → List ℕ
parting layout first = if first then [] else either layout [] (codes ",")

-- the items of a list, numbered from this number on, each behind what parts it from the one before
abbrev pub parted : {X : Type 0} → Layout → (ℕ → X → List ℕ) → ℕ → List X → List ℕ
parted layout text at [] = []
parted layout text at (x ∷ xs) = parting layout (at == 0) ++ text at x ++ parted layout text (suc at) xs

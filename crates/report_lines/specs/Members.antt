-- A label with a text: a line, or a member of an object.
use Rattle.std.specs.Prelude.{ℕ, List, [], ◌∷◌, ◌++◌, codes}

abbrev pub newline : List ℕ
newline = 10 ∷ []

-- a label, a space and a text
abbrev pub line : List ℕ → List ℕ → List ℕ
line label text = label ++ (32 ∷ text) ++ newline

-- behind another member: the label between quotation marks, a colon and a text
abbrev pub member : List ℕ → List ℕ → List ℕ
member label text = codes ",\"" ++ label ++ codes "\":" ++ text

-- the same with a word between quotation marks
abbrev pub word_member : List ℕ → List ℕ → List ℕ
word_member label word = member label (34 ∷ word) ++ 34 ∷ []

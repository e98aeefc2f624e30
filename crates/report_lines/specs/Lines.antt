-- What the texts of all reports share: a line each, or a member of an object.
use Rattle.std.specs.Prelude.{ℕ, List, [], ◌++◌, codes, decimal}
use Rattle.network.specs.declared.counts.Counts.{Counts}
use Rattle.report_lines.specs.declared.layout.Layout.{Layout}
use Rattle.report_lines.specs.declared.layout.Layout.TheVariants.{Lines, Json}
use Rattle.report_lines.specs.Hexadecimal.{address_text}
use Rattle.report_lines.specs.Layouts.{either}
use Rattle.report_lines.specs.Members.{line, member, newline, word_member}

-- a label and a number
unfoldable pub field : Layout → List ℕ → ℕ → List ℕ
field Lines label value = line label (decimal value)
field Json label value = member label (decimal value)

-- a label and a word. The names of tests and locations have only letters, digits and _ + . - [ ], and the other words
-- are a report's own: so between quotation marks they stand as they are.
unfoldable pub word_field : Layout → List ℕ → List ℕ → List ℕ
word_field Lines label word = line label word
word_field Json label word = word_member label word

-- the replies that were sent, by kind
abbrev pub counts_text : Layout → Counts → List ℕ
counts_text layout counts = field layout (codes "renewals") counts.renewals
    ++ field layout (codes "upgrades") counts.upgrades
    ++ field layout (codes "flushes") counts.flushes
    ++ field layout (codes "write-backs") counts.write_backs

-- a word of memory: its address and its value; in an object that has nothing else
abbrev pub value_text : Layout → ℕ → ℕ → List ℕ
value_text layout word value = either layout (codes "word ") (codes "\"") ++ address_text word
    ++ either layout (codes " ") (codes "\":") ++ decimal value ++ either layout newline []

-- A verdict on records in words.
use Rattle.std.specs.Prelude.{ℕ, List, [], ◌++◌, Option, Some, None, codes, decimal}
use Rattle.physiological_order.specs.declared.verdict.Verdict.{Verdict}
use Rattle.physiological_order.specs.declared.verdict.Verdict.TheVariants.{Legal, BadNumber, OutOfProgramOrder}
use Rattle.physiological_order.specs.declared.verdict.Verdict.TheVariants.{WrongValue}
use Rattle.report_lines.specs.declared.layout.Layout.{Layout}
use Rattle.report_lines.specs.declared.layout.Layout.TheVariants.{Lines, Json}
use Rattle.report_lines.specs.Layouts.{closing, either, opening}
use Rattle.report_lines.specs.Lines.{field, word_field}
use Rattle.report_lines.specs.Members.{newline}
use Rattle.trace_texts.specs.Records.{spaced_value}

-- a verdict: `legal`, or what is wrong
unfoldable pub verdict_name : Verdict → List ℕ
verdict_name Legal = codes "legal"
verdict_name (BadNumber number) = codes "bad number"
verdict_name (OutOfProgramOrder number) = codes "out of program order"
verdict_name (WrongValue number) = codes "wrong value"

-- the number that it is wrong with: the missing one, or that of the record at fault
abbrev pub wrong_number : Verdict → Option ℕ
wrong_number Legal = None
wrong_number (BadNumber number) = Some number
wrong_number (OutOfProgramOrder number) = Some number
wrong_number (WrongValue number) = Some number

-- a verdict in a line
abbrev pub verdict_line : Verdict → List ℕ
verdict_line verdict = verdict_name verdict ++ spaced_value (wrong_number verdict) ++ newline

abbrev pub number_member : Option ℕ → List ℕ
number_member None = []
number_member (Some number) = field Json (codes "number") number

-- the same as members, the first of them with this label
abbrev pub verdict_members : List ℕ → Verdict → List ℕ
verdict_members label verdict = word_field Json label (verdict_name verdict) ++ number_member (wrong_number verdict)

unfoldable pub verdict_text : Layout → List ℕ → Verdict → List ℕ
verdict_text Lines label verdict = verdict_line verdict
verdict_text Json label verdict = verdict_members label verdict

-- the report on a verdict
unfoldable pub check_text : Layout → Verdict → List ℕ
check_text layout verdict =
    opening layout (codes "check") ++ verdict_text layout (codes "verdict") verdict ++ closing layout

-- that no record is of the operation of a core at this place
unfoldable pub lack_words : List ℕ
lack_words = codes "no record of operation "

unfoldable pub lacking_text : Layout → (place core : ℕ) → List ℕ
lacking_text Lines place core = lack_words ++ decimal place ++ field Lines (codes " of core") core
lacking_text Json place core = word_field Json (codes "verdict") (codes "no record")
    ++ field Json (codes "place") place ++ field Json (codes "core") core

-- the report on records that are legal, and lack those of a core from this place on
unfoldable pub lack_text : Layout → (place core : ℕ) → List ℕ
lack_text layout place core = opening layout (codes "check") ++ lacking_text layout place core ++ closing layout

-- a verdict in the report on a run
abbrev pub order_text : Layout → Verdict → List ℕ
order_text layout verdict =
    either layout (codes "order ") [] ++ verdict_text layout (codes "order") verdict

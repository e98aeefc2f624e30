use Rattle.std.proofs.Common.{◌≡◌, min, take}
use Rattle.litmus_lexer.specs.Spelling.{value_of_digits}
use Rattle.litmus_lexer.proofs.words.capped_number.Given as goal

abbrev pub invariant-loop-digit : goal.invariant-loop-digit
invariant-loop-digit l = l.value ≡ min (value_of_digits (take l.digit-index l.word)) 2147483648

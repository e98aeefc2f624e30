use Rattle.std.proofs.Common.{sym, ◌∙◌, rules}
use Rattle.std.proofs.lemmas.List.{nil_from_length}
use Rattle.litmus_lexer.proofs.Pieces.{pieces-none, pieces-line_end, pieces-sign, pieces-word_split, letters, slashes}
use Rattle.litmus_lexer.specs.Pieces.{is_letter, is_slash}
use Rattle.litmus_lexer.proofs.tokens.next_token.Goals as goal
use Rattle.litmus_lexer.proofs.tokens.next_token.Goals.{then-is_word_byte, else-is_word_byte+then-is_slash}

pub returns-in_err-first-clause-pieces : goal.returns-in_err-first-clause-pieces
returns-in_err-first-clause-pieces c =
    rw c.from_residual.ensures (pieces-none _ _ c.count_leading_blanks.ensures.count (sym c.split_at.ensures.back
    ∙ nil_from_length _ c.in_err-first.ensures.cases))

pub returns-then-first-eq10-clause-pieces : goal.returns-then-first-eq10-clause-pieces
returns-then-first-eq10-clause-pieces c =
    pieces-line_end _ _ _ _ (record {
      blanks = c.count_leading_blanks.ensures.count;
      first = sym c.split_at.ensures.back
          ∙ c.in_ok-first.ensures.cases.0;
    }) c.if-first-eq10.true

pub returns-else-is_slash-clause-pieces : goal.returns-else-is_slash-clause-pieces
returns-else-is_slash-clause-pieces c =
    pieces-sign _ _ _ _ (record {
      blanks = c.count_leading_blanks.ensures.count;
      first = sym c.split_at.ensures.back
          ∙ c.in_ok-first.ensures.cases.0;
    })
    (search rules) (sym c.if-is_word_byte.ensures) (sym c.if-is_slash.ensures)

pub returns-clause-pieces : goal.returns-clause-pieces
returns-clause-pieces c = elim c.if-is_word_byte.branch [
  | then-is_word_byte w ↦ pieces-word_split is_letter letters _ _ _ _
      (record {
        blanks = c.count_leading_blanks.ensures.count;
        first = sym c.split_at.ensures.back
            ∙ c.in_ok-first.ensures.cases.0;
      })
      (sym w.if-is_word_byte.ensures) _ c.in_ok-first.ensures.cases.0 _
      (w.len-is ∙ w.count_leading_word_bytes-len.ensures.count) _ _ c.split_at-2.ensures.front c.split_at-2.ensures.back
  | else-is_word_byte+then-is_slash w ↦ pieces-word_split is_slash slashes _ _ _ _
      (record {
        blanks = c.count_leading_blanks.ensures.count;
        first = sym c.split_at.ensures.back
            ∙ c.in_ok-first.ensures.cases.0;
      })
      (sym w.if-is_slash.ensures) _ c.in_ok-first.ensures.cases.0 _
      (w.len-is ∙ w.count_leading_slashes.ensures.count) _ _ c.split_at-2.ensures.front c.split_at-2.ensures.back
]

-- What a line of an opening says, both ways, and why it is refused.
use Rattle.std.proofs.Common.{◌≡◌, ℕ, ◌^◌, List, [], ◌∷◌, Option, Some, None, refl, sym, subst, arith}
use Rattle.std.proofs.lemmas.Bool.Decides.{nat_tests}
use Rattle.std.proofs.lemmas.Grind.{common_steps}
use Rattle.std.specs.Prelude.{Result, Ok, Err, IfOk, IfErr, MatchOption}
use Rattle.trace_lines.specs.declared.errors.Kind.{Kind}
use Rattle.trace_lines.specs.declared.errors.Kind.TheVariants.{BadAddress, BadValue}
use Rattle.text_lines.specs.Reading.{◌>>=◌}
use Rattle.trace_lines.specs.Reading.{decimal_in, address_in, ended, address_at, number_field_at}
use Rattle.trace_lines.specs.Reading.{opening_at, opening_line_at}
use Rattle.trace_lines.specs.Grammar.{IsOpeningLine}
use Rattle.trace_lines.specs.Causes.{HasAddress, HasValue, OpeningCause}
use Rattle.trace_lines.proofs.Rules.{judged, missing, read_as}
use Rattle.trace_lines.proofs.Spellings.{number-takes, address-takes, address-again}
use Rattle.trace_lines.proofs.FieldKinds.{value-spelled, address-spelled}
use Rattle.trace_lines.proofs.RecordLines.{ended-judged, value-read}

abbrev OpeningJudged : List (List ℕ) → Result (ℕ × ℕ) Kind → Type 0
OpeningJudged fields (Ok told) = IsOpeningLine fields told
OpeningJudged fields (Err kind) = OpeningCause kind fields

opening-judged : (fields : List (List ℕ)) → OpeningJudged fields (opening_at fields)
unfolding opening_at address_at number_field_at
opening-judged fields =
    judged OpeningJudged BadAddress address_in fields _ (missing HasAddress address_in address-spelled fields)
    (λ field rest word e. let a = address-takes field word e in
    judged (λ fs r. OpeningJudged (field ∷ fs) r) BadValue (decimal_in 20 (2 ^ 64)) rest _
    (λ blank. ((word, a), missing HasValue (decimal_in 20 (2 ^ 64)) value-spelled rest blank))
    (λ written left value h. let v = number-takes 20 (2 ^ 64) written value h in
    ended-judged (λ fs r. OpeningJudged (field ∷ written ∷ fs) r) (word, value) left (a, v)
    (λ extra more. (field ∷ written ∷ [], extra, more, refl, ((word, value), (a, v))))))

abbrev pub LineJudged : List (List ℕ) → Result (Option (ℕ × ℕ)) Kind → Type 0
LineJudged fields r = IfOk r (λ told. MatchOption told (fields ≡ []) (λ read. IsOpeningLine fields read))
    × IfErr r (λ kind. OpeningCause kind fields)

line-from : (fields : List (List ℕ)) (r : Result (ℕ × ℕ) Kind) → OpeningJudged fields r →
    LineJudged fields (r >>= (λ told. Ok (Some told)))
line-from fields (Ok told) j = (j, tt)
line-from fields (Err kind) j = (tt, j)

line-judged : (fields : List (List ℕ)) → LineJudged fields (opening_line_at fields)
unfolding opening_line_at
line-judged [] = (refl, tt)
line-judged (first ∷ fields) = grind (arith, nat_tests, common_steps, line-from, opening-judged)

pub opening-told : (fields : List (List ℕ)) (r : Result (Option (ℕ × ℕ)) Kind) → r ≡ opening_line_at fields →
    LineJudged fields r
opening-told fields r e = subst (LineJudged fields) (sym e) (line-judged fields)

-- ---- what stands is read

opening-again : (fields : List (List ℕ)) (told : ℕ × ℕ) → IsOpeningLine fields told → opening_at fields ≡ Ok told
unfolding opening_at address_at ended
opening-again (address ∷ value ∷ []) told h =
    read_as BadAddress address_in address _ told.0 _ _ (address-again address told.0 h.0)
    (value-read value _ told.1 _ _ h.1 refl)
opening-again fields told h = absurd h

pub opening-only : (fields : List (List ℕ)) (told : ℕ × ℕ) → IsOpeningLine fields told →
    opening_line_at fields ≡ Ok (Some told)
unfolding opening_line_at
opening-only [] told h = absurd h
opening-only (first ∷ fields) told h = rw (opening-again (first ∷ fields) told h) refl

pub opening-nothing : (fields : List (List ℕ)) → fields ≡ [] → opening_line_at fields ≡ Ok None
unfolding opening_line_at
opening-nothing fields e = rw e refl

-- What a line of records says, both ways, and why it is refused.
use Rattle.std.proofs.Common.{◌≡◌, ℕ, ◌^◌, List, [], ◌∷◌, Option, Some, None, refl, inl, inr, sym, subst, codes, arith}
use Rattle.std.proofs.lemmas.Bool.Decides.{nat_tests}
use Rattle.std.proofs.lemmas.Grind.{common_steps}
use Rattle.std.specs.Prelude.{Result, Ok, Err, IfOk, IfErr, MatchOption}
use Rattle.physiological_order.specs.declared.operation.Op.{Op}
use Rattle.physiological_order.specs.declared.operation.Op.TheVariants.{Load, Store, Swap}
use Rattle.physiological_order.specs.declared.operation.Record.{Record}
use Rattle.trace_lines.specs.declared.errors.Kind.{Kind}
use Rattle.trace_lines.specs.declared.errors.Kind.TheVariants.{BadCore, BadOperation, BadAddress, BadValue, ExtraWords}
use Rattle.trace_lines.specs.declared.steps.Access.{Access}
use Rattle.trace_lines.specs.declared.steps.Access.TheVariants as access
use Rattle.text_lines.specs.Reading.{◌>>=◌}
use Rattle.trace_lines.specs.Reading.{decimal_in, address_in, access_in, ended, core_at, place_at, operation_at}
use Rattle.trace_lines.specs.Reading.{address_at, number_field_at, timed_at, record_rest_at, record_fields_at}
use Rattle.trace_lines.specs.Reading.{record_line_at}
use Rattle.trace_lines.specs.Grammar.{IsNumber, IsCoreNumber, IsValue, IsAddress, IsCompletion, IsRecordLine}
use Rattle.trace_lines.specs.Causes.{HasCoreNumber, HasPlaceNumber, HasAddress, HasValue, IsAccess, FewValues}
use Rattle.trace_lines.specs.Causes.{CompletionCause, RecordCause}
use Rattle.trace_lines.proofs.Rules.{judged, missing, read_as}
use Rattle.trace_lines.proofs.Spellings.{letter_of, number-takes, number-again, address-takes, address-again}
use Rattle.trace_lines.proofs.Spellings.{access-takes, access-again}
use Rattle.trace_lines.proofs.FieldKinds.{core-spelled, place-spelled, value-spelled, address-spelled, access-spelled}
use Rattle.trace_lines.proofs.FieldKinds.{access-stands}

abbrev value_in : List ℕ → Option ℕ
value_in = decimal_in 20 (2 ^ 64)

-- ---- what reading gives: a completion that stands, or a cause that stands

abbrev CompletionJudged : ℕ → ℕ → List (List ℕ) → Result Record Kind → Type 0
CompletionJudged core place fields (Ok r) =
    IsCompletion fields r.op r.received r.ts r.number × (r.core ≡ core) × (r.place ≡ place)
CompletionJudged core place fields (Err kind) = CompletionCause kind fields

pub ended-judged : {X : Type 0} (P : List (List ℕ) → Result X Kind → Type 0) (x : X) (fields : List (List ℕ)) →
    P [] (Ok x) → ((extra : List ℕ) (left : List (List ℕ)) → P (extra ∷ left) (Err ExtraWords)) →
    P fields (ended x fields)
unfolding ended
ended-judged P x [] done more = done
ended-judged P x (extra ∷ left) done more = more extra left

timed-judged : (P : List (List ℕ) → Result Record Kind → Type 0) (core place : ℕ) (op : Op) (received : Option ℕ)
    (fields : List (List ℕ))
    → ((fs : List (List ℕ)) → FewValues 2 fs → P fs (Err BadValue))
    → ((a b : List ℕ) (ts number : ℕ) → IsValue a ts → IsValue b number → P (a ∷ b ∷ [])
    (Ok (record { core = core; place = place; op = op; received = received; ts = ts; number = number })))
    → ((a b : List ℕ) (ts number : ℕ) → IsValue a ts → IsValue b number → (extra : List ℕ) (left : List (List ℕ)) →
    P (a ∷ b ∷ extra ∷ left) (Err ExtraWords))
    → P fields (timed_at core place op received fields)
unfolding timed_at number_field_at FewValues
timed-judged P core place op received fields few done more =
    judged P BadValue value_in fields _
    (λ blank. few fields (inl (missing HasValue value_in value-spelled fields blank)))
    (λ a rest ts e. judged (λ fs r. P (a ∷ fs) r) BadValue value_in rest _
    (λ blank. few (a ∷ rest) (inr (
      (ts, number-takes 20 (2 ^ 64) a ts e),
      inl (missing HasValue value_in value-spelled rest blank),
    )))
    (λ b left number f. ended-judged (λ fs r. P (a ∷ b ∷ fs) r) _ left
    (done a b ts number (number-takes 20 (2 ^ 64) a ts e) (number-takes 20 (2 ^ 64) b number f))
    (more a b ts number (number-takes 20 (2 ^ 64) a ts e) (number-takes 20 (2 ^ 64) b number f))))

read-judged : (core place : ℕ) (letter address : List ℕ) (word : ℕ) (left : List (List ℕ)) → letter ≡ codes "R" →
    IsAddress address word → CompletionJudged core place (letter ∷ address ∷ left)
    (record_rest_at core place access.Read word left)
unfolding number_field_at FewValues
read-judged core place letter address word left e a =
    judged (λ fs r. CompletionJudged core place (letter ∷ address ∷ fs) r) BadValue value_in left _
    (λ blank. inl (inl e, ((word, a), inl (missing HasValue value_in value-spelled left blank))))
    (λ field rest received h. let v = number-takes 20 (2 ^ 64) field received h in
    timed-judged (λ fs r. CompletionJudged core place (letter ∷ address ∷ field ∷ fs) r) core place (Load word)
    (Some received) rest
    (λ fs few. inl (inl e, ((word, a), inr ((received, v), few))))
    (λ b c ts number t n. ((e, a, v, t, n), refl, refl))
    (λ b c ts number t n extra left. (
      letter ∷ address ∷ field ∷ b ∷ c ∷ [],
      extra,
      left,
      refl,
      (Load word, Some received, ts, number, (e, a, v, t, n)),
    )))

write-judged : (core place : ℕ) (letter address : List ℕ) (word : ℕ) (left : List (List ℕ)) → letter ≡ codes "W" →
    IsAddress address word → CompletionJudged core place (letter ∷ address ∷ left)
    (record_rest_at core place access.Write word left)
unfolding number_field_at FewValues
write-judged core place letter address word left e a =
    judged (λ fs r. CompletionJudged core place (letter ∷ address ∷ fs) r) BadValue value_in left _
    (λ blank. inl (inr e, ((word, a), inl (missing HasValue value_in value-spelled left blank))))
    (λ field rest value h. let v = number-takes 20 (2 ^ 64) field value h in
    timed-judged (λ fs r. CompletionJudged core place (letter ∷ address ∷ field ∷ fs) r) core place (Store word value)
    None rest
    (λ fs few. inl (inr e, ((word, a), inr ((value, v), few))))
    (λ b c ts number t n. ((e, a, v, t, n), refl, refl))
    (λ b c ts number t n extra left. (
      letter ∷ address ∷ field ∷ b ∷ c ∷ [],
      extra,
      left,
      refl,
      (Store word value, None, ts, number, (e, a, v, t, n)),
    )))

swap-judged : (core place : ℕ) (letter address : List ℕ) (word : ℕ) (left : List (List ℕ)) → letter ≡ codes "S" →
    IsAddress address word → CompletionJudged core place (letter ∷ address ∷ left)
    (record_rest_at core place access.Swap word left)
unfolding number_field_at FewValues
swap-judged core place letter address word left e a =
    judged (λ fs r. CompletionJudged core place (letter ∷ address ∷ fs) r) BadValue value_in left _
    (λ blank. inr (e, ((word, a), inl (missing HasValue value_in value-spelled left blank))))
    (λ field rest value h. let v = number-takes 20 (2 ^ 64) field value h in
    judged (λ fs r. CompletionJudged core place (letter ∷ address ∷ field ∷ fs) r) BadValue value_in rest _
    (λ blank. inr (e, ((word, a), inr ((value, v), inl (missing HasValue value_in value-spelled rest blank)))))
    (λ second rest received g. let w = number-takes 20 (2 ^ 64) second received g in
    timed-judged (λ fs r. CompletionJudged core place (letter ∷ address ∷ field ∷ second ∷ fs) r) core place
    (Swap word value) (Some received) rest
    (λ fs few. inr (e, ((word, a), inr ((value, v), inr ((received, w), few)))))
    (λ b c ts number t n. ((e, a, v, w, t, n), refl, refl))
    (λ b c ts number t n extra left. (
      letter ∷ address ∷ field ∷ second ∷ b ∷ c ∷ [],
      extra,
      left,
      refl,
      (Swap word value, Some received, ts, number, (e, a, v, w, t, n)),
    ))))

completed-judged : (core place : ℕ) (letter address : List ℕ) (x : Access) (word : ℕ) (left : List (List ℕ)) →
    letter ≡ letter_of x → IsAddress address word → CompletionJudged core place (letter ∷ address ∷ left)
    (record_rest_at core place x word left)
completed-judged core place letter address access.Read word left e a =
    read-judged core place letter address word left e a
completed-judged core place letter address access.Write word left e a =
    write-judged core place letter address word left e a
completed-judged core place letter address access.Swap word left e a =
    swap-judged core place letter address word left e a

abbrev completion : ℕ → ℕ → List (List ℕ) → Result Record Kind
completion core place fields =
    operation_at fields >>= (λ x. address_at x.1 >>= (λ word. record_rest_at core place x.0 word.0 word.1))

completion-judged : (core place : ℕ) (fields : List (List ℕ)) →
    CompletionJudged core place fields (completion core place fields)
unfolding operation_at address_at
completion-judged core place fields =
    judged (CompletionJudged core place) BadOperation access_in fields _
    (missing IsAccess access_in access-spelled fields)
    (λ letter rest x e. judged (λ fs r. CompletionJudged core place (letter ∷ fs) r) BadAddress address_in rest _
    (λ blank. (
      access-stands letter x (access-takes letter x e),
      missing HasAddress address_in address-spelled rest blank,
    ))
    (λ field left word h. completed-judged core place letter field x word left (access-takes letter x e)
    (address-takes field word h)))

abbrev RecordJudged : List (List ℕ) → Result Record Kind → Type 0
RecordJudged fields (Ok r) = IsRecordLine fields r
RecordJudged fields (Err kind) = RecordCause kind fields

behind-place : (first : List ℕ) (core : ℕ) (second : List ℕ) (place : ℕ) (left : List (List ℕ))
    (r : Result Record Kind) → IsCoreNumber 64 first core → IsNumber 20 (2 ^ 32) second place →
    CompletionJudged core place left r → RecordJudged (first ∷ second ∷ left) r
behind-place first core second place left (Ok r) c p j = grind (arith, nat_tests)
behind-place first core second place left (Err BadCore) c p j = absurd j
behind-place first core second place left (Err BadValue) c p j = inr ((core, c), ((place, p), j))
behind-place first core second place left (Err kind) c p j = ((core, c), ((place, p), j))

record-judged : (fields : List (List ℕ)) → RecordJudged fields (record_fields_at fields)
unfolding record_fields_at core_at place_at
record-judged fields =
    judged RecordJudged BadCore (decimal_in 2 64) fields _
    (missing (HasCoreNumber 64) (decimal_in 2 64) (core-spelled 64) fields)
    (λ first rest core e. judged (λ fs r. RecordJudged (first ∷ fs) r) BadValue (decimal_in 20 (2 ^ 32)) rest _
    (λ blank. inl (
      (core, number-takes 2 64 first core e),
      missing HasPlaceNumber (decimal_in 20 (2 ^ 32)) place-spelled rest blank,
    ))
    (λ second left place f. behind-place first core second place left (completion core place left)
    (number-takes 2 64 first core e) (number-takes 20 (2 ^ 32) second place f) (completion-judged core place left)))

abbrev pub LineJudged : List (List ℕ) → Result (Option Record) Kind → Type 0
LineJudged fields r = IfOk r (λ told. MatchOption told (fields ≡ []) (λ read. IsRecordLine fields read))
    × IfErr r (λ kind. RecordCause kind fields)

line-from : (fields : List (List ℕ)) (r : Result Record Kind) → RecordJudged fields r →
    LineJudged fields (r >>= (λ told. Ok (Some told)))
line-from fields (Ok told) j = (j, tt)
line-from fields (Err kind) j = (tt, j)

line-judged : (fields : List (List ℕ)) → LineJudged fields (record_line_at fields)
unfolding record_line_at
line-judged [] = (refl, tt)
line-judged (first ∷ fields) = grind (arith, nat_tests, common_steps, line-from, record-judged)

pub record-told : (fields : List (List ℕ)) (r : Result (Option Record) Kind) → r ≡ record_line_at fields →
    LineJudged fields r
record-told fields r e = subst (LineJudged fields) (sym e) (line-judged fields)

-- ---- what stands is read

pub value-read : {Y : Type 0} (field : List ℕ) (fields : List (List ℕ)) (value : ℕ)
    (f : ℕ × List (List ℕ) → Result Y Kind) (y : Result Y Kind) → IsValue field value → f (value, fields) ≡ y →
    (number_field_at (field ∷ fields) >>= f) ≡ y
unfolding number_field_at
value-read field fields value f y h e =
    read_as BadValue value_in field fields value f y (number-again 20 (2 ^ 64) field value h) e

timed-again : (core place : ℕ) (op : Op) (received : Option ℕ) (b c : List ℕ) (ts number : ℕ) → IsValue b ts →
    IsValue c number → timed_at core place op received (b ∷ c ∷ [])
    ≡ Ok (record { core = core; place = place; op = op; received = received; ts = ts; number = number })
unfolding timed_at ended
timed-again core place op received b c ts number t n =
    value-read b _ ts _ _ t (value-read c _ number _ _ n refl)

completion-again : (core place : ℕ) (fields : List (List ℕ)) (op : Op) (received : Option ℕ) (ts number : ℕ) →
    IsCompletion fields op received ts number → completion core place fields
    ≡ Ok (record { core = core; place = place; op = op; received = received; ts = ts; number = number })
unfolding operation_at address_at
completion-again core place (letter ∷ address ∷ a ∷ b ∷ c ∷ []) (Load word) (Some received) ts number h =
    read_as BadOperation access_in letter _ access.Read _ _ (access-again letter access.Read h.0)
    (read_as BadAddress address_in address _ word _ _ (address-again address word h.1)
    (value-read a _ received _ _ h.2
    (timed-again core place (Load word) (Some received) b c ts number h.3 h.4)))
completion-again core place (letter ∷ address ∷ a ∷ b ∷ c ∷ []) (Store word value) None ts number h =
    read_as BadOperation access_in letter _ access.Write _ _ (access-again letter access.Write h.0)
    (read_as BadAddress address_in address _ word _ _ (address-again address word h.1)
    (value-read a _ value _ _ h.2 (timed-again core place (Store word value) None b c ts number h.3 h.4)))
completion-again core place (letter ∷ address ∷ a ∷ b ∷ c ∷ d ∷ []) (Swap word value) (Some received) ts number h =
    read_as BadOperation access_in letter _ access.Swap _ _ (access-again letter access.Swap h.0)
    (read_as BadAddress address_in address _ word _ _ (address-again address word h.1)
    (value-read a _ value _ _ h.2 (value-read b _ received _ _ h.3
    (timed-again core place (Swap word value) (Some received) c d ts number h.4 h.5))))
completion-again core place fields op received ts number h = absurd h

record-again : (fields : List (List ℕ)) (r : Record) → IsRecordLine fields r → record_fields_at fields ≡ Ok r
unfolding record_fields_at core_at place_at
record-again (first ∷ second ∷ fields) r h =
    read_as BadCore (decimal_in 2 64) first _ r.core _ _ (number-again 2 64 first r.core h.0)
    (read_as BadValue (decimal_in 20 (2 ^ 32)) second _ r.place _ _ (number-again 20 (2 ^ 32) second r.place h.1)
    (completion-again r.core r.place fields r.op r.received r.ts r.number h.2))
record-again _ r h = absurd h

pub record-only : (fields : List (List ℕ)) (r : Record) → IsRecordLine fields r → record_line_at fields ≡ Ok (Some r)
unfolding record_line_at
record-only [] r h = absurd h
record-only (first ∷ fields) r h = rw (record-again (first ∷ fields) r h) refl

pub record-nothing : (fields : List (List ℕ)) → fields ≡ [] → record_line_at fields ≡ Ok None
unfolding record_line_at
record-nothing fields e = rw e refl

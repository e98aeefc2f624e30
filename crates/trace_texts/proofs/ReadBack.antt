-- The text of records stands in the grammar for them.
use Rattle.std.proofs.Common.{◌≡◌, ℕ, suc, ◌^◌, ◌<◌, ◌≤◌, List, [], ◌∷◌, ◌++◌, length, codes, decimal}
use Rattle.std.proofs.Common.{Option, Some, None, refl, sym, ap, subst, ◌∙◌, arith, append_assoc}
use Rattle.std.specs.Prelude.{IfSome}
use Rattle.std.proofs.lemmas.List.{append-nil}
use Rattle.std.proofs.lemmas.Fmt.{length-decimal-le}
use Rattle.physiological_order.specs.declared.operation.Op.{Op}
use Rattle.physiological_order.specs.declared.operation.Op.TheVariants.{Load, Store, Swap}
use Rattle.physiological_order.specs.declared.operation.Record.{Record}
use Rattle.trace_lines.specs.Fields.{fields_of}
use Rattle.trace_lines.specs.Grammar.{IsRecordLine, IsCompletion}
use Rattle.trace_reader.specs.declared.limits.TheConstants.{MOST_BYTES, MOST_LINES}
use Rattle.trace_reader.specs.Grammar.{AreShort, TellRecords, AreRecords}
use Rattle.text_lines.specs.Lines.{lines_of}
use Rattle.trace_reader.specs.Lines.{worded, with_fields}
use Rattle.report_lines.specs.Hexadecimal.{address_text}
use Rattle.trace_texts.specs.Records.{spaced, record_text, records_text}
use Rattle.trace_texts.specs.Records.{AreComplete, AreRanged, HasItsValue, IsRangedOp}
use Rattle.trace_texts.specs.Records.{IsAnswered, IsWritable, AreWritable}
use Rattle.trace_texts.proofs.Numerals.{IsPlain, decimal-numeral, number-read, address-plain}
use Rattle.trace_texts.proofs.SpacedFields.{tail, ArePlain, line-parted, line-fields}

-- the fields behind the place
abbrev completion : Op → Option ℕ → ℕ → ℕ → List (List ℕ)
completion (Load word) (Some received) ts number =
    codes "R" ∷ address_text word ∷ decimal received ∷ decimal ts ∷ decimal number ∷ []
completion (Store word value) None ts number =
    codes "W" ∷ address_text word ∷ decimal value ∷ decimal ts ∷ decimal number ∷ []
completion (Swap word value) (Some received) ts number =
    codes "S" ∷ address_text word ∷ decimal value ∷ decimal received ∷ decimal ts ∷ decimal number ∷ []
completion op received ts number = []

abbrev behind : Record → List (List ℕ)
behind r = decimal r.place ∷ completion r.op r.received r.ts r.number

-- the line without its line feed
abbrev line : Record → List ℕ
line r = decimal r.core ++ tail (behind r)

glue : (a b c d e f g h : List ℕ) → ((a ++ b) ++ (c ++ d)) ++ (((e ++ f) ++ g) ++ h)
    ≡ (a ++ (b ++ (c ++ (d ++ (e ++ (f ++ (g ++ []))))))) ++ h
glue a b c d e f g h = rw (append-nil g) (simp append_assoc)

glue-store : (a b c d e f g h : List ℕ) → ((a ++ b) ++ ((c ++ d) ++ e)) ++ ((([] ++ f) ++ g) ++ h)
    ≡ (a ++ (b ++ (c ++ (d ++ (e ++ (f ++ (g ++ []))))))) ++ h
glue-store a b c d e f g h = rw (append-nil g) (simp append_assoc)

glue-swap : (a b c d e f g h i : List ℕ) → ((a ++ b) ++ ((c ++ d) ++ e)) ++ (((f ++ g) ++ h) ++ i)
    ≡ (a ++ (b ++ (c ++ (d ++ (e ++ (f ++ (g ++ (h ++ [])))))))) ++ i
glue-swap a b c d e f g h i = rw (append-nil h) (simp append_assoc)

text-from : (core place : ℕ) (op : Op) (received : Option ℕ) (ts number : ℕ) → IsAnswered op received →
    record_text (record { core = core; place = place; op = op; received = received; ts = ts; number = number })
    ≡ line (record { core = core; place = place; op = op; received = received; ts = ts; number = number }) ++ 10 ∷ []
text-from core place (Load word) (Some received) ts number h =
    glue (decimal core) (spaced (decimal place)) (spaced (codes "R")) (spaced (address_text word))
    (spaced (decimal received)) (spaced (decimal ts)) (spaced (decimal number)) (10 ∷ [])
text-from core place (Load word) None ts number h = absurd h
text-from core place (Store word value) (Some received) ts number h = absurd h
text-from core place (Store word value) None ts number h =
    glue-store (decimal core) (spaced (decimal place)) (spaced (codes "W")) (spaced (address_text word))
    (spaced (decimal value)) (spaced (decimal ts)) (spaced (decimal number)) (10 ∷ [])
text-from core place (Swap word value) (Some received) ts number h =
    glue-swap (decimal core) (spaced (decimal place)) (spaced (codes "S")) (spaced (address_text word))
    (spaced (decimal value)) (spaced (decimal received)) (spaced (decimal ts)) (spaced (decimal number)) (10 ∷ [])
text-from core place (Swap word value) None ts number h = absurd h

-- ---- one record

number-plain : (n : ℕ) → n < 2 ^ 64 → (0 < length (decimal n)) × IsPlain (decimal n) × (length (decimal n) ≤ 20)
number-plain n h = let k = decimal-numeral n h in
    (k.some, k.plain, length-decimal-le 20 n (omega arith) (omega arith) h)

completion-plain : (op : Op) (received : Option ℕ) (ts number : ℕ) → IsAnswered op received → ts < 2 ^ 64 →
    number < 2 ^ 64 → ArePlain (completion op received ts number) × (length (completion op received ts number) ≤ 6)
    × IsCompletion (completion op received ts number) op received ts number
completion-plain (Load word) (Some received) ts number h t n =
    let a = address-plain word h.0 in let v = number-plain received h.1 in
    let x = number-plain ts t in let y = number-plain number n in
    let read = λ (m : ℕ) (lt : m < 2 ^ 64). number-read 20 (2 ^ 64) m (omega arith) (omega arith) lt lt in (
      (
        omega arith,
        (omega arith, tt),
        (a.1, a.0, (v.0, v.1, (x.0, x.1, (y.0, y.1, tt, y.2), x.2), v.2), a.2),
        omega arith,
      ),
      omega arith,
      (refl, a.3, read received h.1, read ts t, read number n),
    )
completion-plain (Store word value) None ts number h t n =
    let a = address-plain word h.0 in let v = number-plain value h.1 in
    let x = number-plain ts t in let y = number-plain number n in
    let read = λ (m : ℕ) (lt : m < 2 ^ 64). number-read 20 (2 ^ 64) m (omega arith) (omega arith) lt lt in (
      (
        omega arith,
        (omega arith, tt),
        (a.1, a.0, (v.0, v.1, (x.0, x.1, (y.0, y.1, tt, y.2), x.2), v.2), a.2),
        omega arith,
      ),
      omega arith,
      (refl, a.3, read value h.1, read ts t, read number n),
    )
completion-plain (Swap word value) (Some received) ts number h t n =
    let a = address-plain word h.0 in let v = number-plain value h.1 in let w = number-plain received h.2 in
    let x = number-plain ts t in let y = number-plain number n in
    let read = λ (m : ℕ) (lt : m < 2 ^ 64). number-read 20 (2 ^ 64) m (omega arith) (omega arith) lt lt in (
      (
        omega arith,
        (omega arith, tt),
        (a.1, a.0, (v.0, v.1, (w.0, w.1, (x.0, x.1, (y.0, y.1, tt, y.2), x.2), w.2), v.2), a.2),
        omega arith,
      ),
      omega arith,
      (refl, a.3, read value h.1, read received h.2, read ts t, read number n),
    )
completion-plain (Load word) None ts number h t n = absurd h
completion-plain (Store word value) (Some received) ts number h t n = absurd h
completion-plain (Swap word value) None ts number h t n = absurd h

record-parts : (r : Record) → IsWritable r → ArePlain (decimal r.core ∷ behind r) × (length (behind r) ≤ 7)
    × IsRecordLine (decimal r.core ∷ behind r) r
record-parts r h =
    let c = completion-plain r.op r.received r.ts r.number h.4 h.2 h.3 in
    let wide : r.core < 2 ^ 64 = let k = h.0 in omega (arith, k) in
    let far : r.place < 2 ^ 64 = let k = h.1 in omega (arith, k) in
    let x = number-plain r.core wide in let y = number-plain r.place far in
    let small : r.core < 10 ^ 2 = let k = h.0 in omega (arith, k) in
    let near : r.place < 10 ^ 20 = let k = h.1 in omega (arith, k) in (
      (x.0, x.1, (y.0, y.1, c.0, y.2), x.2),
      let l = c.1 in omega (arith, l),
      (
        number-read 2 64 r.core (omega arith) small wide h.0,
        number-read 20 (2 ^ 32) r.place (omega arith) near far
            h.1,
        c.2,
      ),
    )

-- ---- all records

stands : (records : List Record) → AreWritable records → (length (lines_of (records_text records)) ≡ length records)
    × AreShort (lines_of (records_text records)) × TellRecords (worded (lines_of (records_text records))) records
unfolding AreWritable AreShort TellRecords worded lines_of
stands [] h = (refl, tt, tt)
stands (r ∷ records) h =
    let p = record-parts r h.0 in
    let l = line-fields (decimal r.core) (behind r) p.0 in
    let later = stands records h.1 in
    let whole : lines_of (records_text (r ∷ records)) ≡ line r ∷ lines_of (records_text records) =
    ap (λ (w : List ℕ). lines_of (w ++ records_text records))
    (text-from r.core r.place r.op r.received r.ts r.number h.0.4)
    ∙ ap lines_of (append_assoc (line r) (10 ∷ []) (records_text records))
    ∙ line-parted (line r) (records_text records) l.0 in
    let short : length (line r) ≤ MOST_BYTES = let a = l.2 in let b = p.1 in omega (arith, a, b) in
    let told : TellRecords (with_fields (fields_of (line r)) (worded (lines_of (records_text records)))) (r ∷
    records) =
    subst (λ (w : List (List ℕ)). TellRecords (with_fields w (worded (lines_of (records_text records)))) (r ∷ records))
    (sym l.1) (p.2, later.2) in
    subst (λ (w : List (List ℕ)). (length w ≡ length (r ∷ records)) × AreShort w × TellRecords (worded w) (r ∷
    records))
    (sym whole) (ap suc later.0, (short, later.1), told)

-- what the grammar has is what is complete and in the ranges of its types
answered : (op : Op) (received : Option ℕ) → HasItsValue op received → IsRangedOp op →
    IfSome received (λ v. v < 2 ^ 64) → IsAnswered op received
answered (Load word) (Some received) has op value = (op, value)
answered (Store word value) None has op none = op
answered (Swap word value) (Some received) has op v = (op.0, op.1, v)
answered (Load word) None has op v = absurd has
answered (Store word value) (Some received) has op v = absurd has
answered (Swap word value) None has op v = absurd has

pub writable : (records : List Record) → AreComplete records → AreRanged records → AreWritable records
unfolding AreWritable
writable [] c r = tt
writable (x ∷ records) c r =
    let k = c.0 in let q = r.0 in (
      (k.0, q.0, q.2.1, q.2.2, answered x.op x.received k.1 q.1 q.2.0),
      writable records c.1 r.1,
    )

pub line-each : (records : List Record) → AreWritable records →
    length (lines_of (records_text records)) ≡ length records
line-each records h = (stands records h).0

pub text-stands : (records : List Record) → AreWritable records → length records ≤ MOST_LINES →
    AreRecords (records_text records) records
text-stands records h few =
    let s = stands records h in let e = s.0 in ((omega (arith, e, few), s.1), s.2)

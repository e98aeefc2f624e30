use Rattle.std.proofs.Common.{◌≡◌, List, ℕ, length, subst, sym, ap, ◌∙◌}
use Rattle.std.proofs.lemmas.List.{take_all}
use Rattle.physiological_order.specs.declared.operation.Record.{Record}
use Rattle.trace_reader.specs.Grammar.{AreRecords}
use Rattle.text_lines.specs.Lines.{lines_of}
use Rattle.trace_texts.specs.Records.{AreRanged, records_text}
use Rattle.trace_texts.proofs.ReadBack.{line-each, text-stands, writable}
use Rattle.trace_texts.proofs.records.records_text.Goals as goal

pub returns-clause-lines : goal.returns-clause-lines
returns-clause-lines c = λ complete.
    let records = c.args.records.now in
    let all = take_all c.loop-told.told-index records c.loop-told-test.false in
    let ranged = subst (λ (rs : List Record). AreRanged rs) all c.loop-told.invariant.ranged in
    subst (λ (w : List ℕ). length (lines_of w) ≡ length records)
    (sym (c.loop-told.invariant.text ∙ ap records_text all)) (line-each records (writable records complete ranged))

pub returns-clause-stands : goal.returns-clause-stands
returns-clause-stands c = λ complete few.
    let records = c.args.records.now in
    let all = take_all c.loop-told.told-index records c.loop-told-test.false in
    let ranged = subst (λ (rs : List Record). AreRanged rs) all c.loop-told.invariant.ranged in
    subst (λ (w : List ℕ). AreRecords w records) (sym (c.loop-told.invariant.text ∙ ap records_text all))
    (text-stands records (writable records complete ranged) few)

pub returns-clause-ranged : goal.returns-clause-ranged
returns-clause-ranged c = subst (λ (rs : List Record). AreRanged rs)
    (take_all c.loop-told.told-index c.args.records.now c.loop-told-test.false) c.loop-told.invariant.ranged

use Rattle.std.proofs.Common.{◌≡◌, ℕ, Some, None, Ok, ap, refl, sym, ◌∙◌}
use Rattle.std.proofs.lemmas.Result.{IfErr-weaker, on_ok_weaker}
use Rattle.text_lines.specs.Reading.{◌>>=◌}
use Rattle.trace_lines.specs.Fields.{fields_of}
use Rattle.trace_lines.specs.Reading.{opening_line_at}
use Rattle.trace_reader.specs.Reading.{joined, opening_said}
use Rattle.trace_reader.proofs.OpeningsMeant.{opened-more, said-none, word-fault}
use Rattle.trace_reader.proofs.opening_texts.OpenedFromLines.add_line.Goals as goal

pub open_word_of_line-requires : goal.open_word_of_line-requires
open_word_of_line-requires c = let h = c.requires.held.2 in h.1 ∙ sym h.2

pub returns-in-Ok-None-clause-added : goal.returns-in-Ok-None-clause-added
returns-in-Ok-None-clause-added c told state h =
    let fields = fields_of c.args.line.now in
    let none : opening_line_at fields ≡ Ok None = cc (c.in-Ok-None.ensures.told, c.in-Ok-None.field-0-is) in
    let said = said-none state fields none in
    (state, None, said, (opened-more told state fields state None h.0 said, h.1, h.2))

pub returns-in-Ok-Some-clause-added : goal.returns-in-Ok-Some-clause-added
returns-in-Ok-Some-clause-added c =
    let fields = fields_of c.args.line.now in
    let one : ℕ × ℕ = (c.in-Ok-Some.addr, c.in-Ok-Some.value) in
    let next = c.open_word_of_line.new.self.memory in
    let line : opening_line_at fields ≡ Ok (Some one) = cc (c.in-Ok-Some.ensures.told, c.in-Ok-Some.field-0-is) in
    on_ok_weaker c.open_word_of_line.result (λ added told state h.
    let said : opening_said state fields ≡ Ok (next, Some one) =
    ap (λ r. r >>= joined state) line ∙ (rw h.2 at added.0) in
    (next, Some one, said, (opened-more told state fields next (Some one) h.0 said, added.1, refl)))
    c.open_word_of_line.ensures.added

pub returns-in-Ok-Some-clause-fault : goal.returns-in-Ok-Some-clause-fault
returns-in-Ok-Some-clause-fault c =
    let fields = fields_of c.args.line.now in
    let one : ℕ × ℕ = (c.in-Ok-Some.addr, c.in-Ok-Some.value) in
    let line : opening_line_at fields ≡ Ok (Some one) = cc (c.in-Ok-Some.ensures.told, c.in-Ok-Some.field-0-is) in
    IfErr-weaker c.open_word_of_line.result _ _ (λ e fault told state h.
    word-fault state fields c.args.number one e c.requires.some line (rw h.2 at fault))
    c.open_word_of_line.ensures.fault

-- The source has the text's bytes, and the sink had none.
use Rattle.std.proofs.Common.{◌≡◌, ◌∙◌, ap, subst, sym, ℕ, List, ◌++◌, Vec, Global}
use Rattle.report.specs.Litmus.{IsLitmusReport}
use Rattle.guide_uses.proofs.litmus.run_text.Goals as goal

pub returns : goal.returns
returns g c =
    let told = c.in_ok-done.ensures.reported in
    let options = c.args.options.now in
    let all_done = c.in_ok-done.done.all_done in
    let bytes : told.0 ≡ c.args.text.now = told.1 ∙ ap (λ s. s.now) c.new-source.ensures.reader in
    let none = ap (λ (v : Vec ℕ Global). v.items) c.new-sink.ensures.writer ∙ c.new.ensures.items in
    let report : c.into_inner.result.items ≡ told.2.0 =
    ap (λ (v : Vec ℕ Global). v.items) c.into_inner.ensures ∙ told.2.2 ∙ ap (λ before. before ++ told.2.0) none in
    subst (λ (text : List ℕ). IsLitmusReport options c.args.text.now all_done text) (sym report)
    (subst (λ (text : List ℕ). IsLitmusReport options text all_done told.2.0) bytes told.2.1)

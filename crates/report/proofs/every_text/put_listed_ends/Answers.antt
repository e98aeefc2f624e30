use Rattle.std.proofs.Common.{ℕ, ◌+◌, Bool, List, Option, option_map, ap, sym, ◌∙◌, arith}
use mir.Val.{bool_byte}
use Rattle.std.specs.Borrow.{Bor}
use Rattle.std.proofs.lemmas.Option.{slice_get-map, slice_get_within}
use Rattle.litmus_reader.specs.TestViews.{test_of}
use Rattle.report_lines.proofs.Lemmas.{parted_done, parted_next}
use Rattle.report.specs.EveryText.{end_text}
use Rattle.sequential_ends.specs.Every.{values_in}
use Rattle.report.proofs.EveryLine.{few_next, held_done, held_next}
use Rattle.report.proofs.every_text.put_listed_ends.Goals as goal

pub overflow_add-held : goal.overflow_add-held
overflow_add-held c =
    let within = slice_get_within c.args.every.now.ends c.loop-values.number _ (sym c.in-Some.ensures) in
    let few = few_next c.in_ok-is_held.is_held c.loop-values.held _ c.loop-values.number c.loop-values.invariant.few
    (ap (λ (n : ℕ). c.loop-values.held + n) c.from-held.ensures) in
    let fits = c.requires in
    omega (arith, within, few, fits)

pub overflow_add-number : goal.overflow_add-number
overflow_add-number c =
    let within = slice_get_within c.args.every.now.ends c.loop-values.number _ (sym c.in-Some.ensures) in
    let fits = c.requires in
    omega (arith, within, fits)

pub loop-values-smaller : goal.loop-values-smaller
loop-values-smaller c =
    let within = slice_get_within c.args.every.now.ends c.loop-values.number _ (sym c.in-Some.ensures) in
    omega (arith, within)

pub loop-values-preserved : goal.loop-values-preserved
loop-values-preserved c =
    let test = test_of c.args.test.now in
    let ends = c.args.every.now.ends in
    let more = ap (λ (n : ℕ). c.loop-values.held + n) c.from-held.ensures in
    let within = slice_get_within ends c.loop-values.number _ (sym c.in-Some.ensures) in
    record {
      ends = parted_next c.args.layout (λ at. end_text c.args.layout c.args.orders test) ends c.loop-values.number
          _ _ _ _ _ (sym c.in-Some.ensures) c.loop-values.invariant.ends c.in_ok-put_item_separator.ensures
          c.in_ok-is_held.ensures.text;
      held = held_next test (values_in c.args.every.now) c.loop-values.number _ c.loop-values.held _ _
          (slice_get-map (λ (end : List ℕ × List ℕ). end.0) ends c.loop-values.number
          ∙ ap (option_map (λ (end : List ℕ × List ℕ). end.0)) (sym c.in-Some.ensures))
          c.loop-values.invariant.held
          (more ∙ ap (λ (b : Bool). c.loop-values.held + bool_byte b) c.in_ok-is_held.ensures.held);
      few = few_next c.in_ok-is_held.is_held c.loop-values.held _ c.loop-values.number c.loop-values.invariant.few more;
      within = omega (arith, within);
    }

abbrev now_of : Option (Bor (List ℕ) × Bor (List ℕ)) → Option (List ℕ × List ℕ)
now_of o = option_map (λ end. (end.0.now, end.1.now)) o

pub returns-clause-ends : goal.returns-clause-ends
returns-clause-ends c =
    parted_done c.args.layout (λ at. end_text c.args.layout c.args.orders (test_of c.args.test.now))
    c.args.every.now.ends c.loop-values.number _ _ (sym c.get.ensures ∙ ap now_of c.in_default.is)
    c.loop-values.invariant.ends

pub returns-clause-held : goal.returns-clause-held
returns-clause-held c = held_done (test_of c.args.test.now) (values_in c.args.every.now) c.loop-values.number _ _
    (slice_get-map (λ (end : List ℕ × List ℕ). end.0) c.args.every.now.ends c.loop-values.number
    ∙ ap (option_map (λ (end : List ℕ × List ℕ). end.0)) (sym c.get.ensures ∙ ap now_of c.in_default.is))
    c.loop-values.invariant.held

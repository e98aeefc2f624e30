use Rattle.std.proofs.Common.{ℕ, List, Option, option_map, rules, ap, sym, ◌∙◌}
use Rattle.std.specs.Borrow.{Bor}
use Rattle.std.proofs.lemmas.Option.{slice_get-map}
use Rattle.litmus_reader.specs.TestViews.{test_of}
use Rattle.report_lines.proofs.Lemmas.{parted_done, parted_next}
use Rattle.report_text.specs.Lines.{state_text}
use Rattle.report_text.specs.States.{NamedValues, state_entries}
use Rattle.report_text.proofs.text.put_end_state_list.Goals as goal

abbrev entry : Bor NamedValues × ℕ → ℕ × NamedValues
entry e = (e.1, (e.0).now)

abbrev now_of : Option (Bor (Bor NamedValues) × Bor ℕ) → Option (Bor NamedValues × ℕ)
now_of o = option_map (λ e. (e.0.now, e.1.now)) o

pub loop-values-preserved : goal.loop-values-preserved
loop-values-preserved c =
    let entries = c.args.states.now.entries in
    record {
      states = parted_next c.args.layout (λ at. state_text c.args.layout (test_of c.args.test.now))
          (state_entries entries) c.loop-values.index _ _ _ _ _
          (slice_get-map entry entries c.loop-values.index ∙ ap (option_map entry) (sym c.in-Some.ensures.entry))
          c.loop-values.invariant.states c.in_ok-put_item_separator.ensures c.in_ok-put_end_state.ensures;
      within = search rules;
    }

pub returns : goal.returns
returns c =
    let entries = c.args.states.now.entries in
    parted_done c.args.layout (λ at. state_text c.args.layout (test_of c.args.test.now))
    (state_entries entries) c.loop-values.index _ _
    (slice_get-map entry entries c.loop-values.index ∙ ap (option_map entry) (sym c.get_index.ensures.entry ∙ ap now_of
    c.in_default.is)) c.loop-values.invariant.states

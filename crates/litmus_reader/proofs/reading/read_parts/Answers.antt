use Rattle.std.proofs.Common.{◌≡◌, true, List, [], length, Err, ap, sym, subst, ◌∙◌}
use Rattle.std.specs.List.{list_all}
use Rattle.std.proofs.lemmas.Result.{err_from_is_err_and}
use Rattle.piece_forms.specs.Reading.{reads}
use Rattle.litmus_parser.specs.Header.{text_pieces, preamble}
use Rattle.litmus_parser.specs.TreeViews.{tree_of}
use Rattle.litmus_parser.specs.declared.syntax.Name.{Name}
use Rattle.litmus_reader.specs.Seen.{seen_in}
use Rattle.litmus_reader.specs.WellFormed.{is_there}
use Rattle.litmus_reader.proofs.Fault.{no-memory}
use Rattle.litmus_reader.proofs.WellFormedTests.{cells_read, names_read}
use Rattle.litmus_reader.proofs.reading.read_parts.Goals as goal

pub returns-in_err-name-clause-early : goal.returns-in_err-name-clause-early
returns-in_err-name-clause-early c = λ e is.
    let p = err_from_is_err_and c.from_residual.result c.from_residual.ensures.1 in
    let n = no-memory c.in_err-name.field-0.0 (reads preamble 1 (text_pieces c.args.text.now []))
    c.in_err-name.ensures.read c.in_err-name.ensures.sure e is in
    (p.1 ∙ ap Err (p.2 ∙ n.0), n.1)

pub invariant_of-test : goal.invariant_of-test
invariant_of-test c =
    let seen = c.in_ok-add_seen_names.ensures
    ∙ ap (seen_in (tree_of c.in_ok-quantifier.expr)) c.new-seen.ensures.items in
    record {
      few = c.in_ok-threads.ensures.few;
      all_seen = seen;
      cells_there = cells_read _ _ _ _ c.in_ok-threads.ensures.read;
      names_there = subst (λ (names : List Name). list_all (is_there c.in_ok-threads.threads
          (length c.read_condition.new.locations)) names ≡ true) (sym seen)
          (names_read _ _ _ _ _ _ c.in_ok-quantifier.ensures);
    }

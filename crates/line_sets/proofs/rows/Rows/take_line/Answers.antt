use Rattle.std.proofs.Common.{get_or, set, sym, ap, ◌∙◌}
use Rattle.line_sets.specs.TaggedRows.{freed}
use Rattle.line_sets.proofs.RowFinds.{row-read}
use Rattle.line_sets.proofs.rows.Rows.take_line.Goals as goal

pub returns-clause-cut : goal.returns-clause-cut
returns-clause-cut g c =
    let at = c.in-Some.at in let now = c.args.self.now in
    let row = row-read c.self.view_is c.requires.in_table c.index.ensures in
    let was = row-read c.self.view_is c.requires.in_table c.index_mut.ensures.value in
    record {
      had = record {
        place = at;
        low = c.in-Some.ensures.0;
        is = ap (λ r. get_or r.cells at 0) (sym row);
      };
      is = ap (λ us. set us c.args.set c.take_line_out.new.self) c.self.view_is
          ∙ ap (set now c.args.set) (c.take_line_out.ensures ∙ ap (freed at) was);
    }

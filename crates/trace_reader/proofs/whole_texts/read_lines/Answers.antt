use Rattle.std.proofs.Common.{◌++◌, [], refl, suc, inl, inr, ap, ◌∙◌, arith}
use Rattle.std.proofs.lemmas.Result.{err_from_is_err_and}
use Rattle.trace_reader.specs.Ahead.{ahead}
use Rattle.trace_reader.specs.Outcomes.{Refused}
use Rattle.trace_reader.specs.Reading.{list_of_option, read_from}
use Rattle.trace_reader.proofs.LinesRead.{all-read, at-start, if-some, long-of-line, one-wanted, read-on}
use Rattle.trace_reader.proofs.LinesRead.{refused-long, refused-said}
use Rattle.trace_reader.proofs.whole_texts.read_lines.Goals as goal

pub returns-in_err-length-clause-fault : goal.returns-in_err-length-clause-fault
returns-in_err-length-clause-fault g c =
    let p = err_from_is_err_and c.from_residual.result c.from_residual.ensures.1 in
    let fault = c.in_err-length.field-0.0 in
    let i = c.lines.invariant in
    let failures = g.S.Source.failures in
    let says = g.L.FromLines.says in
    let first = g.L.FromLines.first in
    let told : Refused (read_from says 1 first) (failures c.args.source.now) (failures c.next_line.new.source)
    (g.S.Source.remaining c.args.source.now) fault =
    elim c.in_err-length.ensures.fault [
      | inl f ↦ inl (f.0, f.1 ∙ ap suc i.counted)
      | inr f ↦ inr (
        f.1 ∙ i.counted,
        inr (
          long-of-line c.lines.number fault f.0,
          refused-long says _ _ _ _ first i.state i.told c.lines.number i.read fault f.2 f.0,
        ),
      )
    ]
    in rw (p.1, p.2) told

pub returns-in_err-add_line-clause-fault : goal.returns-in_err-add_line-clause-fault
returns-in_err-add_line-clause-fault g c =
    let p = err_from_is_err_and c.from_residual-in_err-add_line.result c.from_residual-in_err-add_line.ensures.1 in
    let fault = c.in_err-add_line.field-0.0 in
    let i = c.lines.invariant in
    let l = c.in_ok-length in
    let failures = g.S.Source.failures in
    let says = g.L.FromLines.says in
    let first = g.L.FromLines.first in
    let short = rw c.in-Some.is at l.ensures.short in
    let told : Refused (read_from says 1 first) (failures c.args.source.now) (failures c.next_line.new.source)
    (g.S.Source.remaining c.args.source.now) fault =
    elim (c.in_err-add_line.ensures.fault i.told i.state i.holds) [
      | inl f ↦ inr (
        l.ensures.none_failed ∙ i.counted,
        inl (
          f.0,
          one-wanted says _ _ _ _ first i.state i.told c.lines.number i.read (ahead c.next_line.new.block) l.field-0
              l.ensures.next c.front.result.now c.in-Some.length c.in-Some.is short c.front.ensures f.1.0 f.1.1 f.1.2,
        ),
      )
      | inr f ↦ inr (
        l.ensures.none_failed ∙ i.counted,
        inr (
          f.0,
          refused-said says _ _ _ _ first i.state i.told c.lines.number i.read (ahead c.next_line.new.block) l.field-0
              l.ensures.next c.front.result.now c.in-Some.length c.in-Some.is short c.front.ensures fault f.1 f.2,
        ),
      )
    ]
    in rw (p.1, p.2) told

pub add_line-requires-clause-held : goal.add_line-requires-clause-held
add_line-requires-clause-held g c = let i = c.lines.invariant in (i.told, i.state, i.holds)

pub lines-preserved : goal.lines-preserved
lines-preserved g c =
    let i = c.lines.invariant in
    let l = c.in_ok-length in
    let short = rw c.in-Some.is at l.ensures.short in
    let added = c.in_ok-add_line.ensures.added i.told i.state i.holds in
    record {
      told = i.told ++ list_of_option added.1;
      state = added.0;
      holds = added.3;
      read = read-on g.L.FromLines.says _ _ _ _ g.L.FromLines.first i.state i.told c.lines.number i.read
          (ahead c.next_line.new.block) l.field-0 l.ensures.next c.front.result.now c.in-Some.length c.in-Some.is
          short c.front.ensures _ added.0 added.1 c.remove_line.ensures added.2;
      counted = l.ensures.none_failed ∙ i.counted;
      few = omega (arith, short.2);
    }

pub returns-clause-told : goal.returns-clause-told
returns-clause-told g c =
    let i = c.lines.invariant in
    let l = c.in_ok-length in
    if-some _ _ (g.S.Source.remaining c.args.source.now) (λ bytes is. (i.told, i.state, is, i.holds))
    (all-read g.L.FromLines.says _ _ _ _ g.L.FromLines.first i.state i.told c.lines.number i.read _ l.field-0
    l.ensures.next c.in_default.is)

pub lines-init : goal.lines-init
lines-init g c = record {
  told = [];
  state = g.L.FromLines.first;
  holds = c.requires;
  read = at-start g.L.FromLines.says g.L.FromLines.first (g.S.Source.remaining c.args.source.now)
      (ahead c.new-block.result) c.new-block.ensures;
  counted = refl;
  few = omega arith;
}

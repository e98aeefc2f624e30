use Rattle.std.proofs.Common.{List, length, refl, sym, ap, ◌∙◌, arith}
use Rattle.std.proofs.lemmas.Option.{slice_get_read, slice_get_within}
use Rattle.drawn_numbers.specs.declared.drawer.Drawer.{Drawer}
use Rattle.drawn_numbers.proofs.DrawerLists.{not_so_far}
use Rattle.drawn_numbers.proofs.whole.has_drawer.Goals as goal

pub returns-then-drawers-i-clause-there : goal.returns-then-drawers-i-clause-there
returns-then-drawers-i-clause-there c =
    let ds : List Drawer = c.args.drawers.now in
    let here = slice_get_read ds (length ds) c.loop-i.i c.index-drawers-i.result refl c.loop-i-test.true
    c.index-drawers-i.is in
    let same = ap (λ (d : Drawer). d.number) c.index-drawers-i.is in
    λ _. (c.loop-i.i, c.index-drawers-i.result, here, same ∙ c.if-drawers-i.true)

pub loop-i-preserved : goal.loop-i-preserved
loop-i-preserved c =
    let ds : List Drawer = c.args.drawers.now in
    let here = slice_get_read ds (length ds) c.loop-i.i c.index-drawers-i.result refl c.loop-i-test.true
    c.index-drawers-i.is in
    let same = ap (λ (d : Drawer). d.number) c.index-drawers-i.is in
    not_so_far ds c.loop-i.i c.index-drawers-i.result c.args.number here
    (λ e. c.if-drawers-i.false (sym same ∙ e)) c.loop-i.invariant

pub returns-clause-missing : goal.returns-clause-missing
returns-clause-missing c =
    λ h. let within = slice_get_within c.args.drawers.now h.0 h.1 h.2 in
    absurd (c.loop-i.invariant h.0 h.1 (omega arith) h.2 h.3)

use Rattle.std.proofs.Common.{sym, ap, ◌∙◌, arith}
use Rattle.std.specs.Prelude.{slice_get}
use Rattle.std.proofs.lemmas.Option.{slice_get_within}
use Rattle.closed_machine.proofs.RunStates.{issued_is, found_issued}
use Rattle.closed_machine.proofs.run.Run.issued.Goals as goal

pub find_by_number-at-requires : goal.find_by_number-at-requires
find_by_number-at-requires c =
    let there = c.requires.cores_there c.args.core c.if-core-self.false in
    (there.0, there.1, ap (λ xs. slice_get xs there.0) c.as_slice.ensures.value ∙ there.2, there.3)

pub index-requires : goal.index-requires
index-requires c =
    let items = c.args.self.now.cores.items in
    let p = c.find_by_number-at.ensures in
    let near = slice_get_within items c.find_by_number-at.result p.0
    (ap (λ xs. slice_get xs c.find_by_number-at.result) (sym c.as_slice.ensures.value) ∙ p.1) in
    let long = c.args.self.now.cores.ok.0 in
    omega arith

pub returns-clause-issued : goal.returns-clause-issued
returns-clause-issued c =
    λ parts below.
    let p = c.find_by_number-at.ensures in
    c.as_slice-2.ensures.value
    ∙ found_issued c.args.self.now parts c.args.core c.find_by_number-at.result p.0 c.index.result.now
    (ap (λ xs. slice_get xs c.find_by_number-at.result) (sym c.as_slice.ensures.value) ∙ p.1) p.2 c.index.ensures

pub returns-clause-accepted : goal.returns-clause-accepted
returns-clause-accepted c =
    λ below i q at number.
    let p = c.find_by_number-at.ensures in
    c.as_slice-2.ensures.value
    ∙ found_issued c.args.self.now c.requires c.args.core c.find_by_number-at.result p.0 c.index.result.now
    (ap (λ xs. slice_get xs c.find_by_number-at.result) (sym c.as_slice.ensures.value) ∙ p.1) p.2 c.index.ensures
    ∙ sym (issued_is c.args.self.now c.requires c.args.core i q at number)

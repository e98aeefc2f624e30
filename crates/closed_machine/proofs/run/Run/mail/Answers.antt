use Rattle.std.proofs.Common.{◌-◌, inl, inr, refl, sym, ap, ◌∙◌, arith}
use Rattle.std.specs.Prelude.{slice_get}
use Rattle.std.proofs.lemmas.Option.{slice_get_within}
use Rattle.closed_machine.specs.declared.parts.CorePart.{CorePart}
use Rattle.closed_machine.specs.declared.parts.BankPart.{BankPart}
use Rattle.closed_machine.proofs.RunStates.{found}
use Rattle.closed_machine.proofs.run.Run.mail.Goals as goal

pub find_by_number-at-requires : goal.find_by_number-at-requires
find_by_number-at-requires c =
    let there = c.requires.parts.cores_there c.args.number c.if-number-self.true in
    (there.0, there.1, ap (λ xs. slice_get xs there.0) c.as_slice.ensures.value ∙ there.2, there.3)

pub index-part-requires : goal.index-part-requires
index-part-requires c =
    let items = c.args.self.now.cores.items in
    let p = c.find_by_number-at.ensures in
    let near = slice_get_within items c.find_by_number-at.result p.0
    (ap (λ xs. slice_get xs c.find_by_number-at.result) (sym c.as_slice.ensures.value) ∙ p.1) in
    let long = c.args.self.now.cores.ok.0 in
    omega arith

pub returns-then-number-self : goal.returns-then-number-self
returns-then-number-self c =
    let p = c.find_by_number-at.ensures in
    let here = found (λ (x : CorePart). x.number) c.args.self.now.cores.items c.args.number c.find_by_number-at.result
    p.0 c.index-part.result.now (ap (λ xs. slice_get xs c.find_by_number-at.result) (sym c.as_slice.ensures.value)
    ∙ p.1) p.2 c.index-part.ensures in
    inl (c.find_by_number-at.result, c.index-part.result.now, here.0, here.1, refl, refl)

pub find_by_number-at-requires-2 : goal.find_by_number-at-requires-2
find_by_number-at-requires-2 c =
    let cores = c.args.self.now.set_up.config.cores in
    let there = c.requires.parts.banks_there (c.args.number - cores)
    (let b = c.if-number-self.false in let n = c.requires.seat in omega arith) in (
      there.0,
      there.1,
      ap (λ xs. slice_get xs there.0) c.as_slice-2.ensures.value ∙ there.2,
      (let n = there.3 in let b = c.if-number-self.false in omega arith),
    )

pub index-part-requires-2 : goal.index-part-requires-2
index-part-requires-2 c =
    let items = c.args.self.now.banks.items in
    let p = c.find_by_number-at-2.ensures in
    let near = slice_get_within items c.find_by_number-at-2.result p.0
    (ap (λ xs. slice_get xs c.find_by_number-at-2.result) (sym c.as_slice-2.ensures.value) ∙ p.1) in
    let long = c.args.self.now.banks.ok.0 in
    omega arith

pub returns : goal.returns
returns c =
    let p = c.find_by_number-at-2.ensures in
    let here = found (λ (x : BankPart). x.number) c.args.self.now.banks.items c.args.number c.find_by_number-at-2.result
    p.0 c.index-part-2.result.now (ap (λ xs. slice_get xs c.find_by_number-at-2.result) (sym c.as_slice-2.ensures.value)
    ∙ p.1) p.2 c.index-part-2.ensures in
    inr (c.find_by_number-at-2.result, c.index-part-2.result.now, here.0, here.1, refl, refl)

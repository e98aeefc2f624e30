use Rattle.std.proofs.Common.{ℕ, Option, option_map, refl, sym, ap, ◌∙◌, arith}
use Rattle.std.proofs.lemmas.Bool.Decides.{nat_tests}
use Rattle.std.proofs.lemmas.Option.{slice_get_read}
use Rattle.network.proofs.SlotChanges.{slice_get-all_there}
use Rattle.network.proofs.slots.nth_message_number.Goals as goal

pub returns-then-slots-count : goal.returns-then-slots-count
returns-then-slots-count c =
    let here = slice_get_read c.args.slots.now _ c.args.at c.in_ok-get.field-0.now refl
    (grind (arith, nat_tests, c.in_ok-get.ensures.lookup.0))
    c.in_ok-get.ensures.lookup.1 in
    sym (slice_get-all_there c.args.at c.args.slots.now (omega (arith, c.requires))
    ∙ ap (option_map (λ (x : ℕ × Option ℕ). x.0)) here)

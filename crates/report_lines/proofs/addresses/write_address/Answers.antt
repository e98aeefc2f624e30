use Rattle.std.proofs.Common.{◌-◌, ◌∙◌, arith, ap, sym, set, take}
use Rattle.std.proofs.lemmas.List.{take-set, take-set-le, take-take}
use Rattle.report_lines.proofs.addresses.write_address.Goals as goal

pub returns-clause-front : goal.returns-clause-front
returns-clause-front c =
    let at = c.write_hex-at.result in let new = c.write_hex-at.new.bytes in
    take-set (set new (at - 1) 120) (at - 2) 48 ∙ take-set-le (at - 2) new (at - 1) 120 (omega arith)
    ∙ sym (take-take (at - 2) at new (omega arith)) ∙ ap (take (at - 2)) c.write_hex-at.ensures.front
    ∙ take-take (at - 2) at c.args.bytes.now (omega arith)

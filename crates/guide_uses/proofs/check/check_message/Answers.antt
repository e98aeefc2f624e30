-- The verdict is the one that the records have.
use Rattle.std.proofs.Common.{rules, [], ◌∷◌}
use Rattle.guide_uses.proofs.Message.{told}
use Rattle.guide_uses.proofs.check.check_message.Goals as goal

-- src/check.rt:10:1
pub returns : goal.returns
returns c =
    told c.new.result c.deref.result.now
    (c.record.result ∷ c.record-2.result ∷ c.record-3.result ∷ c.record-4.result ∷ []) c.args.message c.check-2.result
    c.new.ensures (search rules) (search rules) c.one_verdict.ensures c.check-2.ensures.verdict

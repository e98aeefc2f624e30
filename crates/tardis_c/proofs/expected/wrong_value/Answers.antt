use Rattle.std.proofs.Common.{ap, sym, ◌∙◌}
use Rattle.physiological_order.specs.declared.operation.Record.{Record}
use Rattle.physiological_order.specs.Order.{flat}
use Rattle.tardis_c.proofs.MetValues.{carried, found}
use Rattle.tardis_c.proofs.expected.wrong_value.Goals as goal

pub index_of_record-requires : goal.index_of_record-requires
index_of_record-requires c =
    carried (flat c.args.memory.now) c.requires.0 c.args.records.now c.args.number c.requires.1

pub returns : goal.returns
returns c =
    let faulty = c.index-records-index_of_record in
    found (flat c.args.memory.now) c.args.records.now c.requires.1.arranged c.args.number faulty.result
    c.last_earlier_write-last.result c.wrong_value_by.result c.requires.1.arrangement
    (c.index_of_record.result, c.index_of_record.ensures.below, sym faulty.is)
    (ap (λ (r : Record). r.number) faulty.is ∙ c.index_of_record.ensures.named faulty.result)
    c.last_earlier_write-last.ensures c.wrong_value_by.ensures.none c.wrong_value_by.ensures.some

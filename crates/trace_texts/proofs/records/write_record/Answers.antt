use Rattle.std.proofs.Common.{arith}
use Rattle.trace_texts.proofs.Numerals.{short-decimal}
use Rattle.trace_texts.proofs.records.write_record.Goals as goal

pub write_digits-requires : goal.write_digits-requires
write_digits-requires c =
    let short = short-decimal c.from-2.result c.from-2.type_inv in (
      omega (
        arith,
        short,
        c.requires.room,
        c.write_record_end-at.ensures.begins,
        c.write_op-at.ensures.begins,
        c.write_spaced_number-at.ensures.begins,
      ),
      omega (
        arith,
        c.requires.within,
        c.write_record_end-at.ensures.ends,
        c.write_op-at.ensures.ends,
        c.write_spaced_number-at.ensures.ends,
        c.write_record_end-at.auto.bytes,
        c.write_op-at.auto.bytes,
        c.write_spaced_number-at.auto.bytes,
      ),
    )

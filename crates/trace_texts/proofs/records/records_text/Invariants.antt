use Rattle.std.proofs.Common.{◌≡◌, take}
use Rattle.trace_texts.specs.Records.{AreRanged, records_text}
use Rattle.trace_texts.proofs.records.records_text.Given as goal

abbrev pub invariant-loop-told : goal.invariant-loop-told
invariant-loop-told l = record {
  text : l.text.items ≡ records_text (take l.told-index l.records);
  ranged : AreRanged (take l.told-index l.records);
}

use Rattle.trace_reader.proofs.Lemmas.{record-reads}
use Rattle.trace_texts.specs.Records.{records_text}
use Rattle.trace_texts.proofs.ReadBack.{text-stands}
use Rattle.trace_texts.proofs.laws.written_records_are_read_back.Goals as goal

pub returns : goal.returns
returns c = λ rs writable few. record-reads (records_text rs) rs (text-stands rs writable few)

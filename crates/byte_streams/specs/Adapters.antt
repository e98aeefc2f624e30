-- What is under a source or a sink, and how often it has failed.
use Rattle.std.specs.Prelude.{ℕ}
use Rattle.byte_streams.specs.declared.adapters.FromRead.{FromRead}
use Rattle.byte_streams.specs.declared.adapters.ToWrite.{ToWrite}

abbrev pub reader_of : {R : Type 0} → FromRead R → R
reader_of source = source.inner

abbrev pub reads_failed : {R : Type 0} → FromRead R → ℕ
reads_failed source = source.failed.count

abbrev pub writer_of : {W : Type 0} → ToWrite W → W
writer_of sink = sink.inner

abbrev pub writes_failed : {W : Type 0} → ToWrite W → ℕ
writes_failed sink = sink.failed.count

use Rattle.std.proofs.Common.{append_assoc, refl}
use Rattle.report.proofs.progress.progress_line.Goals as goal

pub returns : goal.returns
returns c = simp (
  c.put_progress_amount-6.ensures.text,
  c.put_progress_amount-5.ensures.text,
  c.put_progress_amount-4.ensures.text,
  c.put_progress_amount-3.ensures.text,
  c.put_progress_amount-2.ensures.text,
  c.put_progress_amount.ensures.text,
  c.put_progress_bytes.ensures,
  c.new-line.ensures,
  c.from.ensures,
  c.stale_hits.ensures,
  c.counts-counts.ensures,
  c.kinds.ensures,
  append_assoc,
) refl

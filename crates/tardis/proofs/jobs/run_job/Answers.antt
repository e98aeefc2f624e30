use Rattle.std.proofs.Common.{refl}
use Rattle.tardis.proofs.jobs.run_job.Goals as goal

pub returns-in-Litmus : goal.returns-in-Litmus
returns-in-Litmus g c = rw c.in-Litmus.is (c.open.result, c.open.ensures, c.run_opened_litmus.ensures, refl)

pub returns-in-Ends : goal.returns-in-Ends
returns-in-Ends g c = rw c.in-Ends.is (c.open-in-Ends.result, c.open-in-Ends.ensures, c.list_opened_ends.ensures, refl)

pub returns-in-Trace : goal.returns-in-Trace
returns-in-Trace g c =
    rw c.in-Trace.is (c.open-in-Trace.result, c.open-in-Trace.ensures, c.run_opened_trace.ensures, refl)

pub returns-in-Stream : goal.returns-in-Stream
returns-in-Stream g c = rw c.in-Stream.is (
  c.open-in-Stream.result,
  c.open-in-Stream.ensures,
  c.stream_opened_trace.ensures.run,
  c.stream_opened_trace.ensures.quiet,
)

pub returns-in-Check : goal.returns-in-Check
returns-in-Check g c = rw c.in-Check.is (
  c.open_file_if_named-opening.result,
  c.open_file_if_named-opening.ensures,
  c.open-trace.result,
  c.open-records.result,
  c.open-trace.ensures,
  c.open-records.ensures,
  c.check_opened_files.ensures,
  refl,
)

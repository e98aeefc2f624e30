use Rattle.std.proofs.Common.{◌≡◌}
use Rattle.stop_flags.specs.Signalers.{IsSignalerOf, last_look, number_of}
use Rattle.thread_driver.proofs.work.signal_finished_programs.Given as goal

abbrev pub invariant-loop : goal.invariant-loop
invariant-loop g l = record {
  signaler : IsSignalerOf l.signals l.signaler;
  number : number_of l.signaler ≡ number_of l.fn.signaler;
  looked : last_look l.signaler ≡ last_look l.fn.signaler;
  stops : l.signaler.said.stops ≡ l.fn.signaler.said.stops;
  finished : l.signaler.said.finished ≡ l.counter;
}

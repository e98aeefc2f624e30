-- The numbers of errors, and the exit status of a run of the program.
use Rattle.std.specs.Prelude.{ℕ, Result, Ok, Err, if◌then◌else◌}
use Rattle.run_results.specs.declared.results.Done.{Done}
use Rattle.run_results.specs.declared.results.RunError.{RunError}
use Rattle.run_results.specs.declared.results.RunError.TheVariants.{Read, Write, NoMemory, Litmus, Trace, BadConfig}
use Rattle.run_results.specs.declared.results.RunError.TheVariants.{TooManyStates, Opening}

abbrev pub run_number : RunError → ℕ
run_number Read = 1
run_number Write = 2
run_number NoMemory = 3
run_number (Litmus fault) = 4
run_number (Trace fault) = 5
run_number BadConfig = 6
run_number (TooManyStates most enough) = 7
run_number (Opening fault) = 12

-- 0 if all runs are all done; 1 if one isn't, an allocation failed, or there are too many states; 2 if the text is
-- refused; 3 if the configuration is; 4 if reading or writing failed
abbrev pub status_of : Result Done RunError → ℕ
status_of (Ok done) = if done.all_done then 0 else 1
status_of (Err NoMemory) = 1
status_of (Err (TooManyStates most enough)) = 1
status_of (Err (Litmus fault)) = 2
status_of (Err (Trace fault)) = 2
status_of (Err (Opening fault)) = 2
status_of (Err BadConfig) = 3
status_of (Err Read) = 4
status_of (Err Write) = 4

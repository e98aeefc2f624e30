-- Words that ask for a trace as it is read ask for no threads.
use Rattle.std.proofs.Common.{◌≡◌, false, List, refl}
use Rattle.std.specs.Borrow.{Bor}
use Rattle.clap.specs.Words.{Row, Text}
use Rattle.command_line.specs.Job.{GivesJob, IsAskedBy}
use Rattle.command_line.specs.Options.{is_shared}
use Rattle.command_line.specs.declared.words.Job.{Job}
use Rattle.command_line.specs.declared.words.Job.TheVariants.{Check, Ends, Litmus, Stream, Trace}
use Rattle.run_options.specs.declared.options.RunOptions.{RunOptions}
use Rattle.run_options.specs.declared.options.Schedule.{Schedule}
use Rattle.run_options.specs.declared.options.Schedule.TheVariants.{FairRound, FairThreads, Round, Seed, Threads}
use Rattle.run_options.specs.declared.options.StreamOptions.{StreamOptions}
use Rattle.worker_driver.specs.SetUp.{FollowsPolicy}
use Rattle.tardis.specs.Answers.{CanBeDone}

by_policy : (run : RunOptions) (schedule : Schedule) → run.schedule ≡ schedule → is_shared schedule ≡ false →
    FollowsPolicy run
by_policy run Round is not = rw is (λ fair by. absurd cc)
by_policy run FairRound is not = rw is (λ fair by. absurd cc)
by_policy run Seed is not = rw is (λ fair by. absurd cc)
by_policy run Threads is not = absurd cc
by_policy run FairThreads is not = absurd cc

pub can_be_done : (words : List Text) → ((command : Text) (rows : List Row) (options : StreamOptions)
    (file : Bor Text) → GivesJob command rows (Stream options file) → is_shared options.run.schedule ≡ false) →
    (job : Job) → IsAskedBy words job → CanBeDone job
can_be_done words law (Stream options file) (found, taken, gives) =
    by_policy options.run options.run.schedule refl (law found.0 found.1 options file gives)
can_be_done words law (Litmus options file) asked = tt
can_be_done words law (Ends options file) asked = tt
can_be_done words law (Trace options file) asked = tt
can_be_done words law (Check options opening trace records) asked = tt

-- What the options of C stand for.
use Rattle.std.specs.Prelude.{ℕ, ◌==◌, Bool, Option, Some, None, if◌then◌else◌, nat_lt}
use Rattle.run_options.specs.declared.options.EndsOptions.{EndsOptions}
use Rattle.run_options.specs.declared.options.LitmusOptions.{LitmusOptions}
use Rattle.run_options.specs.declared.options.RunOptions.{RunOptions}
use Rattle.run_options.specs.declared.options.Schedule.TheVariants.{Round, FairRound, Seed}
use Rattle.run_options.specs.declared.options.TraceOptions.{TraceOptions}
use Rattle.tardis_c.specs.declared.options.PlainOptions.{PlainOptions}

-- a flag that is set
abbrev pub is_set : ℕ → Bool
is_set flag = nat_lt 0 flag

-- by a seed if that flag is set, and else by rounds, fair if that flag is set, on the machine that the options describe
abbrev pub run_options : PlainOptions → RunOptions
run_options plain = record {
  schedule = if is_set plain.by_seed then Seed else if is_set plain.fair then FairRound else Round;
  seed = plain.seed;
  workers = 1;
  limit = plain.limit;
  machine = record {
    lease = plain.lease;
    time = plain.time;
    banks = plain.banks;
    sets = plain.sets;
    ways = plain.ways;
    bank_sets = plain.bank_sets;
    bank_ways = plain.bank_ways;
    line_words = plain.line_words;
    messages = plain.messages;
    private_write = is_set plain.private_write;
  };
}

-- after how many operations each there is a row of counts: for 0 after none
abbrev pub every_of : ℕ → Option ℕ
every_of every = if every == 0 then None else Some every

abbrev pub litmus_options : PlainOptions → LitmusOptions
litmus_options plain = record { runs = plain.runs; json = is_set plain.json; run = run_options plain }

abbrev pub ends_options : (states orders json : ℕ) → EndsOptions
ends_options states orders json = record { most_states = states; orders = is_set orders; json = is_set json }

abbrev pub trace_options : PlainOptions → TraceOptions
trace_options plain = record {
  records = is_set plain.records;
  counts = is_set plain.counts;
  every = every_of plain.every;
  json = is_set plain.json;
  run = run_options plain;
}

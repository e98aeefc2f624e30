use Rattle.std.proofs.Common.{◌≡◌, inl, inr, ⊎_elim, ℕ, ◌<◌, List, length, sym, ap, ◌∙◌, subst, arith}
use Rattle.std.specs.Prelude.{slice_index_or}
use Rattle.std.specs.List.{list_any}
use Rattle.std.proofs.lemmas.Bool.{or_parts}
use Rattle.std.proofs.lemmas.List.{length-map}
use Rattle.std.proofs.lemmas.Option.{slice_get_within}
use Rattle.stop_flags.specs.declared.signaler.Signaler.{Signaler}
use Rattle.stop_flags.specs.Heard.{AllHeard}
use Rattle.stop_flags.specs.Signalers.{AreAllSignalers, IsNewSignaler}
use Rattle.thread_driver.specs.declared.worker.Rota.{Rota}
use Rattle.thread_driver.specs.declared.worker.Worker.{Worker}
use Rattle.thread_driver.specs.Given.{AtMost, Exactly}
use Rattle.thread_driver.specs.Hands.{HaveHandRoom}
use Rattle.thread_driver.proofs.Formed.{dealt_back, dealt_to, lengths_back, total_to}
use Rattle.thread_driver.proofs.Dealt.{ahead_of, all_gave, all_worked, banks_of, cores_of, lengths_after, value_of}
use Rattle.thread_driver.proofs.Dealt.{vs_count}
use Rattle.thread_driver.proofs.Used.{all_are_over, all_back, all_used, same_total, share_few, tells}
use Rattle.thread_driver.proofs.drive.drive_shift.Goals as goal

pub drive_team-requires-clause-ready : goal.drive_team-requires-clause-ready
drive_team-requires-clause-ready g c κs bounds i w at =
    let n : ℕ = length c.in_ok-hands.hands.cores.items in
    let s = c.args.shift.now in
    let ws = c.form_team.new.team.items in
    let dealt = dealt_to n s.cores.items s.programs.items s.banks.items c.deal_shift.new.hands c.form_team.new.hands ws
    c.deal_shift.ensures.dealt c.form_team.ensures.split c.form_team.ensures.empty in
    let a = g.P.Program.acts in
    let m = c.args.machine.now in
    let signals = c.in_ok-signals.signals in
    let made = c.in_ok-signals.ensures in
    let within = slice_get_within ws i w at in
    let as_many = length-map {B = Signaler} ws (λ (x : Worker g.row.P.Denot). x.signaler) in
    let same = ap length c.form_team.ensures.signalers in
    let lt : i < length c.in_ok-signals.signalers.items = omega arith in
    let it : slice_index_or c.in_ok-signals.signalers.items i w.signaler ≡ w.signaler =
    ap (λ xs. slice_index_or xs i w.signaler) (sym c.form_team.ensures.signalers)
    ∙ value_of (λ (x : Worker g.row.P.Denot). x.signaler) ws i w w.signaler at in
    let one : IsNewSignaler signals i w.signaler = subst (IsNewSignaler signals i) it (made.2 i w.signaler lt) in
    let total = total_to n s.cores.items s.programs.items s.banks.items c.deal_shift.new.hands c.form_team.new.hands ws
    c.form_team.ensures.split c.form_team.ensures.empty in
    let share = share_few (λ (v : Worker g.row.P.Denot). v.cores.items) ws i w at in
    let bank_share = share_few (λ (v : Worker g.row.P.Denot). v.banks.items) ws i w at in
    let few = c.requires.few in
    let dealt_total = c.deal_shift.ensures.total in (
      record {
        signaler = one.0;
        cores = cores_of a m n s.cores.items s.programs.items s.banks.items ws dealt c.requires.cores
            c.requires.banks c.requires.ahead i w at;
        banks = banks_of a m n s.cores.items s.programs.items s.banks.items ws dealt c.requires.cores
            c.requires.banks c.requires.ahead i w at;
      },
      ahead_of a m n s.cores.items s.programs.items s.banks.items ws dealt c.requires.cores c.requires.banks
          c.requires.ahead i w at,
      one.2,
      omega arith,
      omega arith,
    )

pub disband_team-requires-clause-room : goal.disband_team-requires-clause-room
disband_team-requires-clause-room g c =
    let ws = c.form_team.new.team.items in
    let as_many = length-map {B = Signaler} ws (λ (x : Worker g.row.P.Denot). x.signaler) in
    let same = ap length c.form_team.ensures.signalers in
    let long = c.drive_team.ensures.work.long in
    let made = c.in_ok-signals.ensures.1 in
    let kept = c.form_team.ensures.none_left.1 in
    let held = c.in_ok-signals.signalers.ok.1 in
    let count : c.args.workers ≡ length c.drive_team.new.team.items = omega arith in (
      subst (λ k. HaveHandRoom k c.form_team.new.hands) count
          (c.form_team.ensures.room c.args.workers (c.deal_shift.ensures.room c.args.workers
          c.in_ok-hands.ensures.room)),
      omega arith,
    )

pub close-requires : goal.close-requires
close-requires g c =
    let ws = c.form_team.new.team.items in
    let vs = c.drive_team.new.team.items in
    let signals = c.in_ok-signals.signals in
    let made = c.in_ok-signals.ensures in
    let rota : Rota = record { programs = c.len-cores.result; turns = c.args.turn_limit; fair = c.args.fair } in
    let as_many = length-map {B = Signaler} ws (λ (x : Worker g.row.P.Denot). x.signaler) in
    let same = ap length c.form_team.ensures.signalers in
    subst (AreAllSignalers signals) (sym c.disband_team.ensures.signalers)
    (all_back g.P.Program.acts c.args.machine.now signals rota ws vs c.drive_team.ensures.work
    (let long = made.1 in let many = made.0 in omega arith)
    (λ i w at.
    let within = slice_get_within ws i w at in
    let long = made.1 in
    let lt : i < length c.in_ok-signals.signalers.items = omega arith in
    let it : slice_index_or c.in_ok-signals.signalers.items i w.signaler ≡ w.signaler =
    ap (λ xs. slice_index_or xs i w.signaler) (sym c.form_team.ensures.signalers)
    ∙ value_of (λ (x : Worker g.row.P.Denot). x.signaler) ws i w w.signaler at in
    (subst (IsNewSignaler signals i) it (made.2 i w.signaler lt)).1))

pub gather_shift-requires-clause-lengths : goal.gather_shift-requires-clause-lengths
gather_shift-requires-clause-lengths g c =
    let n : ℕ = length c.in_ok-hands.hands.cores.items in
    let s = c.args.shift.now in
    let ws = c.form_team.new.team.items in
    let dealt = dealt_to n s.cores.items s.programs.items s.banks.items c.deal_shift.new.hands c.form_team.new.hands ws
    c.deal_shift.ensures.dealt c.form_team.ensures.split c.form_team.ensures.empty in
    let vs = c.drive_team.new.team.items in
    let h = c.disband_team.new.hands in
    let a = g.P.Program.acts in
    let m = c.args.machine.now in
    let most = AtMost c.args.turn_limit in
    let rota : Rota = record { programs = c.len-cores.result; turns = c.args.turn_limit; fair = c.args.fair } in
    let gave = all_gave a m c.in_ok-signals.signals rota ws vs c.drive_team.ensures.work in
    let long = vs_count a m n s.cores.items s.programs.items s.banks.items ws vs dealt most gave in
    lengths_back n vs h long c.disband_team.ensures.back (length s.cores.items) (length s.programs.items)
    (length s.banks.items) c.len-cores.result c.len-programs.result c.len-banks.result
    (c.len-cores.ensures ∙ s.cores.ok.0) (c.len-programs.ensures ∙ s.programs.ok.0)
    (c.len-banks.ensures ∙ s.banks.ok.0)
    (lengths_after a m n s.cores.items s.programs.items s.banks.items ws vs dealt most gave)

pub returns-clause-worked : goal.returns-clause-worked
returns-clause-worked g c =
    let n : ℕ = length c.in_ok-hands.hands.cores.items in
    let s = c.args.shift.now in
    let ws = c.form_team.new.team.items in
    let dealt = dealt_to n s.cores.items s.programs.items s.banks.items c.deal_shift.new.hands c.form_team.new.hands ws
    c.deal_shift.ensures.dealt c.form_team.ensures.split c.form_team.ensures.empty in
    let vs = c.drive_team.new.team.items in
    let h = c.disband_team.new.hands in
    let t = c.gather_shift.new.shift in
    let a = g.P.Program.acts in
    let m = c.args.machine.now in
    let most = AtMost c.args.turn_limit in
    let rota : Rota = record { programs = c.len-cores.result; turns = c.args.turn_limit; fair = c.args.fair } in
    let gave = all_gave a m c.in_ok-signals.signals rota ws vs c.drive_team.ensures.work in
    let long = vs_count a m n s.cores.items s.programs.items s.banks.items ws vs dealt most gave in
    let counts = c.gather_shift.ensures.long in
    let back = dealt_back n vs h long c.disband_team.ensures.back t.cores.items t.programs.items t.banks.items
    c.gather_shift.ensures.dealt in
    let told = c.told_by_team-told.ensures in
    let team = c.as_slice.ensures.value in
    all_worked a m c.args.fair most n s t ws vs
    c.told_by_team-told.result dealt gave (counts.0 ∙ c.len-cores.ensures ∙ s.cores.ok.0)
    (counts.1 ∙ c.len-programs.ensures ∙ s.programs.ok.0) (counts.2 ∙ c.len-banks.ensures ∙ s.banks.ok.0)
    c.requires.ahead.long back
    (told.no_memory ∙ ap (λ (us : List (Worker g.row.P.Denot)). list_any (λ u. u.told.no_memory) us) team)
    (told.is_exhausted ∙ ap (λ (us : List (Worker g.row.P.Denot)). list_any (λ u. u.told.is_exhausted) us) team)
    (told.has_progressed ∙ ap (λ (us : List (Worker g.row.P.Denot)). list_any (λ u. u.told.has_progressed) us) team)

pub returns-clause-used : goal.returns-clause-used
returns-clause-used g c goes =
    let n : ℕ = length c.in_ok-hands.hands.cores.items in
    let s = c.args.shift.now in
    let ws = c.form_team.new.team.items in
    let dealt = dealt_to n s.cores.items s.programs.items s.banks.items c.deal_shift.new.hands c.form_team.new.hands ws
    c.deal_shift.ensures.dealt c.form_team.ensures.split c.form_team.ensures.empty in
    let vs = c.drive_team.new.team.items in
    let h = c.disband_team.new.hands in
    let t = c.gather_shift.new.shift in
    let a = g.P.Program.acts in
    let m = c.args.machine.now in
    let signals = c.in_ok-signals.signals in
    let work = c.drive_team.ensures.work in
    let rota : Rota = record { programs = c.len-cores.result; turns = c.args.turn_limit; fair = c.args.fair } in
    let gave = all_gave a m signals rota ws vs work in
    let most = AtMost c.args.turn_limit in
    let long = vs_count a m n s.cores.items s.programs.items s.banks.items ws vs dealt most gave in
    let counts = c.gather_shift.ensures.long in
    let back = dealt_back n vs h long c.disband_team.ensures.back t.cores.items t.programs.items t.banks.items
    c.gather_shift.ensures.dealt in
    let told = c.told_by_team-told.ensures in
    let team = c.as_slice.ensures.value in
    let lacks = told.no_memory ∙ ap (λ (us : List (Worker g.row.P.Denot)). list_any (λ u. u.told.no_memory) us) team in
    let stops = told.is_exhausted
    ∙ ap (λ (us : List (Worker g.row.P.Denot)). list_any (λ u. u.told.is_exhausted) us) team in
    let moves = told.has_progressed
    ∙ ap (λ (us : List (Worker g.row.P.Denot)). list_any (λ u. u.told.has_progressed) us) team in
    let none = or_parts c.told_by_team-told.result.no_memory c.told_by_team-told.result.is_exhausted goes in
    let heard = subst AllHeard c.disband_team.ensures.signalers c.close.ensures in
    let total = same_total a m signals rota ws vs work
    ∙ (total_to n s.cores.items s.programs.items s.banks.items c.deal_shift.new.hands c.form_team.new.hands ws
    c.form_team.ensures.split c.form_team.ensures.empty).0 ∙ c.deal_shift.ensures.total.0 in
    let count = c.len-cores.ensures ∙ s.cores.ok.0 in
    ⊎_elim
    (λ all.
    inl (all_worked a m c.args.fair (Exactly c.args.turn_limit) n s t ws vs c.told_by_team-told.result dealt all
    (counts.0 ∙ count) (counts.1 ∙ c.len-programs.ensures ∙ s.programs.ok.0)
    (counts.2 ∙ c.len-banks.ensures ∙ s.banks.ok.0) c.requires.ahead.long back lacks stops moves))
    (λ over.
    inr (all_are_over a n t.cores.items t.programs.items vs back.cores_dealt back.programs_dealt
    (tells a m signals rota ws vs work) (omega arith)))
    (all_used a m signals rota ws vs work heard (sym lacks ∙ none.0) (sym stops ∙ none.1))

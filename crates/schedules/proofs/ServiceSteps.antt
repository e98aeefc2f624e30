-- What a run keeps of its start: each program was told of its core's records, and gives next what is still open; a core
-- without a program has neither.
use Rattle.std.proofs.Common.{◌≡◌, ◌≢◌, inl, inr, ℕ, ◌<◌, List, [], ◌∷◌, ◌++◌, Option, Some, None, IfSome, refl}
use Rattle.std.proofs.Common.{sym, ap, ◌∙◌, subst, append-nil, append_assoc}
use Rattle.std.specs.Prelude.{slice_get}
use Rattle.std.specs.List.{AllByRecursion}
use Rattle.std.proofs.lemmas.Bool.{cases_eq}
use Rattle.physiological_order.specs.declared.operation.Op.{Op}
use Rattle.physiological_order.specs.declared.operation.Record.{Record}
use Rattle.physiological_order.specs.Order.{of_core}
use Rattle.physiological_order.proofs.Lemmas.{each_push}
use Rattle.programs.specs.declared.steps.Step.TheVariants as step
use Rattle.machine_table.specs.Machine.{Machine}
use Rattle.protocol.proofs.Lemmas.{of_core-own, of_core-other}
use Rattle.machine_theorem.proofs.Lemmas.{get-set_same, get-set_other}
use Rattle.programs.specs.Acts.{Acts, next_of, next_in, done_of, done_in}
use Rattle.programs.specs.Performs.{Performs, Told, rests, advances, does}
use Rattle.schedules.proofs.TableSteps.{op_at, IsQuiet, Opens, IsDone}

module _ {P : Type 0} (acts : Acts P) where
  -- a program goes on by one operation, or by an advance
  performs_more : (rs : List Record) (p q : P) (r : Record) → Performs acts rs p q →
      acts.next q ≡ Some (step.Op r.op) → Performs acts (rs ++ r ∷ []) p (acts.done q r.received)
  performs_more rs p q r rests next = does next rests
  performs_more rs p q r (advances waiting more) next =
      advances waiting (performs_more rs (acts.done p None) q r more next)
  performs_more rs p q r (does {r = s} {rs = left} is more) next =
      does is (performs_more left (acts.done p s.received) q r more next)

  advances_more : (rs : List Record) (p q : P) → Performs acts rs p q → acts.next q ≡ Some step.Advance →
      Performs acts rs p (acts.done q None)
  advances_more rs p q rests next = advances next rests
  advances_more rs p q (advances waiting more) next = advances waiting (advances_more rs (acts.done p None) q more next)
  advances_more rs p q (does {r = s} {rs = left} is more) next =
      does is (advances_more left (acts.done p s.received) q more next)

  done_here : (programs : List P) (c : ℕ) (received : Option ℕ) (q : P) → slice_get programs c ≡ Some q →
      slice_get (done_in acts programs c received) c ≡ Some (acts.done q received)
  done_here programs c received q at =
      ap (λ (o : Option P). slice_get (done_of acts programs c received o) c) at ∙ get-set_same programs c
      (acts.done q received) q at

  pub done_there : (programs : List P) (c : ℕ) (received : Option ℕ) (k : ℕ) → k ≢ c →
      slice_get (done_in acts programs c received) k ≡ slice_get programs k
  done_there programs c received k other = by_program (slice_get programs c)
    where
      by_program : (o : Option P) → slice_get (done_of acts programs c received o) k ≡ slice_get programs k
      by_program None = refl
      by_program (Some q) = get-set_other programs c k (acts.done q received) other

  -- nothing was told yet
  untold : (o : Option P) (still_open : Option Op) → still_open ≡ None → Told acts [] still_open o o
  untold None still_open none = (refl, none, refl)
  untold (Some p) still_open none = record {
    now = p;
    is_now = refl;
    performs = rests;
    ahead = subst (λ (o : Option Op). IfSome o (λ op. acts.next p ≡ Some (step.Op op))) (sym none) tt;
  }

  module _ (start : Machine) (before : List P) where
    pub record Serving (m : Machine) (programs : List P) : Type 0 where
      pub added : List Record
      pub records : m.records ≡ start.records ++ added
      pub there : AllByRecursion (λ r. r.core < start.config.cores) added
      pub told : (core : ℕ) → op_at start core ≡ None →
          Told acts (of_core core added) (op_at m core) (slice_get before core) (slice_get programs core)

    pub served_none : Serving start before
    served_none =
        record {
          added = [];
          records = sym (append-nil start.records);
          there = tt;
          told = λ core none. untold (slice_get before core) (op_at start core) none;
        }

    module _ (m after : Machine) (programs : List P) (so_far : Serving m programs) where
      pub served_quiet : IsQuiet m after → Serving after programs
      served_quiet quiet =
          record {
            added = so_far.added;
            records = quiet.records ∙ so_far.records;
            there = so_far.there;
            told = λ core none.
                subst (λ (o : Option Op). Told acts (of_core core so_far.added) o (slice_get before core)
                (slice_get programs core)) (sym (quiet.ops core)) (so_far.told core none);
          }

      -- what is to be shown of one core alone, where all is as before for the others
      module _ (c : ℕ) (now : List P) (added : List Record) (records : after.records ≡ start.records ++ added)
          (there : AllByRecursion (λ r. r.core < start.config.cores) added)
          (same : (core : ℕ) → core ≢ c → of_core core added ≡ of_core core so_far.added)
          (ops : (core : ℕ) → core ≢ c → op_at after core ≡ op_at m core)
          (others : (core : ℕ) → core ≢ c → slice_get now core ≡ slice_get programs core)
          (here : (b : Option P) → Told acts (of_core c so_far.added) (op_at m c) b (slice_get programs c) →
          Told acts (of_core c added) (op_at after c) b (slice_get now c)) where
        abbrev IsTold : ℕ → Type 0
        IsTold core = op_at start core ≡ None →
            Told acts (of_core core added) (op_at after core) (slice_get before core) (slice_get now core)

        served_by : Serving after now
        served_by = record {
          added = added;
          records = records;
          there = there;
          told = λ core. elim (cases_eq core c) [
            | inl e ↦ subst IsTold (sym e) (λ none. here (slice_get before c) (so_far.told c none))
            | inr other ↦ λ none. rw (same core other, ops core other, others core other) (so_far.told core none)
          ];
        }

      pub served_issue : (c : ℕ) (op : Op) → next_in acts programs c ≡ Some (step.Op op) → Opens m c op after →
          Serving after programs
      served_issue c op next opens =
          served_by c programs so_far.added (opens.records ∙ so_far.records) so_far.there (λ core other. refl)
          opens.opened.there (λ core other. refl) here
        where
          here : (b : Option P) → Told acts (of_core c so_far.added) (op_at m c) b (slice_get programs c) →
              Told acts (of_core c so_far.added) (op_at after c) b (slice_get programs c)
          here None was = absurd (let e : None ≡ Some (step.Op op) = sym (ap (next_of acts) was.2) ∙ next in cc)
          here (Some p) was =
              let gives : acts.next was.now ≡ Some (step.Op op) = sym (ap (next_of acts) was.is_now) ∙ next in record {
                now = was.now;
                is_now = was.is_now;
                performs = was.performs;
                ahead = rw opens.opened.here gives;
              }

      -- what a program is told of
      more_told : (c : ℕ) (received : Option ℕ) (rs more : List Record) (p : P)
          (was : Told acts rs (op_at m c) (Some p) (slice_get programs c)) → op_at after c ≡ None →
          Performs acts more p (acts.done was.now received) →
          Told acts more (op_at after c) (Some p) (slice_get (done_in acts programs c received) c)
      more_told c received rs more p was closed performs = record {
        now = acts.done was.now received;
        is_now = done_here programs c received was.now was.is_now;
        performs = performs;
        ahead = rw closed tt;
      }

      pub served_done : (c : ℕ) (done : Record) → c < start.config.cores → IsDone m c done after →
          Serving after (done_in acts programs c done.received)
      served_done c done below is =
          served_by c (done_in acts programs c done.received) (so_far.added ++ done ∷ [])
          (is.records ∙ ap (λ rs. rs ++ done ∷ []) so_far.records ∙ append_assoc start.records so_far.added (done ∷ []))
          (each_push (λ r. r.core < start.config.cores) so_far.added done so_far.there (rw is.core below))
          (λ core other. of_core-other core so_far.added done (λ e. other (sym e ∙ is.core))) is.closed.there
          (done_there programs c done.received) here
        where
          here : (b : Option P) → Told acts (of_core c so_far.added) (op_at m c) b (slice_get programs c) →
              Told acts (of_core c (so_far.added ++ done ∷ [])) (op_at after c) b
              (slice_get (done_in acts programs c done.received) c)
          here None was = absurd (let e : None ≡ Some done.op = sym was.1 ∙ is.op in cc)
          here (Some p) was =
              let gives : acts.next was.now ≡ Some (step.Op done.op) = rw is.op at was.ahead in
              more_told c done.received (of_core c so_far.added) (of_core c (so_far.added ++ done ∷ [])) p was
              is.closed.here (rw (of_core-own c so_far.added done is.core)
              (performs_more (of_core c so_far.added) p was.now done was.performs gives))

      -- a core without an open operation advances, and its program is told
      pub served_advance : (c : ℕ) → op_at m c ≡ None → next_in acts programs c ≡ Some step.Advance →
          IsQuiet m after → Serving after (done_in acts programs c None)
      served_advance c free next quiet =
          served_by c (done_in acts programs c None) so_far.added (quiet.records ∙ so_far.records) so_far.there
          (λ core other. refl) (λ core other. quiet.ops core) (done_there programs c None) here
        where
          here : (b : Option P) → Told acts (of_core c so_far.added) (op_at m c) b (slice_get programs c) →
              Told acts (of_core c so_far.added) (op_at after c) b (slice_get (done_in acts programs c None) c)
          here None was = absurd (let e : None ≡ Some step.Advance = sym (ap (next_of acts) was.2) ∙ next in cc)
          here (Some p) was =
              more_told c None (of_core c so_far.added) (of_core c so_far.added) p was (quiet.ops c ∙ free)
              (advances_more (of_core c so_far.added) p was.now was.performs
              (sym (ap (next_of acts) was.is_now) ∙ next))

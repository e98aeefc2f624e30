-- From the opening, threads that were performed to their end are a run of the sequential machine.
use Rattle.std.proofs.Common.{◌≡◌, ◌≢◌, ℕ, zero, suc, ◌<◌, ◌≤◌, List, [], ◌∷◌, map, Option, refl, sym, ap, ◌∙◌, arith}
use Rattle.std.proofs.Common.{inl, inr}
use Rattle.std.specs.List.{AllByRecursion as Each}
use Rattle.std.proofs.lemmas.Bool.{cases_eq, eq-eqb, ne_eqb}
use Rattle.physiological_order.specs.declared.operation.Record.{Record}
use Rattle.physiological_order.specs.Order.{Memory, flat_received, flat_after, replay, replay_end, of_core}
use Rattle.physiological_order.specs.Order.{ReceivesAsReplayed}
use Rattle.litmus_reader.specs.Litmus.{Litmus}
use Rattle.litmus_reader.specs.ThreadSteps.{Thread, settled_thread, done_with}
use Rattle.sequential_machine.specs.SequentialMachine.{SequentialState, cells_of, registers_opened, memory_opened}
use Rattle.sequential_machine.specs.SequentialMachine.{sequential_opening, with_at, Steps, none}
use Rattle.sequential_machine.proofs.Doing.{Does}
use Rattle.sequential_machine.proofs.Tables.{everywhere}
use Rattle.sequential_machine.specs.Threads.{ThreadIsAt}
use Rattle.sequential_machine.proofs.ThreadSteps.{joined, settles, performs}

-- steps after which the memory is this one, and the first n threads stand so
pub record Runs (n : ℕ) (s : SequentialState) (m : Memory) (threads : ℕ → Thread) : Type 0 where
  pub end : SequentialState
  pub steps : Steps s end
  pub memory : end.memory ≡ m
  pub stand : (t : ℕ) → t < n → ThreadIsAt end t (threads t)

-- another thread's steps leave where a thread stands
pub still : (s u : SequentialState) (t : ℕ) (q : Thread) → (u.registers t ≡ s.registers t) × (u.left t ≡ s.left t) →
    ThreadIsAt s t q → ThreadIsAt u t q
still s u t q same at =
    record { thread = at.thread; registers = same.0 ∙ at.registers; left = same.1 ∙ at.left; ready = at.ready }

first_of_core : (r : Record) (rs : List Record) → of_core r.core (r ∷ rs) ≡ r ∷ of_core r.core rs
first_of_core r rs = rw (eq-eqb r.core r.core refl) refl

none_of_core : (c : ℕ) (r : Record) (rs : List Record) → c ≢ r.core → of_core c (r ∷ rs) ≡ of_core c rs
none_of_core c r rs ne = rw (ne_eqb r.core c (λ e. ne (sym e))) refl

both_same : (x y : Option ℕ) (xs ys : List (Option ℕ)) → x ∷ xs ≡ y ∷ ys → (x ≡ y) × (xs ≡ ys)
both_same x y xs ys e = (cc, cc)

pub runs : (n : ℕ) (rs : List Record) (s : SequentialState) (q last : ℕ → Thread) →
    ((t : ℕ) → t < n → ThreadIsAt s t (q t)) →
    Each (λ r. r.core < n) rs →
    ((t : ℕ) → t < n → Does (q t) (of_core t rs) (last t)) → ReceivesAsReplayed s.memory rs →
    Runs n s (replay_end s.memory (map (λ r. r.op) rs)) last
runs n [] s q last stand there performed values =
    record { end = s; steps = none; memory = refl; stand = λ t lt. rw (performed t lt) (stand t lt) }
runs n (r ∷ rs) s q last stand there performed values =
    let c = r.core in
    let p : Does (q c) (r ∷ of_core c rs) (last c) = rw (first_of_core r rs) at (performed c there.0) in
    let v = both_same (flat_received s.memory r.op) r.received (replay (flat_after s.memory r.op)
    (map (λ (x : Record). x.op) rs)) (map (λ (x : Record). x.received) rs) values in
    let after = done_with (q c) r.received in
    let g = performs s c (q c) r.op r.received (stand c there.0) p.0 v.0 in
    let i = runs n rs g.end (with_at q c after) last
    (everywhere (λ t x. t < n → ThreadIsAt g.end t x) q c after (λ lt. g.stands) (λ u ne lt. still s g.end u (q u)
    (g.others u ne) (stand u lt)))
    there.1
    (everywhere (λ t x. t < n → Does x (of_core t rs) (last t)) q c after (λ lt. p.1)
    (λ u ne lt. rw (none_of_core u r rs ne) at (performed u lt))) (rw g.memory v.1) in
    record {
      end = i.end;
      steps = joined s g.end i.end g.steps i.steps;
      memory = i.memory ∙ ap (λ (m : Memory). replay_end m (map (λ (x : Record). x.op) rs)) g.memory;
      stand = i.stand;
    }

-- a test's thread at its first memory instruction
abbrev pub start : Litmus → ℕ → Thread
start test t = settled_thread t (registers_opened test t) test.cells

pub record Opens (test : Litmus) (n : ℕ) : Type 0 where
  pub runs : Runs n (sequential_opening test) (memory_opened test) (start test)
  pub others : (t : ℕ) → n ≤ t → (runs.end.registers t ≡ registers_opened test t) ×
      (runs.end.left t ≡ cells_of t test.cells)

pub opens : (test : Litmus) (n : ℕ) → Opens test n
opens test zero = record {
  runs = record { end = sequential_opening test; steps = none; memory = refl; stand = λ t lt. absurd (omega arith) };
  others = λ t le. (refl, refl);
}
opens test (suc n) =
    let o = opens test n in
    let old = o.runs.end in
    let own = o.others n (omega arith) in
    let g = settles n test.cells old own.1 in
    record {
      runs = record {
        end = g.end;
        steps = joined (sequential_opening test) old g.end o.runs.steps g.steps;
        memory = g.memory ∙ o.runs.memory;
        stand = λ t lt. elim (cases_eq t n) [
          | inl e ↦ rw e (rw own.0 at g.stands)
          | inr ne ↦ still old g.end t (start test t) (g.others t ne) (o.runs.stand t (omega arith))
        ];
      };
      others = λ t le.
          let same = g.others t (λ e. absurd (omega arith)) in
          let before = o.others t (omega arith) in (same.0 ∙ before.0, same.1 ∙ before.1);
    }

-- from the opening
pub whole : (test : Litmus) (n : ℕ) (rs : List Record) (last : ℕ → Thread) → Each (λ r. r.core < n) rs →
    ((t : ℕ) → t < n → Does (start test t) (of_core t rs) (last t)) → ReceivesAsReplayed (memory_opened test) rs →
    Runs n (sequential_opening test) (replay_end (memory_opened test) (map (λ r. r.op) rs)) last
whole test n rs last there performed values =
    let o = (opens test n).runs in
    let r = runs n rs o.end (start test) last o.stand there performed (rw o.memory values) in
    record {
      end = r.end;
      steps = joined (sequential_opening test) o.end r.end o.steps r.steps;
      memory = r.memory ∙ ap (λ (m : Memory). replay_end m (map (λ (x : Record). x.op) rs)) o.memory;
      stand = r.stand;
    }

-- Threads and values in a row, one more at the end.
use Rattle.std.proofs.Common.{◌≡◌, ℕ, zero, suc, ◌+◌, ◌++◌, List, [], ◌∷◌, length, refl, ap, ◌∙◌, arith}
use Rattle.litmus_reader.specs.Litmus.{Litmus}
use Rattle.litmus_reader.specs.ThreadSteps.{Thread}
use Rattle.machine_table.specs.Machine.{Machine}
use Rattle.machine_theorem.specs.Coherence.{coherent}
use Rattle.worker_driver.specs.Runs.{started, threads_from, values_from}

thread_behind : (test : Litmus) (start n : ℕ) → threads_from test start n ++ started test (start + n) ∷ [] ≡
    threads_from test start (suc n)
thread_behind test start zero = ap (λ k. started test k ∷ []) (omega arith)
thread_behind test start (suc n) =
    ap (λ (xs : List Thread). started test start ∷ xs)
    (ap (λ k. threads_from test (start + 1) n ++ started test k ∷ []) (omega arith)
    ∙ thread_behind test (start + 1) n)

value_behind : (m : Machine) (start n : ℕ) → values_from m start n ++ coherent m (start + n) ∷ [] ≡
    values_from m start (suc n)
value_behind m start zero = ap (λ k. coherent m k ∷ []) (omega arith)
value_behind m start (suc n) =
    ap (λ (xs : List ℕ). coherent m start ∷ xs)
    (ap (λ k. values_from m (start + 1) n ++ coherent m k ∷ []) (omega arith) ∙ value_behind m (start + 1) n)

pub next_thread : (test : Litmus) (n : ℕ) → threads_from test 0 n ++ started test n ∷ [] ≡ threads_from test 0 (n + 1)
next_thread test n =
    (let from_0 : n ≡ 0 + n = omega arith in ap (λ k. threads_from test 0 n ++ started test k ∷ []) from_0)
    ∙ thread_behind test 0 n ∙ (let more : suc n ≡ n + 1 = omega arith in ap (λ k. threads_from test 0 k) more)

pub next_value : (m : Machine) (n : ℕ) → values_from m 0 n ++ coherent m n ∷ [] ≡ values_from m 0 (n + 1)
next_value m n =
    (let from_0 : n ≡ 0 + n = omega arith in ap (λ k. values_from m 0 n ++ coherent m k ∷ []) from_0)
    ∙ value_behind m 0 n ∙ (let more : suc n ≡ n + 1 = omega arith in ap (λ k. values_from m 0 k) more)

pub threads_count : (test : Litmus) (start n : ℕ) → length (threads_from test start n) ≡ n
threads_count test start zero = refl
threads_count test start (suc n) = ap suc (threads_count test (start + 1) n)

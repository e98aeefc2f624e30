-- The threads of a litmus test by turns: each turn is one thread's next memory operation, with its instructions without
-- memory behind it. What a thread received says where it stands.
use Rattle.std.specs.Prelude.{◌≡◌, ℕ, zero, suc, ◌<◌, List, [], ◌∷◌, ◌++◌, map, replicate, Option, Some, None}
use Rattle.std.specs.Prelude.{slice_get, slice_index_or, unwrap_or}
use Rattle.std.specs.FinMap as finite
use Rattle.physiological_order.specs.declared.operation.Op.{Op}
use Rattle.physiological_order.specs.declared.operation.Op.TheVariants.{Load, Store, Swap}
use Rattle.physiological_order.specs.Order.{Memory, flat_received}
use Rattle.litmus_reader.specs.Litmus.{Litmus}
use Rattle.litmus_reader.specs.OpeningMemory.{words_opened}
use Rattle.litmus_reader.specs.ThreadSteps.{Thread, settled_thread, next_operation, done_with}
use Rattle.litmus_reader.specs.Truth.{end_value}
use Rattle.sequential_machine.specs.SequentialMachine.{registers_opened}

pub record Point : Type 0 where
  -- the words of the memory by their numbers; those behind them are 0
  pub words : List ℕ
  -- by thread: what each of its operations received, one after the other; a store counts as 0
  pub received : List (List ℕ)

abbrev pub word_in : List ℕ → Memory
word_in words a = unwrap_or (slice_get words a) 0

-- the words, with one set
abbrev pub with_word_in : List ℕ → ℕ → ℕ → List ℕ
with_word_in [] zero v = v ∷ []
with_word_in [] (suc a) v = 0 ∷ with_word_in [] a v
with_word_in (w ∷ words) zero v = v ∷ words
with_word_in (w ∷ words) (suc a) v = w ∷ with_word_in words a v

abbrev pub words_after : List ℕ → Op → List ℕ
words_after words (Load a) = words
words_after words (Store a v) = with_word_in words a v
words_after words (Swap a v) = with_word_in words a v

-- what an operation receives
abbrev pub value_for : List ℕ → Op → ℕ
value_for words op = unwrap_or (flat_received (word_in words) op) 0

-- a thread at its first memory instruction
abbrev pub thread_started : Litmus → ℕ → Thread
thread_started test t = settled_thread t (registers_opened test t) test.cells

-- a thread once its next operations received these values
abbrev pub resumed : Thread → List ℕ → Thread
resumed q [] = q
resumed q (v ∷ vs) = resumed (done_with q (Some v)) vs

abbrev pub thread_at : Litmus → Point → ℕ → Thread
thread_at test p t = resumed (thread_started test t) (slice_index_or p.received t [])

abbrev pub operation_at : Litmus → Point → ℕ → Option Op
operation_at test p t = next_operation (thread_at test p t)

-- the lists, with one value more behind that of the thread
abbrev pub with_received : List (List ℕ) → ℕ → ℕ → List (List ℕ)
with_received [] t v = []
with_received (vs ∷ lists) zero v = (vs ++ v ∷ []) ∷ lists
with_received (vs ∷ lists) (suc t) v = vs ∷ with_received lists t v

-- the point behind a thread's operation
abbrev pub turned : Point → ℕ → Op → Point
turned p t op =
    record { words = words_after p.words op; received = with_received p.received t (value_for p.words op) }

-- the words that a memory's entries set
abbrev pub words_set : List (ℕ × ℕ) → List ℕ
words_set [] = []
words_set (e ∷ es) = with_word_in (words_set es) e.0 e.1

abbrev pub point_opened : Litmus → Point
point_opened test =
    record {
      words = words_set (finite.entries (words_opened test.items finite.empty));
      received = replicate test.threads [];
    }

-- the point is reached from the opening by so many turns
pub data Reached (test : Litmus) : ℕ → Point → Type 0 where
  opened : Reached test 0 (point_opened test)
  turn : {k : ℕ} {p : Point} (t : ℕ) (op : Op) → Reached test k p → t < test.threads →
      operation_at test p t ≡ Some op → Reached test (suc k) (turned p t op)

-- no thread has an operation left
abbrev pub IsFinished : Litmus → Point → Type 0
IsFinished test p = (t : ℕ) → t < test.threads → operation_at test p t ≡ None

-- the first n threads
abbrev pub threads_at : Litmus → Point → ℕ → List Thread
threads_at test p zero = []
threads_at test p (suc n) = threads_at test p n ++ thread_at test p n ∷ []

-- the values of the condition's names
abbrev pub values_at : Litmus → Point → List ℕ
values_at test p = map (end_value (threads_at test p test.threads) p.words) test.seen

-- some turns lead to a point at which all threads have finished, and the names have these values there
pub record IsEnd (test : Litmus) (values : List ℕ) : Type 0 where
  pub turns : ℕ
  pub point : Point
  pub reached : Reached test turns point
  pub finished : IsFinished test point
  pub values_are : values ≡ values_at test point

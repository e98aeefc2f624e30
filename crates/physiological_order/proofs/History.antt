-- One more record behind those of its time or an earlier one: what the records receive, and the memory up to a time.
use Rattle.std.proofs.Common.{◌≡◌, ℕ, ◌<◌, ◌≤◌, ◌≢◌, Bool, cond, leb, eqb, List, [], ◌∷◌, map}
use Rattle.std.proofs.Common.{refl, sym, ap, ap₂, ◌∙◌, arith}
use Rattle.std.specs.List.{AllByRecursion as Each}
use Rattle.std.proofs.lemmas.Bool.Decides.{nat_tests}
use Rattle.std.proofs.lemmas.Bool.{cond_both, leb-false, le-leb, lt-leb, cond-false, ne_eqb}
use Rattle.physiological_order.specs.declared.operation.Op.{Op}
use Rattle.physiological_order.specs.declared.operation.Op.TheVariants.{Load, Store, Swap}
use Rattle.physiological_order.specs.declared.operation.Record.{Record}
use Rattle.physiological_order.specs.Order.{Memory, address, with_word, flat_received, flat_after, replay, replay_end}
use Rattle.physiological_order.specs.Completion.{placed, Receives, memory_at, Undisturbed}

-- the times never fall
abbrev pub Sorted : List Record → Type 0
Sorted [] = Unit {0}
Sorted (r ∷ rs) = Each (λ s. r.ts ≤ s.ts) rs × Sorted rs

pub each_weaker : {P Q : Record → Type 0} → ((s : Record) → P s → Q s) → (rs : List Record) → Each P rs → Each Q rs
each_weaker f [] h = tt
each_weaker f (r ∷ rs) h = (f r h.0, each_weaker f rs h.1)

pub each_placed : (P : Record → Type 0) (r : Record) (rs : List Record) → P r → Each P rs → Each P (placed r rs)
each_placed P r [] p h = (p, tt)
each_placed P r (s ∷ ss) p h = let rest = each_placed P r ss p h.1 in grind arith

-- records after a time change nothing up to it
pub memory_at-late : (m : Memory) (rs : List Record) (t : ℕ) → Each (λ s. t < s.ts) rs → memory_at m rs t ≡ m
memory_at-late m [] t h = refl
memory_at-late m (r ∷ rs) t h = ap (λ b. memory_at (cond b (flat_after m r.op) m) rs t) (lt-leb r.ts t h.0)
    ∙ memory_at-late m rs t h.1

-- a word after a step depends on that word before it alone
pub flat_after-word : (m n : Memory) (op : Op) (a : ℕ) → m a ≡ n a → flat_after m op a ≡ flat_after n op a
flat_after-word m n op a h = grind arith

pub flat_received-word : (m n : Memory) (op : Op) → m (address op) ≡ n (address op) →
    flat_received m op ≡ flat_received n op
flat_received-word m n op h = grind arith

-- records that don't read or write a word receive the same whatever it holds
pub Receives-elsewhere : (m n : Memory) (w : ℕ) (rs : List Record) → ((a : ℕ) → a ≢ w → m a ≡ n a) →
    Each (λ s. address s.op ≢ w) rs → Receives m rs → Receives n rs
Receives-elsewhere m n w [] same other h = tt
Receives-elsewhere m n w (r ∷ rs) same other h = (
  h.0 ∙ flat_received-word m n r.op (same (address r.op) other.0),
  Receives-elsewhere (flat_after m r.op) (flat_after n r.op) w rs (λ a ne. flat_after-word m n r.op a (same a ne))
      other.1 h.1,
)

with_word-other : (m : Memory) (w v a : ℕ) → a ≢ w → m a ≡ with_word m w v a
with_word-other m w v a ne = sym (cond-false (eqb a w) v (m a) (ne_eqb a w ne))

-- what comes later than a time, where what has a property comes no later, doesn't have it
pub apart : (P : Record → Type 0) (t : ℕ) (xs : List Record) → Each (λ s. t < s.ts) xs →
    Each (λ s. P s → s.ts ≤ t) xs → Each (λ s. P s → ⊥) xs
apart P t [] late k = tt
apart P t (x ∷ xs) late k = ((λ p. omega (arith, k.0 p, late.0)), apart P t xs late.1 k.1)

-- what stands behind r receives the same with r
behind : (m : Memory) (op : Op) (t : ℕ) (rs : List Record) → Each (λ s. t < s.ts) rs → Undisturbed op t rs →
    Receives m rs → Receives (flat_after m op) rs
behind m (Load a) t rs late u h = h
behind m (Store a v) t rs late u h =
    Receives-elsewhere m (with_word m a v) a rs (with_word-other m a v) (apart (λ s. address s.op ≡ a) t rs late u) h
behind m (Swap a v) t rs late u h =
    Receives-elsewhere m (with_word m a v) a rs (with_word-other m a v) (apart (λ s. address s.op ≡ a) t rs late u) h

undisturbed_tail : (op : Op) (t : ℕ) (s : Record) (ss : List Record) → Undisturbed op t (s ∷ ss) → Undisturbed op t ss
undisturbed_tail (Load a) t s ss u = tt
undisturbed_tail _ t s ss u = u.1

-- the key: legal values stay legal when a record is put behind all of its time, if it received what the memory at
-- its time gives, and no record of a word that it writes stands behind it
pub Receives-placed : (m : Memory) (r : Record) (rs : List Record) → Sorted rs → Receives m rs →
    r.received ≡ flat_received (memory_at m rs r.ts) r.op → Undisturbed r.op r.ts rs → Receives m (placed r rs)
Receives-placed m r [] s h e u = (e, tt)
Receives-placed m r (x ∷ xs) s h e u =
    cond_both (leb x.ts r.ts) (x ∷ placed r xs) (r ∷ x ∷ xs) (Receives m)
    (λ b. (
      h.0,
      Receives-placed (flat_after m x.op) r xs s.1 h.1
          (e ∙ ap (λ c. flat_received (memory_at (cond c (flat_after m x.op) m) xs r.ts) r.op) b)
          (undisturbed_tail r.op r.ts x xs u),
    ))
    (λ b.
    let lt = leb-false x.ts r.ts b in
    let late : Each (λ s. r.ts < s.ts) (x ∷ xs) = (lt, each_weaker (λ y k. omega arith) xs s.0) in
    (e ∙ ap (λ n. flat_received n r.op) (memory_at-late m (x ∷ xs) r.ts late), behind m r.op r.ts (x ∷ xs) late u h))

-- a word of the memory at a time depends on that word of the opening memory alone
step_word : (m n : Memory) (b : Bool) (op : Op) (a : ℕ) → m a ≡ n a → cond b (flat_after m op) m a ≡ cond b
    (flat_after n op) n a
step_word m n b op a h = let one = flat_after-word m n op a h in grind arith

pub memory_at-word : (m n : Memory) (rs : List Record) (t a : ℕ) → m a ≡ n a → memory_at m rs t a ≡ memory_at n rs t a
memory_at-word m n [] t a h = h
memory_at-word m n (r ∷ rs) t a h =
    memory_at-word (cond (leb r.ts t) (flat_after m r.op) m) (cond (leb r.ts t) (flat_after n r.op) n) rs t a
    (step_word m n (leb r.ts t) r.op a h)

-- a record changes nothing before its time
pub memory_at-placed_before : (m : Memory) (r : Record) (rs : List Record) (t : ℕ) → t < r.ts →
    memory_at m (placed r rs) t ≡ memory_at m rs t
memory_at-placed_before m r [] t h = ap (λ b. cond b (flat_after m r.op) m) (lt-leb r.ts t h)
memory_at-placed_before m r (s ∷ ss) t h =
    let rest = memory_at-placed_before (cond (leb s.ts t) (flat_after m s.op) m) r ss t h in grind (arith, nat_tests)

-- an operation leaves a word as it was
abbrev pub Keeps : Op → ℕ → Type 0
Keeps op a = (n : Memory) → flat_after n op a ≡ n a

pub Keeps-load : (b a : ℕ) → Keeps (Load b) a
Keeps-load b a n = refl

pub Keeps-other : (op : Op) (a : ℕ) → address op ≢ a → Keeps op a
Keeps-other op a ne n = grind (arith, nat_tests)

step_keeps : (m : Memory) (b : Bool) (op : Op) (a : ℕ) → Keeps op a → cond b (flat_after m op) m a ≡ m a
step_keeps m b op a k = let one = k m in grind arith

pub memory_at-placed_keeps : (m : Memory) (r : Record) (rs : List Record) (t a : ℕ) → Keeps r.op a →
    memory_at m (placed r rs) t a ≡ memory_at m rs t a
memory_at-placed_keeps m r [] t a k = step_keeps m (leb r.ts t) r.op a k
memory_at-placed_keeps m r (s ∷ ss) t a k =
    let rest = memory_at-placed_keeps (cond (leb s.ts t) (flat_after m s.op) m) r ss t a k in
    let here = memory_at-word (cond (leb r.ts t) (flat_after m r.op) m) m (s ∷ ss) t a
    (step_keeps m (leb r.ts t) r.op a k) in grind arith

pub memory_at-untouched : (m : Memory) (rs : List Record) (t a : ℕ) → Each (λ s. address s.op ≢ a) rs →
    memory_at m rs t a ≡ m a
memory_at-untouched m [] t a h = refl
memory_at-untouched m (r ∷ rs) t a h =
    memory_at-untouched (cond (leb r.ts t) (flat_after m r.op) m) rs t a h.1 ∙ step_keeps m (leb r.ts t) r.op a
    (Keeps-other r.op a h.0)

-- from its time on, a record that writes a word, and behind which no record of the word stands, gives the word's value
pub memory_at-placed_writes : (m : Memory) (r : Record) (rs : List Record) (t a v : ℕ) → Sorted rs →
    Each (λ s. address s.op ≡ a → s.ts ≤ r.ts) rs → ((n : Memory) → flat_after n r.op a ≡ v) → r.ts ≤ t →
    memory_at m (placed r rs) t a ≡ v
memory_at-placed_writes m r [] t a v s u w h = ap (λ b. cond b (flat_after m r.op) m a) (le-leb r.ts t h) ∙ w m
memory_at-placed_writes m r (x ∷ xs) t a v s u w h =
    cond_both (leb x.ts r.ts) (x ∷ placed r xs) (r ∷ x ∷ xs) (λ ys. memory_at m ys t a ≡ v)
    (λ e. memory_at-placed_writes (cond (leb x.ts t) (flat_after m x.op) m) r xs t a v s.1 u.1 w h)
    (λ e.
    let lt = leb-false x.ts r.ts e in
    memory_at-untouched (cond (leb r.ts t) (flat_after m r.op) m) (x ∷ xs) t a
    (apart (λ s. address s.op ≡ a) r.ts (x ∷ xs) (lt, each_weaker (λ y k. omega arith) xs s.0) u)
    ∙ ap (λ b. cond b (flat_after m r.op) m a) (le-leb r.ts t h) ∙ w m)

-- past all times the memory is that of the whole replay
pub memory_at-end : (m : Memory) (rs : List Record) (t : ℕ) → Each (λ s. s.ts ≤ t) rs → memory_at m rs t ≡ replay_end
    m (map (λ r. r.op) rs)
memory_at-end m [] t h = refl
memory_at-end m (r ∷ rs) t h =
    ap (λ b. memory_at (cond b (flat_after m r.op) m) rs t) (le-leb r.ts t h.0)
    ∙ memory_at-end (flat_after m r.op) rs t h.1

pub replay-from_Receives : (m : Memory) (rs : List Record) → Receives m rs → replay m (map (λ r. r.op) rs) ≡ map
    (λ r. r.received) rs
replay-from_Receives m [] h = refl
replay-from_Receives m (r ∷ rs) h = ap₂ (λ x xs. x ∷ xs) (sym h.0) (replay-from_Receives (flat_after m r.op) rs h.1)

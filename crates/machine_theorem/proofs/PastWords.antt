-- No turn of the protocol writes a word that lines don't have.
use Rattle.std.proofs.Common.{◌≡◌, ◌≢◌, ℕ, ◌%◌, ◌<◌, Bool, true, List, set, Option, Some, None, ◌∙◌, subst, arith}
use Rattle.std.proofs.Common.{get_or-set_other, IsPermutation, mod-lt, rules}
use Rattle.std.specs.List.{AllByRecursion as Each}
use Rattle.std.proofs.lemmas.List.Sorted.{All-permutation}
use Rattle.std.proofs.lemmas.List.Elements.{All-from_recursion, recursion_from_All}
use Rattle.physiological_order.specs.declared.operation.Op.{Op}
use Rattle.physiological_order.specs.Order.{address}
use Rattle.protocol.specs.Machine.{Config, Timed, Copy, Shared, Message, Line, Machine, with_at, line_of}
use Rattle.protocol.specs.Machine.{LineTransition, evict_shared, evict_exclusive, dropped, wb_dropped, flushed}
use Rattle.protocol.specs.Machine.{written_back, renewed, leased, upgraded, granted, flush_returns, wb_returns, loaded}
use Rattle.protocol.specs.Machine.{stored, evict_clean, evict_dirty, shuffled, dram_loads, dram_stores, Answers, shared}
use Rattle.protocol.specs.Machine.{exclusive, renews, upgrades, Asks, to_read, to_write, Uses, load_hit, load_own}
use Rattle.protocol.specs.Machine.{store_own, swap_own, Transition, ask, answer, complete, line_changes}
use Rattle.protocol.specs.Machine as by_line
use Rattle.protocol.proofs.Lemmas.{with_at_cases, Some_injective}
use Rattle.machine_theorem.specs.PastWords.{ZerosFrom, EntryEnds, MessageEnds, HasZeros, IsReached}

module _ (n : ℕ) where
  zeros_by : {x : Line} → ((core : ℕ) (copy : Copy) → x.copies core ≡ Some copy → ZerosFrom n copy.line.words) →
      EntryEnds n x.entry → Each (MessageEnds n) x.messages → ZerosFrom n x.dram → HasZeros n x
  zeros_by copies entry messages dram = grind arith

  -- a core's copies after one changed
  copied : {x : Line} (c : ℕ) (new : Copy) → ZerosFrom n new.line.words → HasZeros n x → (d : ℕ) (copy : Copy) →
      with_at x.copies c (Some new) d ≡ Some copy → ZerosFrom n copy.line.words
  copied {x} c new zeros k = search (rules, with_at_cases, Some_injective)

  left : {x : Line} (c : ℕ) → HasZeros n x → (d : ℕ) (copy : Copy) → with_at x.copies c None d ≡ Some copy →
      ZerosFrom n copy.line.words
  left {x} c k = with_at_cases (λ d (y : Option Copy). (copy : Copy) → y ≡ Some copy → ZerosFrom n copy.line.words)
      x.copies c None (λ copy e. absurd (let z : ◌≡◌ {A = Option Copy} None (Some copy) = e in cc)) (λ d ne. k.copies d)

  -- messages in another order
  taken : {xs ys : List Message} → IsPermutation xs ys → Each (MessageEnds n) xs → Each (MessageEnds n) ys
  taken {xs} {ys} p each = recursion_from_All (MessageEnds n) ys (All-permutation (MessageEnds n) xs ys p
      (All-from_recursion (MessageEnds n) xs each))

  -- the words of a Shared entry
  entered : {x : Line} (dirty : Bool) (line : Timed) → x.entry ≡ Shared dirty line → HasZeros n x →
      ZerosFrom n line.words
  entered dirty line is k = subst (EntryEnds n) is k.entry

  moved : {lease : ℕ} {loses : Bool} {pinned : ℕ → Type 0} {t u : ℕ} {x y : Line} →
      LineTransition lease loses pinned t x u y → HasZeros n x → HasZeros n y
  moved (evict_shared c copy un is sh) k = zeros_by (left c k) k.entry k.messages k.dram
  moved (evict_exclusive c copy un is ex) k = zeros_by (left c k) k.entry (k.copies c copy is, k.messages) k.dram
  moved (dropped c rest p may) k = zeros_by k.copies k.entry ((taken p k.messages).1) k.dram
  moved (wb_dropped c until rest p may) k = zeros_by k.copies k.entry ((taken p k.messages).1) k.dram
  moved (flushed c rest copy p un is ex) k =
      zeros_by (left c k) k.entry (k.copies c copy is, (taken p k.messages).1) k.dram
  moved (written_back c until rest copy p un is ex) k =
      zeros_by (copied c _ (k.copies c copy is) k) k.entry (k.copies c copy is, (taken p k.messages).1) k.dram
  moved (renewed c pts dirty line rest is p) k =
      zeros_by k.copies (entered dirty line is k) (tt, (taken p k.messages).1) k.dram
  moved (leased c pts version dirty line rest is p) k =
      zeros_by k.copies (entered dirty line is k) (entered dirty line is k, (taken p k.messages).1) k.dram
  moved (upgraded c dirty line rest is p) k = zeros_by k.copies tt (tt, (taken p k.messages).1) k.dram
  moved (granted c version dirty line rest is p) k =
      zeros_by k.copies tt (entered dirty line is k, (taken p k.messages).1) k.dram
  moved (flush_returns c line rest p) k = let each = taken p k.messages in zeros_by k.copies each.0 each.1 k.dram
  moved (wb_returns c line rest p) k = let each = taken p k.messages in zeros_by k.copies each.0 each.1 k.dram
  moved (loaded words rest p) k = let each = taken p k.messages in zeros_by k.copies each.0 each.1 k.dram
  moved (stored rest p) k = zeros_by k.copies tt ((taken p k.messages).1) k.dram
  moved (evict_clean line is) k = zeros_by k.copies tt k.messages k.dram
  moved (evict_dirty line is) k = zeros_by k.copies tt (entered true line is k, k.messages) k.dram
  moved (shuffled messages p) k = zeros_by k.copies k.entry (taken p k.messages) k.dram
  moved (dram_loads rest p) k = zeros_by k.copies k.entry (k.dram, (taken p k.messages).1) k.dram
  moved (dram_stores words rest p) k = let each = taken p k.messages in zeros_by k.copies k.entry (tt, each.1) each.0
  moved _ k = zeros_by k.copies tt (tt, k.messages) k.dram

  answered : {c : ℕ} {x y : Line} → Answers c x y → HasZeros n x → HasZeros n y
  answered {c} (shared line rest p) k = grind (arith, taken p k.messages)
  answered {c} (exclusive line rest p) k =
      let each = taken p k.messages in zeros_by (copied c _ each.0 k) k.entry each.1 k.dram
  answered {c} (renews rts copy rest p is) k =
      zeros_by (copied c _ (k.copies c copy is) k) k.entry ((taken p k.messages).1) k.dram
  answered {c} (upgrades rts copy rest p is) k =
      zeros_by (copied c _ (k.copies c copy is) k) k.entry ((taken p k.messages).1) k.dram

  asked : {c pts : ℕ} {op : Op} {x y : Line} → Asks c pts op x y → HasZeros n x → HasZeros n y
  asked (to_read a cannot) k = zeros_by k.copies k.entry (tt, k.messages) k.dram
  asked (to_write cannot) k = zeros_by k.copies k.entry (tt, k.messages) k.dram

module _ (f : Config) (some : 0 < f.line_words) where
  -- a write of a word that the line has
  written : (words : List ℕ) (a v : ℕ) → ZerosFrom f.line_words words →
      ZerosFrom f.line_words (set words (a % f.line_words) v)
  written words a v zeros k le =
      let apart : k ≢ a % f.line_words = λ e. let lt = mod-lt a some in omega (arith, le, e, lt) in
      get_or-set_other words (a % f.line_words) k v 0 apart ∙ zeros k le

  used : {pts : ℕ} {copy : Copy} {op : Op} {received : Option ℕ} {ts : ℕ} {new : Copy} →
      Uses f pts copy op received ts new → ZerosFrom f.line_words copy.line.words →
      ZerosFrom f.line_words new.line.words
  used (load_hit a sh le) zeros = zeros
  used (load_own a ex) zeros = zeros
  used {copy = copy} (store_own a v ex) zeros = written copy.line.words a v zeros
  used {copy = copy} (swap_own a v ex) zeros = written copy.line.words a v zeros

  -- each line of a machine
  abbrev All : by_line.Machine → Type 0
  All m = (l : ℕ) → HasZeros f.line_words (m.lines l)

  changed : (m : by_line.Machine) (l : ℕ) (y : Line) → HasZeros f.line_words y → All m → (j : ℕ) →
      HasZeros f.line_words (with_at m.lines l y j)
  changed m l y zeros k = with_at_cases (λ j (x : Line). HasZeros f.line_words x) m.lines l y zeros (λ j ne. k j)

  kept : (m n : by_line.Machine) → Transition f m n → All m → All n
  kept m n (ask c op y opens quiet a) k =
      changed m (line_of f (address op)) y (asked f.line_words a (k (line_of f (address op)))) k
  kept m n (answer c l y a) k = changed m l y (answered f.line_words a (k l)) k
  kept m n (complete c op copy new received ts opens quiet is u) k =
      let l = line_of f (address op) in
      let x = k l in
      changed m l _ (zeros_by f.line_words (copied f.line_words c new (used u (x.copies c copy is)) x)
      x.entry x.messages x.dram) k
  kept m n (line_changes l t y move) k = changed m l y (moved f.line_words move (k l)) k
  kept m n _ k = k

-- one more turn of the protocol
pub goes_on : {f : Config} {m n : by_line.Machine} → IsReached f m → Transition f m n → IsReached f n
goes_on {f} {m} {n} r turn = record {
  some_words = r.some_words;
  reachable = by_line.goes_on r.reachable turn;
  zeros = kept f r.some_words m n turn r.zeros;
}

use Rattle.std.proofs.Common.{Bool, ◌≡◌, ◌≢◌, ℕ, true, false, Some, None, refl, subst, arith, rules}
use Rattle.std.proofs.lemmas.Bool.Decides.{nat_tests}
use Rattle.std.proofs.lemmas.Grind.{common_steps}
use Rattle.physiological_order.specs.declared.operation.Op.{Op}
use Rattle.physiological_order.specs.Order.{address}
use Rattle.protocol.specs.Machine.{Config, Line, Core, Machine, line_of, with_at, CannotUse, LineTransition}
use Rattle.protocol.specs.Machine.{evict_shared, evict_exclusive, flushed, written_back, Answers, shared, Asks, to_read}
use Rattle.protocol.specs.Machine.{to_write, Transition, issue, advance, complete, ask, answer, line_changes, Reachable}
use Rattle.protocol.specs.Machine.{at_first, goes_on}
use Rattle.protocol.proofs.Lines.{with_at_same, with_at_other, with_at_cases}

-- a core with a request out can't use what it has, and one without an operation has none out
pub record BlockedOk (f : Config) (cores : ℕ → Core) (lines : ℕ → Line) : Type 0 where
  pub idle : (c : ℕ) → (cores c).open_op ≡ None → (cores c).out ≡ false
  pub blocked : (c : ℕ) (op : Op) → (cores c).open_op ≡ Some op → (cores c).out ≡ true →
      CannotUse op (cores c).pts ((lines (line_of f (address op))).copies c)

-- no move changes a copy of a core that is pinned on the line
moves_pinned : {lease : ℕ} {loses : Bool} {pinned : ℕ → Type 0} {t u : ℕ} {x y : Line} →
    LineTransition lease loses pinned t x u y → (c : ℕ) → pinned c → y.copies c ≡ x.copies c
moves_pinned {pinned = pinned} {x = x} (evict_shared d copy un is sh) c p = grind (arith, nat_tests)
moves_pinned {pinned = pinned} {x = x} (evict_exclusive d copy un is ex) c p = grind (arith, nat_tests)
moves_pinned {pinned = pinned} {x = x} (flushed d rest copy q un is ex) c p = grind (arith, nat_tests)
moves_pinned {pinned = pinned} {x = x} (written_back d until rest copy q un is ex) c p = grind (arith, nat_tests)
moves_pinned _ c p = refl

asks_copies : {c pts : ℕ} {op : Op} {x y : Line} → Asks c pts op x y → (d : ℕ) → y.copies d ≡ x.copies d
asks_copies (to_read a w) d = refl
asks_copies (to_write w) d = refl

asks_blocked : {c pts : ℕ} {op : Op} {x y : Line} → Asks c pts op x y → CannotUse op pts (y.copies c)
asks_blocked (to_read a w) = w
asks_blocked (to_write w) = w

answers_copies : {c : ℕ} {x y : Line} → Answers c x y → (d : ℕ) → d ≢ c → y.copies d ≡ x.copies d
answers_copies {c} {x} (shared line rest p) d ne = with_at_other x.copies c _ d ne
answers_copies {c} {x} _ d ne = with_at_other x.copies c _ d ne

-- a core changes, and the copies of the others stay
core_changes : {f : Config} {cores : ℕ → Core} {lines : ℕ → Line} → BlockedOk f cores lines → (c : ℕ) (core : Core)
    (new : ℕ → Line) → (core.open_op ≡ None → core.out ≡ false) →
    ((o : Op) → core.open_op ≡ Some o → core.out ≡ true →
    CannotUse o core.pts ((new (line_of f (address o))).copies c)) →
    ((d : ℕ) → d ≢ c → (l : ℕ) → (lines l).copies d ≡ (new l).copies d) → BlockedOk f (with_at cores c core) new
core_changes {f} {cores} {lines} k c core new idle blocked same = grind (arith, nat_tests, common_steps, with_at_cases)

-- and so they do where one line changes
copies_stay : (lines : ℕ → Line) (l : ℕ) (y : Line) (d : ℕ) → y.copies d ≡ (lines l).copies d → (i : ℕ) →
    (lines i).copies d ≡ (with_at lines l y i).copies d
copies_stay lines l y d same = grind (arith, nat_tests)

transition_blocked : (f : Config) (m n : Machine) → Transition f m n → BlockedOk f m.cores m.lines →
    BlockedOk f n.cores n.lines
transition_blocked f m n (issue c op none) k = grind (arith, nat_tests)
transition_blocked f m n (advance c) k = grind (arith, nat_tests)
transition_blocked f m n (ask c op y opens quiet a) k =
    grind (arith, nat_tests, common_steps, asks_blocked, asks_copies, copies_stay, core_changes, with_at_same)
transition_blocked f m n (answer c l y a) k = search (rules, core_changes, copies_stay, answers_copies)
transition_blocked f m n (complete c op copy new received ts opens quiet is used) k = grind (arith, nat_tests)
transition_blocked f m n (line_changes l t y mv) k =
    record {
      idle = k.idle;
      blocked = λ d o e q. subst (CannotUse o (m.cores d).pts)
          (search (rules, with_at_cases, moves_pinned))
          (k.blocked d o e q);
    }

pub reachable_blocked : (f : Config) (m : Machine) → Reachable f m → BlockedOk f m.cores m.lines
reachable_blocked f m (at_first pts mts drams at opens) = search rules
reachable_blocked f m (goes_on {m = before} r transition) =
    transition_blocked f before m transition (reachable_blocked f before r)

-- What is stored after a message is sent or taken, or empty slots are dropped.
use Rattle.std.proofs.Common.{◌≡◌, ℕ, ◌+◌, ◌-◌, ◌*◌, ◌<◌, ◌≤◌, ◌^◌, ◌++◌, List, [], ◌∷◌, length, length-append}
use Rattle.std.proofs.Common.{Option, Some, None, Result, Ok, Err, IsOk, IsErr, IsTrue, refl, sym, ap, ◌∙◌}
use Rattle.std.proofs.Common.{arith}
use Rattle.line_arena.specs.Arenas.{Lists, lists_of, pushed, unlinked, free_cells, IsOnce}
use Rattle.line_arena.specs.CellLists.{look_up}
use Rattle.line_arena.specs.ListLaws.{LookUpLaws, AppendLaws, WithoutLaws}
use Rattle.network.specs.declared.message.Message.{Message}
use Rattle.network.specs.LinkNumbers.{link_of}
use Rattle.network.specs.NumberedMessages.{IsRising, at_number, without_number, still_there}
use Rattle.network.specs.Routes.{has_endpoints}
use Rattle.network.specs.Stored.{AreLinked, IsStored, cell_messages}
use Rattle.network.proofs.LinkLaws.{link-low}
use Rattle.network.proofs.SlotChanges.{still_there-append, IsRising-append, IsRising-still_there}
use Rattle.network.proofs.SlotChanges.{length-without_number, without_number-none}
use Rattle.network.proofs.SlotChanges.{still_there-answered, length-answered}
use Rattle.network.proofs.StoredMessages.{messages-length, placed-at, linked-sent, linked-cut}

pub is-ok : {A B : Type 0} (r : Result A B) → (IsErr r → ⊥) → IsOk r
is-ok (Ok x) never = refl
is-ok (Err x) never = absurd (never refl)

-- how many messages there are
pub stored-count : (cores banks next count places : ℕ) (slots : List (ℕ × Option ℕ)) (arena : Lists (ℕ × Message)) →
    IsStored cores banks next count places slots arena →
    count ≡ length (cell_messages arena.lists (still_there slots))
stored-count cores banks next count places slots arena stored =
    stored.counted ∙ sym (messages-length arena.lists (still_there slots) stored.linked.placed)

-- where there are fewer than there is room for, a cell is free
pub stored-free : (cores banks next count places : ℕ) (slots : List (ℕ × Option ℕ)) (arena : Lists (ℕ × Message)) →
    IsStored cores banks next count places slots arena →
    length (cell_messages arena.lists (still_there slots)) < arena.cells → free_cells arena ≡ 0 → ⊥
stored-free cores banks next count places slots arena stored room none =
    let many = messages-length arena.lists (still_there slots) stored.linked.placed in
    omega (arith, many, room, none, stored.linked.total)

-- what is stored with other slots and lists
stored-as : {cores banks next count places : ℕ} {slots : List (ℕ × Option ℕ)} {arena : Lists (ℕ × Message)}
    (n m : ℕ) (new : List (ℕ × Option ℕ)) (ls : List (List (ℕ × (ℕ × Message)))) →
    IsStored cores banks next count places slots arena → IsRising 0 new n → n < 2 ^ 64 →
    m ≡ length (still_there new) → m ≤ arena.cells → length new ≤ 2 * m + 1 →
    AreLinked cores banks ls (still_there new) → IsStored cores banks n m places new (lists_of ls arena.cells)
stored-as n m new ls stored rising numbered counted bounded few linked = record {
  most_cores = stored.most_cores;
  most_banks = stored.most_banks;
  most_cells = stored.most_cells;
  rising = rising;
  numbered = numbered;
  counted = counted;
  bounded = bounded;
  few = few;
  room = stored.room;
  linked = linked;
}

-- a message is sent
pub record Sends (cores banks next count places : ℕ) (m : Message) (slots : List (ℕ × Option ℕ))
    (arena : Lists (ℕ × Message)) (messages : List (ℕ × Message)) : Type 0 where
  pub stored : IsStored cores banks (next + 1) (count + 1) places slots arena
  pub are : cell_messages arena.lists (still_there slots) ≡ messages ++ (next, m) ∷ []

pub stored-sent : (cores banks next count places l c : ℕ) (m : Message) (slots : List (ℕ × Option ℕ))
    (arena : Lists (ℕ × Message)) → IsStored cores banks next count places slots arena → AppendLaws (ℕ × Message) →
    IsTrue (has_endpoints cores banks m) → next < 2 ^ 64 - 1 →
    length (cell_messages arena.lists (still_there slots)) < arena.cells → look_up c arena.lists ≡ None →
    link_of cores banks m.from m.to ≡ Some l →
    Sends cores banks next count places m (slots ++ (next, Some c) ∷ []) (pushed l (c, (next, m)) arena)
    (cell_messages arena.lists (still_there slots))
stored-sent cores banks next count places l c m slots arena stored laws here number room fresh link =
    let xs : List (ℕ × ℕ) = still_there slots in
    let there : still_there (slots ++ (next, Some c) ∷ []) ≡ xs ++ (next, c) ∷ [] = still_there-append next c slots in
    let low = link-low cores banks m.from m.to l link in
    let after = linked-sent cores banks l c next m arena.lists xs stored.linked laws fresh link
    (omega (arith, low, stored.linked.many)) here in
    let many = stored-count cores banks next count places slots arena stored in
    record {
      stored = stored-as (next + 1) (count + 1) (slots ++ (next, Some c) ∷ []) _ stored
          (IsRising-append 0 next (Some c) slots stored.rising) (omega (arith, number))
          (rw there (omega (arith, stored.counted, length-append xs ((next, c) ∷ [])))) (omega (arith, many, room))
          (omega (arith, stored.few, length-append slots ((next, Some c) ∷ []))) (rw there after.linked);
      are = rw there after.are;
    }

-- the same cells have other slots, no more than may be kept
pub stored-same : (cores banks next count places : ℕ) (slots new : List (ℕ × Option ℕ)) (arena : Lists (ℕ × Message)) →
    IsStored cores banks next count places slots arena → still_there new ≡ still_there slots → IsRising 0 new next →
    length new ≤ 2 * count + 1 → IsStored cores banks next count places new arena
stored-same cores banks next count places slots new arena stored same rising few = stored-as next count new
    arena.lists stored rising stored.numbered (rw same stored.counted) stored.bounded few (rw same stored.linked)

-- nothing is there to be taken
pub stored-none : (cores banks next count places n : ℕ) (slots new : List (ℕ × Option ℕ))
    (arena : Lists (ℕ × Message)) → IsStored cores banks next count places slots arena →
    at_number n (still_there slots) ≡ None →
    still_there new ≡ without_number n (still_there slots) → IsRising 0 new next → length new ≡ length slots →
    (still_there new ≡ still_there slots) × IsStored cores banks next count places new arena
stored-none cores banks next count places n slots new arena stored none after rising long =
    let same : still_there new ≡ still_there slots = after ∙ without_number-none n (still_there slots) none in (
      same,
      stored-same cores banks next count places slots new arena stored same rising (omega (arith, stored.few, long)),
    )

-- a message is taken
pub record Takes (cores banks next count places n : ℕ) (slots : List (ℕ × Option ℕ)) (arena : Lists (ℕ × Message))
    (messages : List (ℕ × Message)) : Type 0 where
  pub stored : IsStored cores banks next (count - 1) places slots arena
  pub are : cell_messages arena.lists (still_there slots) ≡ without_number n messages

pub stored-taken : (cores banks next count places n c : ℕ) (slots new : List (ℕ × Option ℕ))
    (arena : Lists (ℕ × Message)) → IsStored cores banks next count places slots arena → LookUpLaws (ℕ × Message) →
    WithoutLaws (ℕ × Message) → IsOnce arena.lists → at_number n (still_there slots) ≡ Some c →
    still_there new ≡ without_number n (still_there slots) → IsRising 0 new next → length new ≤ 2 * (count - 1) + 1 →
    Takes cores banks next count places n new (unlinked c arena) (cell_messages arena.lists (still_there slots))
stored-taken cores banks next count places n c slots new arena stored finds laws once e after rising few =
    let there = placed-at n c arena.lists (still_there slots) stored.linked.placed e in
    let cut = linked-cut cores banks n c next there.0 arena.lists (still_there slots) stored.linked
    (IsRising-still_there 0 next slots stored.rising) e there.1 finds laws once in
    let less = length-without_number n c (still_there slots) e in
    record {
      stored = stored-as next (count - 1) new _ stored rising stored.numbered
          (rw after (omega (arith, stored.counted, less))) (omega (arith, stored.bounded)) few (rw after cut.linked);
      are = rw after cut.are;
    }

-- a message is taken, and another one is put into its cell
pub record Answers (cores banks next count places n : ℕ) (m : Message) (slots : List (ℕ × Option ℕ))
    (arena : Lists (ℕ × Message)) (messages : List (ℕ × Message)) : Type 0 where
  pub stored : IsStored cores banks (next + 1) count places slots arena
  pub are : cell_messages arena.lists (still_there slots) ≡ without_number n messages ++ (next, m) ∷ []

pub stored-answered : (cores banks next count places n l c : ℕ) (m : Message) (slots left new : List (ℕ × Option ℕ))
    (arena : Lists (ℕ × Message)) → IsStored cores banks next count places slots arena → LookUpLaws (ℕ × Message) →
    WithoutLaws (ℕ × Message) → AppendLaws (ℕ × Message) → IsOnce arena.lists →
    IsTrue (has_endpoints cores banks m) → next < 2 ^ 64 - 1 → at_number n (still_there slots) ≡ Some c →
    link_of cores banks m.from m.to ≡ Some l → still_there left ≡ without_number n (still_there slots) →
    still_there new ≡ still_there (left ++ (next, Some c) ∷ []) → IsRising 0 new (next + 1) →
    length new ≤ 2 * count + 1 →
    Answers cores banks next count places n m new (pushed l (c, (next, m)) (unlinked c arena))
    (cell_messages arena.lists (still_there slots))
stored-answered cores banks next count places n l c m slots left new arena stored finds laws appends once here number e
    link taken same rising few =
    let xs : List (ℕ × ℕ) = still_there slots in
    let there = placed-at n c arena.lists xs stored.linked.placed e in
    let cut = linked-cut cores banks n c next there.0 arena.lists xs stored.linked
    (IsRising-still_there 0 next slots stored.rising) e there.1 finds laws once in
    let low = link-low cores banks m.from m.to l link in
    let sent = linked-sent cores banks l c next m (unlinked c arena).lists (without_number n xs) cut.linked appends
    (laws.gone arena.lists c) link (omega (arith, low, cut.linked.many)) here in
    let after = same ∙ still_there-answered n next c slots left taken in
    record {
      stored = stored-as (next + 1) count new _ stored rising (omega (arith, number))
          (stored.counted ∙ sym (ap length same ∙ length-answered n next c slots left e taken)) stored.bounded few
          (rw after sent.linked);
      are = rw after (sent.are ∙ ap (λ ms. ms ++ (next, m) ∷ []) cut.are);
    }

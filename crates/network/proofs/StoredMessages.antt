-- What is true of messages in the cells of lists, and what sending and taking do to it.
use Rattle.std.proofs.Common.{◌≡◌, ◌≢◌, ℕ, suc, ◌+◌, ◌<◌, ◌++◌, List, [], ◌∷◌, length, map, filter}
use Rattle.std.proofs.Common.{get_or, sum_by, Bool, true, false, cond, if◌then◌else◌, Option, Some, None}
use Rattle.std.proofs.Common.{IsSome, is_some, refl, sym, ap, ◌∙◌, inl, inr, arith, length-append, IsTrue, option_map}
use Rattle.std.proofs.lemmas.Bool.{cases_eq, eq-eqb, ne_eqb}
use Rattle.std.proofs.Common.{set, length-set, get_or-set_same, get_or-set_other}
use Rattle.std.proofs.lemmas.List.{append-nil, map_push, ext_get_or}
use Rattle.std.proofs.lemmas.List.Elements.{filter-append}
use Rattle.std.proofs.lemmas.List.Sums.{sum_by-set}
use Rattle.line_arena.specs.CellLists.{first_cell, look_up, without, append_to}
use Rattle.line_arena.specs.Arenas.{IsOnce}
use Rattle.line_arena.specs.ListLaws.{LookUpLaws, AppendLaws, WithoutLaws}
use Rattle.network.specs.declared.message.Message.{Message}
use Rattle.network.specs.NumberedMessages.{IsRising, at_number, without_number, given}
use Rattle.network.specs.LinkNumbers.{link_of, has_link, is_on}
use Rattle.network.specs.Routes.{has_endpoints}
use Rattle.network.specs.Search.{first_message}
use Rattle.network.specs.Stored.{held, cell_messages, at_cell, ArePlaced, AreLinked}
use Rattle.network.proofs.SlotChanges.{given-append, length-without_number, AllHaveEndpoints-append}
use Rattle.network.proofs.SlotChanges.{AllHaveEndpoints-without_number}

abbrev Lists : Type 0
Lists = List (List (ℕ × (ℕ × Message)))

-- a number in front, whose cell has it with a message
abbrev Front : Lists → ℕ × ℕ → List (ℕ × ℕ) → Type 0
Front ls x xs = (m : Message) × (held ls (x ∷ xs) ≡ (x.1, (x.0, m)) ∷ held ls xs)

abbrev front : (ls : Lists) (x : ℕ × ℕ) (xs : List (ℕ × ℕ)) → ArePlaced ls (x ∷ xs) → Front ls x xs
front ls x xs all = (all.0.0, ap (λ o. given x.1 o (held ls xs)) all.0.1)

-- the numbers, how many there are, and their order
pub messages-numbers : (ls : Lists) (xs : List (ℕ × ℕ)) → ArePlaced ls xs →
    map (λ x. x.0) (cell_messages ls xs) ≡ map (λ x. x.0) xs
messages-numbers ls [] all = refl
messages-numbers ls (x ∷ xs) all = let f = front ls x xs all in
    ap (λ h. map (λ x. x.0) (map (λ a. a.1) h)) f.1 ∙ ap (λ ns. x.0 ∷ ns) (messages-numbers ls xs all.1)

pub messages-length : (ls : Lists) (xs : List (ℕ × ℕ)) → ArePlaced ls xs → length (cell_messages ls xs) ≡ length xs
messages-length ls [] all = refl
messages-length ls (x ∷ xs) all = let f = front ls x xs all in
    ap (λ h. length (map (λ a. a.1) h)) f.1 ∙ ap suc (messages-length ls xs all.1)

pub messages-rising : (low high : ℕ) (ls : Lists) (xs : List (ℕ × ℕ)) → ArePlaced ls xs → IsRising low xs high →
    IsRising low (cell_messages ls xs) high
messages-rising low high ls [] all rising = rising
messages-rising low high ls (x ∷ xs) all rising = let f = front ls x xs all in
    rw f.1 (rising.0, messages-rising (x.0 + 1) high ls xs all.1 rising.1)

-- what has a number lies in its cell
pub messages-at_number : (n : ℕ) (ls : Lists) (xs : List (ℕ × ℕ)) → ArePlaced ls xs →
    at_number n (cell_messages ls xs) ≡ at_cell ls (at_number n xs)
messages-at_number n ls [] all = refl
messages-at_number n ls (x ∷ xs) all = let f = front ls x xs all in
    let rest = messages-at_number n ls xs all.1 in let here = all.0.1 in rw f.1 (grind arith)

some-cell : (ls : Lists) (o : Option ℕ) → IsSome (at_cell ls o) → IsSome o
some-cell ls o some = grind arith

-- where a number has a message, it has a cell
pub placed-some : (n : ℕ) (ls : Lists) (xs : List (ℕ × ℕ)) → ArePlaced ls xs →
    IsSome (at_number n (cell_messages ls xs)) → IsSome (at_number n xs)
placed-some n ls xs all some =
    some-cell ls (at_number n xs) (sym (ap is_some (messages-at_number n ls xs all)) ∙ some)

placed-here : (n c : ℕ) (ls : Lists) (x : ℕ × ℕ) (xs : List (ℕ × ℕ)) (m : Message) → x.0 ≡ n →
    look_up x.1 ls ≡ Some (x.0, m) → at_number n (x ∷ xs) ≡ Some c → look_up c ls ≡ Some (n, m)
placed-here n c ls x xs m same here e = grind arith

here-cell : (n c : ℕ) (x : ℕ × ℕ) (xs : List (ℕ × ℕ)) → x.0 ≡ n → at_number n (x ∷ xs) ≡ Some c → x.1 ≡ c
here-cell n c x xs same e = grind arith

later-cell : (n c : ℕ) (x : ℕ × ℕ) (xs : List (ℕ × ℕ)) → x.0 ≢ n → at_number n (x ∷ xs) ≡ Some c →
    at_number n xs ≡ Some c
later-cell n c x xs other e = grind arith

-- the cell of a number has it with a message
pub placed-at : (n c : ℕ) (ls : Lists) (xs : List (ℕ × ℕ)) → ArePlaced ls xs → at_number n xs ≡ Some c →
    (m : Message) × (look_up c ls ≡ Some (n, m))
placed-at n c ls [] all e = cc
placed-at n c ls (x ∷ xs) all e = elim (cases_eq x.0 n) [
  | inl same ↦ (all.0.0, placed-here n c ls x xs all.0.0 same all.0.1 e)
  | inr other ↦ placed-at n c ls xs all.1 (later-cell n c x xs other e)
]

-- what is found in each cell stays
abbrev Stays : Lists → Lists → Type 0
Stays old new = (c : ℕ) (p : ℕ × Message) → look_up c old ≡ Some p → look_up c new ≡ Some p

same-placed : (old new : Lists) (xs : List (ℕ × ℕ)) → Stays old new → ArePlaced old xs →
    ArePlaced new xs × (held new xs ≡ held old xs)
same-placed old new [] stays all = (tt, refl)
same-placed old new (x ∷ xs) stays all =
    let rest = same-placed old new xs stays all.1 in
    let here = stays x.1 (x.0, all.0.0) all.0.1 in (
      ((all.0.0, here), rest.0),
      ap (λ o. given x.1 o (held new xs)) (here ∙ sym all.0.1) ∙ ap (given x.1 (look_up x.1 old)) rest.1,
    )

held-append : (ls : Lists) (xs ys : List (ℕ × ℕ)) → held ls (xs ++ ys) ≡ held ls xs ++ held ls ys
held-append ls [] ys = refl
held-append ls (x ∷ xs) ys =
    ap (given x.1 (look_up x.1 ls)) (held-append ls xs ys)
    ∙ given-append x.1 (look_up x.1 ls) (held ls xs) (held ls ys)

placed-append : (ls : Lists) (xs ys : List (ℕ × ℕ)) → ArePlaced ls xs → ArePlaced ls ys → ArePlaced ls (xs ++ ys)
placed-append ls [] ys all more = more
placed-append ls (x ∷ xs) ys all more = (all.0, placed-append ls xs ys all.1 more)

-- a message that is sent is put at the end of the list of its link
pub record AreSent (cores banks n : ℕ) (m : Message) (new : Lists) (cells : List (ℕ × ℕ))
    (messages : List (ℕ × Message)) : Type 0 where
  pub linked : AreLinked cores banks new cells
  pub are : cell_messages new cells ≡ messages ++ (n, m) ∷ []

pub linked-sent : (cores banks l c n : ℕ) (m : Message) (old : Lists) (xs : List (ℕ × ℕ)) →
    AreLinked cores banks old xs → AppendLaws (ℕ × Message) → look_up c old ≡ None →
    link_of cores banks m.from m.to ≡ Some l → l < length old → IsTrue (has_endpoints cores banks m) →
    AreSent cores banks n m (append_to l (c, (n, m)) old) (xs ++ (n, c) ∷ []) (cell_messages old xs)
linked-sent cores banks l c n m old xs linked laws fresh link lt here =
    let a : ℕ × (ℕ × Message) = (c, (n, m)) in
    let new : Lists = append_to l a old in
    let stays : Stays old new = λ d p e. laws.others old l c d (n, m)
    (λ same. (let two : None ≡ Some p = sym fresh ∙ ap (λ i. look_up i old) (sym same) ∙ e in cc)) ∙ e in
    let kept = same-placed old new xs stays linked.placed in
    let found : look_up c new ≡ Some (n, m) = laws.found old l c (n, m) lt fresh in
    let all : held new (xs ++ (n, c) ∷ []) ≡ held old xs ++ a ∷ [] =
    held-append new xs ((n, c) ∷ []) ∙ ap (λ h. h ++ held new ((n, c) ∷ [])) kept.1
    ∙ ap (λ o. held old xs ++ given c o []) found in
    let messages : cell_messages new (xs ++ (n, c) ∷ []) ≡ cell_messages old xs ++ (n, m) ∷ [] =
    ap (map (λ (b : ℕ × (ℕ × Message)). b.1)) all ∙ map_push (λ (b : ℕ × (ℕ × Message)). b.1) (held old xs) a in
    record {
      linked = record {
        many = laws.lists old l a ∙ linked.many;
        placed = placed-append new xs ((n, c) ∷ []) kept.0 ((m, found), tt);
        each = λ k below. (let test : ℕ × (ℕ × Message) → Bool = λ b. is_on cores banks k b.1.1 in
            let low : k < length old = omega (arith, below, laws.lists old l a) in
            let before : get_or old k [] ≡ filter test (held old xs) = linked.each k low in
            let after : filter test (held new (xs ++ (n, c) ∷ []))
            ≡ filter test (held old xs) ++ filter test (a ∷ []) =
            ap (filter test) all ∙ filter-append test (held old xs) (a ∷ []) in
            elim (cases_eq l k) [
              | inl same ↦
                  let on : test a ≡ true = ap (has_link k) link ∙ eq-eqb l k same in
                  ap (λ i. get_or new i []) (sym same) ∙ laws.longer old l a lt
                  ∙ ap (λ i. get_or old i [] ++ a ∷ []) same ∙ ap (λ us. us ++ a ∷ []) before
                  ∙ sym (after ∙ ap (λ b. filter test (held old xs) ++ cond b (a ∷ []) []) on)
              | inr other ↦
                  let off : test a ≡ false = ap (has_link k) link ∙ ne_eqb l k other in
                  laws.apart old l k a (λ e. other (sym e)) ∙ before
                  ∙ sym (after ∙ ap (λ b. filter test (held old xs) ++ cond b (a ∷ []) []) off
                  ∙ append-nil (filter test (held old xs)))
            ]);
        total = (let sums = sum_by-set length old l (get_or old l [] ++ a ∷ []) [] lt in
            omega (
              arith,
              sums,
              linked.total,
              length-append (get_or old l []) (a ∷ []),
              length-append xs ((n, c) ∷ []),
            ));
        endpoints = rw messages (AllHaveEndpoints-append cores banks n m (cell_messages old xs) linked.endpoints here);
      };
      are = messages;
    }

same-number : (i n : ℕ) (k m : Message) → ◌≡◌ {A = Option (ℕ × Message)} (Some (i, k)) (Some (n, m)) → i ≡ n
same-number i n k m e = let pair : ◌≡◌ {A = ℕ × Message} (i, k) (n, m) = cc in ap (λ (p : ℕ × Message). p.0) pair

-- the number in front is another than that of the cell that is taken off
passed-over : (n c : ℕ) (x : ℕ × ℕ) (m : Message) (ls : Lists) (xs : List (ℕ × ℕ)) → (all : ArePlaced ls (x ∷ xs)) →
    (x.0 ≢ n) → look_up c ls ≡ Some (n, m) → WithoutLaws (ℕ × Message) →
    (look_up x.1 (map (without c) ls) ≡ Some (x.0, all.0.0))
    × (held (map (without c) ls) (x ∷ xs) ≡ (x.1, (x.0, all.0.0)) ∷ held (map (without c) ls) xs)
    × (without c (held ls (x ∷ xs)) ≡ (x.1, (x.0, all.0.0)) ∷ without c (held ls xs))
passed-over n c x m ls xs all other is laws =
    let cell : x.1 ≢ c = λ e. other (same-number x.0 n all.0.0 m
    (sym all.0.1 ∙ ap (λ d. look_up d ls) e ∙ is)) in
    let here : look_up x.1 (map (without c) ls) ≡ Some (x.0, all.0.0) = laws.others ls c x.1 cell ∙ all.0.1 in (
      here,
      ap (λ o. given x.1 o (held (map (without c) ls) xs)) here,
      ap (without c) (front ls x xs all).1
          ∙ ap (λ b. if b then without c (held ls xs) else (x.1, (x.0, all.0.0)) ∷ without c (held ls xs))
          (ne_eqb x.1 c cell),
    )

-- a cell that is taken off its list, of a number below all
lacks : (n c low high : ℕ) (m : Message) (ls : Lists) (xs : List (ℕ × ℕ)) → ArePlaced ls xs → IsRising low xs high →
    n < low → look_up c ls ≡ Some (n, m) → WithoutLaws (ℕ × Message) →
    ArePlaced (map (without c) ls) xs × (held (map (without c) ls) xs ≡ held ls xs)
    × (without c (held ls xs) ≡ held ls xs)
lacks n c low high m ls [] all rising less is laws = (tt, refl, refl)
lacks n c low high m ls (x ∷ xs) all rising less is laws =
    let rest = lacks n c (x.0 + 1) high m ls xs all.1 rising.1 (omega (arith, rising.0)) is laws in
    let step = passed-over n c x m ls xs all (λ e. omega (arith, e, rising.0)) is laws in (
      ((all.0.0, step.0), rest.0),
      step.1 ∙ ap (λ us. (x.1, (x.0, all.0.0)) ∷ us) rest.1 ∙ sym (front ls x xs all).1,
      step.2 ∙ ap (λ us. (x.1, (x.0, all.0.0)) ∷ us) rest.2 ∙ sym (front ls x xs all).1,
    )

-- the cell of a number is taken off its list
pub cut-placed : (n c low high : ℕ) (m : Message) (ls : Lists) (xs : List (ℕ × ℕ)) → ArePlaced ls xs →
    IsRising low xs high → at_number n xs ≡ Some c → look_up c ls ≡ Some (n, m) → WithoutLaws (ℕ × Message) →
    ArePlaced (map (without c) ls) (without_number n xs)
    × (held (map (without c) ls) (without_number n xs) ≡ without c (held ls xs))
    × (cell_messages (map (without c) ls) (without_number n xs) ≡ without_number n (cell_messages ls xs))
cut-placed n c low high m ls [] all rising e is laws = cc
cut-placed n c low high m ls (x ∷ xs) all rising e is laws =
    let new : Lists = map (without c) ls in let first = front ls x xs all in
    elim (cases_eq x.0 n) [
      | inl same ↦
          let cell = here-cell n c x xs same e in
          let rest = lacks n c (x.0 + 1) high m ls xs all.1 rising.1 (omega (arith, same)) is laws in
          let left : without_number n (x ∷ xs) ≡ xs = grind arith in (
            rw left rest.0,
            ap (held new) left ∙ rest.1 ∙ sym (ap (without c) first.1
                ∙ ap (λ b. if b then without c (held ls xs) else (x.1, (x.0, first.0)) ∷ without c (held ls xs))
                (eq-eqb x.1 c cell) ∙ rest.2),
            ap (cell_messages new) left ∙ ap (map (λ (a : ℕ × (ℕ × Message)). a.1)) rest.1
                ∙ sym (ap (λ h. without_number n (map (λ (a : ℕ × (ℕ × Message)). a.1) h)) first.1
                ∙ ap (λ b. if b then cell_messages ls xs else (x.0, first.0) ∷ without_number n (cell_messages ls xs))
                (eq-eqb x.0 n same)),
          )
      | inr other ↦
          let rest = cut-placed n c (x.0 + 1) high m ls xs all.1 rising.1 (later-cell n c x xs other e) is laws in
          let left : without_number n (x ∷ xs) ≡ x ∷ without_number n xs = grind arith in
          let step = passed-over n c x m ls xs all other is laws in
          let front_new : held new (x ∷ without_number n xs) ≡ (x.1, (x.0, first.0)) ∷ held new (without_number n xs) =
          ap (λ o. given x.1 o (held new (without_number n xs))) step.0 in
          rw left (
            ((all.0.0, step.0), rest.0),
            front_new ∙ ap (λ us. (x.1, (x.0, first.0)) ∷ us) rest.1 ∙ sym step.2,
            ap (map (λ (a : ℕ × (ℕ × Message)). a.1)) front_new ∙ ap (λ us. (x.0, first.0) ∷ us) rest.2
                ∙ sym (ap (λ h. without_number n (map (λ (a : ℕ × (ℕ × Message)). a.1) h)) first.1
                ∙ ap (λ b. if b then cell_messages ls xs else (x.0, first.0) ∷ without_number n (cell_messages ls xs))
                (ne_eqb x.0 n other)),
          )
    ]

-- the message of what is found in a cell
pub second-of : (o : Option (ℕ × Message)) (p : ℕ × Message) → o ≡ Some p →
    option_map (λ (q : ℕ × Message). q.1) o ≡ Some p.1
second-of o p e = ap (option_map (λ (q : ℕ × Message). q.1)) e

-- the cell of a number is taken off: what is stored then
pub record AreCut (cores banks n : ℕ) (new : Lists) (cells : List (ℕ × ℕ)) (messages : List (ℕ × Message)) : Type 0
  where
    pub linked : AreLinked cores banks new cells
    pub are : cell_messages new cells ≡ without_number n messages

filter-without : (test : Message → Bool) (c : ℕ) (hs : List (ℕ × (ℕ × Message))) →
    filter (λ a. test a.1.1) (without c hs) ≡ without c (filter (λ a. test a.1.1) hs)
filter-without test c [] = refl
filter-without test c (a ∷ hs) = let rest = filter-without test c hs in grind arith

-- one cell fewer is on the lists
total-cut : (c : ℕ) (p : ℕ × Message) (ls : Lists) → LookUpLaws (ℕ × Message) → WithoutLaws (ℕ × Message) →
    IsOnce ls → look_up c ls ≡ Some p → sum_by length (map (without c) ls) + 1 ≡ sum_by length ls
total-cut c p ls finds laws once is =
    let on = finds.on ls c p is in let there = ap is_some on.2 in
    let cut : List (ℕ × (ℕ × Message)) = without c (get_or ls on.0 []) in
    let same : map (without c) ls ≡ set ls on.0 cut =
    ext_get_or [] (map (without c) ls) (set ls on.0 cut) (laws.lists ls c ∙ sym (length-set ls on.0 cut))
    (λ j below. laws.each ls c j ∙ elim (cases_eq j on.0) [
      | inl e ↦ ap (λ k. without c (get_or ls k [])) e
          ∙ sym (ap (λ k. get_or (set ls on.0 cut) k []) e ∙ get_or-set_same ls on.0 cut [] on.1)
      | inr ne ↦ laws.apart ls c on.0 j once there ne ∙ sym (get_or-set_other ls on.0 j cut [] ne)
    ]) in
    let sums = sum_by-set length ls on.0 cut [] on.1 in
    let less = laws.shorter ls c on.0 once there in rw same (omega (arith, sums, less))

pub linked-cut : (cores banks n c high : ℕ) (m : Message) (old : Lists) (xs : List (ℕ × ℕ)) →
    AreLinked cores banks old xs → IsRising 0 xs high → at_number n xs ≡ Some c → look_up c old ≡ Some (n, m) →
    LookUpLaws (ℕ × Message) → WithoutLaws (ℕ × Message) → IsOnce old →
    AreCut cores banks n (map (without c) old) (without_number n xs) (cell_messages old xs)
linked-cut cores banks n c high m old xs linked rising e is finds laws once =
    let new : Lists = map (without c) old in
    let cut = cut-placed n c 0 high m old xs linked.placed rising e is laws in
    let less = total-cut c (n, m) old finds laws once is in
    let fewer = length-without_number n c xs e in
    record {
      linked = record {
        many = laws.lists old c ∙ linked.many;
        placed = cut.0;
        each = λ l below. laws.each old c l
            ∙ ap (without c) (linked.each l (omega (arith, below, laws.lists old c)))
            ∙ sym (ap (filter (λ (a : ℕ × (ℕ × Message)). is_on cores banks l a.1.1)) cut.1
            ∙ filter-without (is_on cores banks l) c (held old xs));
        total = omega (arith, less, fewer, linked.total);
        endpoints = rw cut.2
            (AllHaveEndpoints-without_number cores banks n (cell_messages old xs) linked.endpoints);
      };
      are = cut.2;
    }

-- the first message of a list that passes a test lies in the first cell of those that pass it
pub none-held : (test : Message → Bool) (hs : List (ℕ × (ℕ × Message))) →
    first_cell (filter (λ a. test a.1.1) hs) ≡ None → first_message test (map (λ a. a.1) hs) ≡ None
none-held test [] e = refl
none-held test (a ∷ hs) e = let rest = none-held test hs in grind arith

held-first : (test : Message → Bool) (c : ℕ) (ls : Lists) (x : ℕ × ℕ) (hs : List (ℕ × (ℕ × Message))) (m : Message) →
    look_up x.1 ls ≡ Some (x.0, m) → (first_cell (filter (λ a. test a.1.1) hs) ≡ Some c →
    (is_some (look_up c ls) ≡ true) × (first_message test (map (λ a. a.1) hs) ≡ look_up c ls)) →
    first_cell (filter (λ a. test a.1.1) ((x.1, (x.0, m)) ∷ hs)) ≡ Some c → (is_some (look_up c ls) ≡ true)
    × (first_message test (map (λ a. a.1) ((x.1, (x.0, m)) ∷ hs)) ≡ look_up c ls)
held-first test c ls x hs m here rest e = grind arith

pub first-held : (test : Message → Bool) (c : ℕ) (ls : Lists) (xs : List (ℕ × ℕ)) → ArePlaced ls xs →
    first_cell (filter (λ a. test a.1.1) (held ls xs)) ≡ Some c →
    (is_some (look_up c ls) ≡ true) × (first_message test (cell_messages ls xs) ≡ look_up c ls)
first-held test c ls [] all e = cc
first-held test c ls (x ∷ xs) all e =
    let first = front ls x xs all in let found = rw first.1 at e in
    rw first.1 (held-first test c ls x (held ls xs) first.0 all.0.1 (first-held test c ls xs all.1) found)

-- tests that agree find the same
pub same-test : (p q : Message → Bool) (xs : List (ℕ × Message)) → ((m : Message) → p m ≡ q m) →
    first_message p xs ≡ first_message q xs
same-test p q [] h = refl
same-test p q (x ∷ xs) h = let rest = same-test p q xs h in let same = h x.1 in grind arith

use Rattle.std.proofs.Common.{cond, ◌≡◌, ◌≢◌, ℕ, ◌+◌, ◌<◌, ◌≤◌, Bool, true, false, eqb, List, [], ◌∷◌, Option, Some}
use Rattle.std.proofs.Common.{IfSome, ◌⊎◌, inl, inr, refl, sym, ap, ◌∙◌, arith, rules}
use Rattle.std.proofs.lemmas.Bool.Decides.{nat_tests}
use Rattle.std.specs.List.{AllByRecursion as Each}
use Rattle.std.proofs.lemmas.Bool.{cond-true, cond-false, eq-eqb, ne_eqb}
use Rattle.physiological_order.specs.declared.operation.Record.{Record}
use Rattle.physiological_order.specs.Order.{Memory}
use Rattle.protocol.specs.Machine.{Config, Timed, Copy, Entry, Absent, Loading, Shared, Exclusive, Recalling, Storing}
use Rattle.protocol.specs.Machine.{Message, ShReq, ExReq, ShRep, ExRep, RenewRep, UpgradeRep, FlushReq, WbReq, FlushRep}
use Rattle.protocol.specs.Machine.{WbRep, DramLd, DramLdRep, DramSt, DramStRep, Line, line_of, with_at, NotOwned, tally}
use Rattle.protocol.proofs.Lease.{Current, Leased}

-- where the right of a line is
pub data Holder : Type 0 where
  Bank : Holder
  At : (core : ℕ) → Holder
  Flying : Holder

abbrev pub flying : Holder → ℕ
flying Bank = 0
flying (At c) = 0
flying Flying = 1

-- what a message counts as
abbrev pub right : Message → ℕ
right (ExRep c x) = 1
right (UpgradeRep c r) = 1
right (FlushRep c x) = 1
right (WbRep c x) = 1
right _ = 0

abbrev pub load : Message → ℕ
load DramLd = 1
load (DramLdRep w) = 1
load _ = 0

abbrev pub store : Message → ℕ
store (DramSt w) = 1
store DramStRep = 1
store _ = 0

pub one_at_most : (b : Bool) → cond b 1 0 ≤ 1
one_at_most true = omega arith
one_at_most false = omega arith

abbrev pub one_if : Bool → ℕ
one_if true = 1
one_if false = 0

abbrev pub about : ℕ → Message → ℕ
about c (ShReq d p v) = one_if (eqb d c)
about c (ExReq d v) = one_if (eqb d c)
about c (ShRep d x) = one_if (eqb d c)
about c (ExRep d x) = one_if (eqb d c)
about c (RenewRep d r) = one_if (eqb d c)
about c (UpgradeRep d r) = one_if (eqb d c)
about c _ = 0

abbrev pub loading : Entry → ℕ
loading Loading = 1
loading _ = 0

abbrev pub storing : Entry → ℕ
storing Storing = 1
storing _ = 0

-- a core has a copy that is Shared, of this version
abbrev pub HasShared : Option Copy → (Timed → Type 0) → Type 0
HasShared copy P = (c : Copy) × (copy ≡ Some c) × (c.exclusive ≡ false) × P c.line

abbrev pub EntryOk : Timed → Holder → ℕ → List ℕ → Entry → Type 0
EntryOk s holder t dram Absent = (holder ≡ Bank) × (s.rts ≤ t) × (dram ≡ s.words)
EntryOk s holder t dram Loading = (holder ≡ Bank) × (s.rts ≤ t) × (dram ≡ s.words)
EntryOk s holder t dram (Shared dirty x) = (holder ≡ Bank) × (x ≡ s) × (dirty ≡ false → dram ≡ s.words)
EntryOk s holder t dram (Exclusive o) = holder ≢ Bank
EntryOk s holder t dram (Recalling o) = holder ≢ Bank
EntryOk s holder t dram Storing = (holder ≡ Bank) × (s.rts ≤ t)

module _ (f : Config) (h : ℕ → Memory) (l : ℕ) where
  abbrev pub MessageOk : ℕ → Timed → (ℕ → Option Copy) → List ℕ → Message → Type 0
  MessageOk top s copies dram (ShReq c p v) =
      NotOwned (copies c) × IfSome v (λ w. HasShared (copies c) (λ x. x.wts ≡ w))
  MessageOk top s copies dram (ExReq c v) = IfSome v (λ w. HasShared (copies c) (λ x. x.wts ≡ w))
  MessageOk top s copies dram (ShRep c x) = NotOwned (copies c) × Leased f h l top x
  MessageOk top s copies dram (ExRep c x) = x ≡ s
  MessageOk top s copies dram (RenewRep c r) = HasShared (copies c) (λ x. Leased f h l top (record x { rts = r }))
  MessageOk top s copies dram (UpgradeRep c r) = HasShared (copies c) (λ x. record x { rts = r } ≡ s)
  MessageOk top s copies dram (FlushReq c) = Unit {0}
  MessageOk top s copies dram (WbReq c r) = Unit {0}
  MessageOk top s copies dram (FlushRep c x) = x ≡ s
  MessageOk top s copies dram (WbRep c x) = x ≡ s
  MessageOk top s copies dram DramLd = Unit {0}
  MessageOk top s copies dram (DramLdRep w) = w ≡ s.words
  MessageOk top s copies dram (DramSt w) = w ≡ s.words
  MessageOk top s copies dram DramStRep = dram ≡ s.words

  abbrev pub CopyOk : ℕ → Timed → Holder → ℕ → Copy → Type 0
  CopyOk top s holder c copy = (copy.exclusive ≡ true → (holder ≡ At c) × (copy.line ≡ s) ×
      (copy.written ≡ true → top < s.wts)) × (copy.exclusive ≡ false → Leased f h l top copy.line)

  -- what holds of a line: s is what stands, and busy says of how many replies each core waits for
  pub record LineOk (records : List Record) (busy : ℕ → ℕ) (t : ℕ) (x : Line) (s : Timed)
      (holder : Holder) : Type 0 where
    pub current : Current f h records l s
    -- no lease that was handed out goes past it
    pub top : ℕ
    pub within : top ≤ s.rts
    pub copies : (c : ℕ) (copy : Copy) → x.copies c ≡ Some copy → CopyOk top s holder c copy
    pub held : (c : ℕ) → holder ≡ At c → (copy : Copy) × (x.copies c ≡ Some copy) × (copy.exclusive ≡ true)
    pub messages : Each (MessageOk top s x.copies x.dram) x.messages
    pub owner_count : tally right x.messages ≡ flying holder
    pub loads : tally load x.messages ≡ loading x.entry
    pub stores : tally store x.messages ≡ storing x.entry
    pub asks : (c : ℕ) → tally (about c) x.messages ≡ busy c
    pub entry : EntryOk s holder t x.dram x.entry

  -- a line whose owner and copies stay: the messages, the entry, the DRAM, the bank's time and the waiting cores change
  pub with_bag : {records : List Record} {p q : ℕ → ℕ} {t u : ℕ} {x : Line} {s : Timed} {b : Holder}
      (k : LineOk records p t x s b) (e : Entry) (ms : List Message) (d : List ℕ) →
      Each (MessageOk k.top s x.copies d) ms → tally right ms ≡ flying b → tally load ms ≡ loading e →
      tally store ms ≡ storing e → ((c : ℕ) → tally (about c) ms ≡ q c) → EntryOk s b u d e →
      LineOk records q u (record x { entry = e; messages = ms; dram = d }) s b
  with_bag k e ms d each rights loads stores asks entry = grind (arith, nat_tests)

-- a table changed at one place
pub with_at_same : {X : Type 0} (g : ℕ → X) (i : ℕ) (x : X) → with_at g i x i ≡ x
with_at_same g i x = cond-true (eqb i i) x (g i) (eq-eqb i i refl)

pub with_at_other : {X : Type 0} (g : ℕ → X) (i : ℕ) (x : X) (j : ℕ) → j ≢ i → with_at g i x j ≡ g j
with_at_other g i x j ne = cond-false (eqb j i) x (g j) (ne_eqb j i ne)

pub with_at_cases : {X : Type 0} (P : ℕ → X → Type 0) (g : ℕ → X) (i : ℕ) (x : X) → P i x →
    ((j : ℕ) → j ≢ i → P j (g j)) → (j : ℕ) → P j (with_at g i x j)
with_at_cases P g i x here there j = grind (arith, nat_tests)

-- either nothing of a kind is in a bag, or P: so for its first member, and for the rest
part : {P : Type 0} (a b : ℕ) → ((a + b ≡ 0) ⊎ P) → (a ≡ 1 → P) × ((b ≡ 0) ⊎ P)
part a b (inl e) = (λ i. absurd (omega arith), inl (omega arith))
part a b (inr p) = (λ i. p, inr p)

pub about_itself : (c : ℕ) → one_if (eqb c c) ≡ 1
about_itself c = ap one_if (eq-eqb c c refl)

module _ (f : Config) (h g : ℕ → Memory) (l top top' : ℕ) (s u : Timed) (xs ys : ℕ → Option Copy)
    (dram dram' : List ℕ)
    (same : (t a : ℕ) → line_of f a ≡ l → t ≤ top → g t a ≡ h t a) (bound : top ≤ top') where
  message_keeps : (m : Message) → (right m ≡ 1 → s ≡ u) → (load m ≡ 1 → s.words ≡ u.words) →
      (store m ≡ 1 → (s.words ≡ u.words) × (dram' ≡ dram)) → ((c : ℕ) → about c m ≡ 1 → xs c ≡ ys c) →
      MessageOk f h l top s xs dram m → MessageOk f g l top' u ys dram' m
  message_keeps (ShReq c p v) r d w b k = grind (arith, nat_tests)
  message_keeps (ExReq c v) r d w b k = grind (arith, nat_tests)
  message_keeps (ShRep c x) r d w b k = grind (arith, nat_tests)
  message_keeps (ExRep c x) r d w b k = k ∙ r refl
  message_keeps (RenewRep c n) r d w b k = let q0 = about_itself c in grind (arith, nat_tests, q0)
  message_keeps (UpgradeRep c n) r d w b k = (k.0, sym (b c (about_itself c)) ∙ k.1, k.2, k.3 ∙ r refl)
  message_keeps (FlushRep c x) r d w b k = k ∙ r refl
  message_keeps (WbRep c x) r d w b k = k ∙ r refl
  message_keeps (DramLdRep ws) r d w b k = k ∙ d refl
  message_keeps (DramSt ws) r d w b k = k ∙ (w refl).0
  message_keeps DramStRep r d w b k = (w refl).1 ∙ k ∙ (w refl).0
  message_keeps _ r d w b k = tt

  -- messages stay as they should be where each thing that changes is none of theirs
  pub messages_keep : (ms : List Message) → ((tally right ms ≡ 0) ⊎ (s ≡ u)) →
      ((tally load ms ≡ 0) ⊎ (s.words ≡ u.words)) → ((tally store ms ≡ 0) ⊎ ((s.words ≡ u.words) × (dram' ≡ dram))) →
      ((c : ℕ) → (tally (about c) ms ≡ 0) ⊎ (xs c ≡ ys c)) → Each (MessageOk f h l top s xs dram) ms →
      Each (MessageOk f g l top' u ys dram') ms
  messages_keep [] r d w b k = tt
  messages_keep (m ∷ ms) r d w b k =
      let r' = part (right m) (tally right ms) r in
      let d' = part (load m) (tally load ms) d in
      let w' = part (store m) (tally store ms) w in
      (search (
        rules,
        message_keeps,
        part,
        messages_keep ms r'.1 d'.1 w'.1 (λ c. (part (about c m) (tally (about c) ms) (b c)).1) k.1,
      ))

  -- so do copies
  pub copy_keeps : (a b : Holder) (c : ℕ) (copy : Copy) → ((a ≡ At c → ⊥) ⊎ ((s ≡ u) × (a ≡ b) × (top' ≡ top))) →
      CopyOk f h l top s a c copy → CopyOk f g l top' u b c copy
  copy_keeps a b c copy (inl never) k = grind (arith, nat_tests)
  copy_keeps a b c copy (inr e) k = grind (arith, nat_tests)

-- The protocol by lines: for each line its entry, copies, messages and DRAM, for each core its time and open operation;
-- every change that the protocol allows, and what is reached from the opening.
use Rattle.std.specs.Prelude.{◌≡◌, ℕ, zero, suc, ◌+◌, ◌/◌, ◌%◌, ◌<◌, ◌≤◌, ◌==◌, max, Bool, true, false, ◌&&◌}
use Rattle.std.specs.Prelude.{List, [], ◌∷◌, ◌++◌, length, Option, Some, None, if◌then◌else◌, slice_index, slice_set}
use Rattle.std.specs.List.Sorted.{IsPermutation}
use Rattle.physiological_order.specs.declared.operation.Op.{Op}
use Rattle.physiological_order.specs.declared.operation.Op.TheVariants.{Load, Store, Swap}
use Rattle.physiological_order.specs.declared.operation.Record.{Record}
use Rattle.physiological_order.specs.Order.{Memory, address, of_core}

-- a line's words with the time of their version and the time up to which they may be read
pub record Timed : Type 0 where
  pub wts : ℕ
  pub rts : ℕ
  pub words : List ℕ

-- a private copy
pub record Copy : Type 0 where
  pub exclusive : Bool
  pub written : Bool
  pub line : Timed

pub data Entry : Type 0 where
  Absent : Entry
  Loading : Entry
  Shared : (dirty : Bool) (line : Timed) → Entry
  Exclusive : (owner : ℕ) → Entry
  Recalling : (owner : ℕ) → Entry
  Storing : Entry

-- a message of one line. core is the core that sends or gets it
pub data Message : Type 0 where
  ShReq : (core pts : ℕ) (version : Option ℕ) → Message
  ExReq : (core : ℕ) (version : Option ℕ) → Message
  ShRep : (core : ℕ) (line : Timed) → Message
  ExRep : (core : ℕ) (line : Timed) → Message
  RenewRep : (core rts : ℕ) → Message
  UpgradeRep : (core rts : ℕ) → Message
  FlushReq : (core : ℕ) → Message
  WbReq : (core rts : ℕ) → Message
  FlushRep : (core : ℕ) (line : Timed) → Message
  WbRep : (core : ℕ) (line : Timed) → Message
  DramLd : Message
  DramLdRep : (words : List ℕ) → Message
  DramSt : (words : List ℕ) → Message
  DramStRep : Message

-- all that belongs to one line
pub record Line : Type 0 where
  pub entry : Entry
  pub copies : ℕ → Option Copy
  pub messages : List Message
  pub dram : List ℕ

pub record Core : Type 0 where
  pub pts : ℕ
  pub open_op : Option Op
  pub out : Bool

pub record Config : Type 0 where
  pub opening : Memory
  pub opening_time : ℕ
  pub line_words : ℕ
  pub lease : ℕ
  pub banks : ℕ
  pub private_write : Bool
  -- whether a core may drop a recall of a line that it owns, or has an operation open on; the table's cores don't
  pub loses_recalls : Bool

pub record Machine : Type 0 where
  pub lines : ℕ → Line
  pub cores : ℕ → Core
  pub mts : ℕ → ℕ
  pub issued : ℕ → List Op
  pub records : List Record

-- what the members of a bag weigh together
abbrev pub tally : {X : Type 0} → (X → ℕ) → List X → ℕ
tally weight [] = 0
tally weight (x ∷ xs) = weight x + tally weight xs

abbrev pub with_at : {X : Type 0} → (ℕ → X) → ℕ → X → ℕ → X
with_at f i x = λ j. if j == i then x else f j

abbrev pub line_of : Config → ℕ → ℕ
line_of f a = a / f.line_words

abbrev pub word_at : Config → List ℕ → ℕ → ℕ
word_at f words a = slice_index words (a % f.line_words)

-- the version that a request carries
abbrev pub version_of : Option Copy → Option ℕ
version_of None = None
version_of (Some c) = Some c.line.wts

-- no copy that owns its line
abbrev pub NotOwned : Option Copy → Type 0
NotOwned copy = (c : Copy) → copy ≡ Some c → c.exclusive ≡ false

-- a core drops a recall: any, if recalls may be lost, and else one that is stale, since the core doesn't own the line
-- and has no operation open on it
abbrev pub MayDrop : Bool → (ℕ → Type 0) → ℕ → Line → Type 0
MayDrop true pinned c x = Unit {0}
MayDrop false pinned c x = (pinned c → Prim.⊥) × NotOwned (x.copies c)

-- what a message or an eviction does to one line, if no core's own state takes part, except that some cores are pinned
-- on the line. mts is the memory time of the line's bank before and after
pub data LineTransition (lease : ℕ) (loses : Bool) (pinned : ℕ → Type 0) : ℕ → Line → ℕ → Line → Type 0 where
  evict_shared : {t : ℕ} {x : Line} (c : ℕ) (copy : Copy) → (pinned c → Prim.⊥) → x.copies c ≡ Some copy →
      copy.exclusive ≡ false →
      LineTransition lease loses pinned t x t (record x { copies = with_at x.copies c None })
  evict_exclusive : {t : ℕ} {x : Line} (c : ℕ) (copy : Copy) → (pinned c → Prim.⊥) → x.copies c ≡ Some copy →
      copy.exclusive ≡ true →
      LineTransition lease loses pinned t x t (record x {
        copies = with_at x.copies c None;
        messages =
            FlushRep c copy.line ∷ x.messages;
      })
  dropped : {t : ℕ} {x : Line} (c : ℕ) (rest : List Message) → IsPermutation x.messages (FlushReq c ∷ rest) →
      MayDrop loses pinned c x → LineTransition lease loses pinned t x t (record x { messages = rest })
  wb_dropped : {t : ℕ} {x : Line} (c until : ℕ) (rest : List Message) → IsPermutation x.messages
      (WbReq c until ∷ rest) → MayDrop loses pinned c x →
      LineTransition lease loses pinned t x t (record x { messages = rest })
  flushed : {t : ℕ} {x : Line} (c : ℕ) (rest : List Message) (copy : Copy) → IsPermutation x.messages
      (FlushReq c ∷ rest) → (pinned c → Prim.⊥) →
      x.copies c ≡ Some copy → copy.exclusive ≡ true →
      LineTransition lease loses pinned t x t (record x {
        copies = with_at x.copies c None;
        messages =
            FlushRep c copy.line ∷ rest;
      })
  written_back : {t : ℕ} {x : Line} (c until : ℕ) (rest : List Message) (copy : Copy) → IsPermutation x.messages
      (WbReq c until ∷ rest) → (pinned c → Prim.⊥) →
      x.copies c ≡ Some copy → copy.exclusive ≡ true →
      LineTransition lease loses pinned t x t (let line =
      record (copy.line) { rts = max (max copy.line.rts (copy.line.wts + lease)) until } in
      record x {
        copies = with_at x.copies c (Some (record { exclusive = false; written = false; line = line }));
        messages = WbRep c line ∷ rest;
      })
  -- the bank. A request that starts a load or a recall stays
  load_starts : {t : ℕ} {x : Line} → x.entry ≡ Absent → LineTransition lease loses pinned t x t
      (record x { entry = Loading; messages = DramLd ∷ x.messages })
  renewed : {t : ℕ} {x : Line} (c pts : ℕ) (dirty : Bool) (line : Timed) (rest : List Message) →
      x.entry ≡ Shared dirty line →
      IsPermutation x.messages (ShReq c pts (Some line.wts) ∷ rest) →
      LineTransition lease loses pinned t x t (let rts = max (max line.rts (line.wts + lease)) (pts + lease) in
      record x { entry = Shared dirty (record line { rts = rts }); messages = RenewRep c rts ∷ rest })
  leased : {t : ℕ} {x : Line} (c pts : ℕ) (version : Option ℕ) (dirty : Bool) (line : Timed) (rest : List Message) →
      x.entry ≡ Shared dirty line →
      IsPermutation x.messages (ShReq c pts version ∷ rest) →
      LineTransition lease loses pinned t x t (let leased =
      record line { rts = max (max line.rts (line.wts + lease)) (pts + lease) } in
      record x { entry = Shared dirty leased; messages = ShRep c leased ∷ rest })
  upgraded : {t : ℕ} {x : Line} (c : ℕ) (dirty : Bool) (line : Timed) (rest : List Message) →
      x.entry ≡ Shared dirty line → IsPermutation x.messages (ExReq c (Some line.wts) ∷ rest) →
      LineTransition lease loses pinned t x t
      (record x { entry = Exclusive c; messages = UpgradeRep c line.rts ∷ rest })
  granted : {t : ℕ} {x : Line} (c : ℕ) (version : Option ℕ) (dirty : Bool) (line : Timed) (rest : List Message) →
      x.entry ≡ Shared dirty line →
      IsPermutation x.messages (ExReq c version ∷ rest) →
      LineTransition lease loses pinned t x t (record x { entry = Exclusive c; messages = ExRep c line ∷ rest })
  wb_starts : {t : ℕ} {x : Line} (owner until : ℕ) → x.entry ≡ Exclusive owner →
      LineTransition lease loses pinned t x t (record x {
        entry = Recalling owner;
        messages =
            WbReq owner until ∷ x.messages;
      })
  flush_starts : {t : ℕ} {x : Line} (owner : ℕ) → x.entry ≡ Exclusive owner →
      LineTransition lease loses pinned t x t
      (record x { entry = Recalling owner; messages = FlushReq owner ∷ x.messages })
  flush_returns : {t : ℕ} {x : Line} (c : ℕ) (line : Timed) (rest : List Message) → IsPermutation x.messages
      (FlushRep c line ∷ rest) →
      LineTransition lease loses pinned t x t (record x { entry = Shared true line; messages = rest })
  wb_returns : {t : ℕ} {x : Line} (c : ℕ) (line : Timed) (rest : List Message) → IsPermutation x.messages
      (WbRep c line ∷ rest) →
      LineTransition lease loses pinned t x t (record x { entry = Shared true line; messages = rest })
  loaded : {t : ℕ} {x : Line} (words : List ℕ) (rest : List Message) → IsPermutation x.messages
      (DramLdRep words ∷ rest) →
      LineTransition lease loses pinned t x t
      (record x { entry = Shared false (record { wts = t; rts = t; words = words }); messages = rest })
  stored : {t : ℕ} {x : Line} (rest : List Message) → IsPermutation x.messages (DramStRep ∷ rest) →
      LineTransition lease loses pinned t x t (record x { entry = Absent; messages = rest })
  evict_clean : {t : ℕ} {x : Line} (line : Timed) → x.entry ≡ Shared false line →
      LineTransition lease loses pinned t x (max t line.rts) (record x { entry = Absent })
  evict_dirty : {t : ℕ} {x : Line} (line : Timed) → x.entry ≡ Shared true line →
      LineTransition lease loses pinned t x (max t line.rts)
      (record x { entry = Storing; messages = DramSt line.words ∷ x.messages })
  -- messages are a bag
  shuffled : {t : ℕ} {x : Line} (messages : List Message) → IsPermutation x.messages messages →
      LineTransition lease loses pinned t x t (record x { messages = messages })
  -- DRAM
  dram_loads : {t : ℕ} {x : Line} (rest : List Message) → IsPermutation x.messages (DramLd ∷ rest) →
      LineTransition lease loses pinned t x t (record x { messages = DramLdRep x.dram ∷ rest })
  dram_stores : {t : ℕ} {x : Line} (words : List ℕ) (rest : List Message) → IsPermutation x.messages
      (DramSt words ∷ rest) →
      LineTransition lease loses pinned t x t (record x { dram = words; messages = DramStRep ∷ rest })

-- a reply that comes to a core with a request out
pub data Answers (c : ℕ) : Line → Line → Type 0 where
  shared : {x : Line} (line : Timed) (rest : List Message) → IsPermutation x.messages (ShRep c line ∷ rest) →
      Answers c x (record x {
        copies =
            with_at x.copies c (Some (record { exclusive = false; written = false; line = line }));
        messages = rest;
      })
  exclusive : {x : Line} (line : Timed) (rest : List Message) → IsPermutation x.messages (ExRep c line ∷ rest) →
      Answers c x (record x {
        copies =
            with_at x.copies c (Some (record { exclusive = true; written = false; line = line }));
        messages = rest;
      })
  renews : {x : Line} (rts : ℕ) (copy : Copy) (rest : List Message) → IsPermutation x.messages (RenewRep c rts ∷ rest)
      → x.copies c ≡ Some copy →
      Answers c x (record x {
        copies =
            with_at x.copies c (Some (record copy { line = record (copy.line) { rts = rts } }));
        messages = rest;
      })
  upgrades : {x : Line} (rts : ℕ) (copy : Copy) (rest : List Message) → IsPermutation x.messages
      (UpgradeRep c rts ∷ rest) → x.copies c ≡ Some copy →
      Answers c x (record x {
        copies = with_at x.copies c
            (Some (record { exclusive = true; written = false; line = record (copy.line) { rts = rts } }));
        messages = rest;
      })

-- what a core has doesn't serve its operation
abbrev pub IsPast : Op → ℕ → ℕ → Type 0
IsPast (Load a) pts rts = rts < pts
IsPast _ pts rts = Unit {0}

abbrev pub CannotUse : Op → ℕ → Option Copy → Type 0
CannotUse op pts None = Unit {0}
CannotUse op pts (Some copy) = (copy.exclusive ≡ false) × IsPast op pts copy.line.rts

pub data Asks (c pts : ℕ) : Op → Line → Line → Type 0 where
  to_read : {x : Line} (a : ℕ) → CannotUse (Load a) pts (x.copies c) →
      Asks c pts (Load a) x (record x { messages = ShReq c pts (version_of (x.copies c)) ∷ x.messages })
  to_write : {op : Op} {x : Line} → CannotUse op pts (x.copies c) →
      Asks c pts op x (record x { messages = ExReq c (version_of (x.copies c)) ∷ x.messages })

-- the time of a write: above every possible read of the old words, or, in place, not below what the core itself did
abbrev pub write_time : Config → ℕ → Copy → ℕ
write_time f pts copy = if f.private_write && copy.written then max pts copy.line.rts else max pts (copy.line.rts + 1)

-- an operation is completed on a copy: what is received, at what time, and the copy afterwards
pub data Uses (f : Config) (pts : ℕ) (copy : Copy) : Op → Option ℕ → ℕ → Copy → Type 0 where
  load_hit : (a : ℕ) → copy.exclusive ≡ false → pts ≤ copy.line.rts →
      Uses f pts copy (Load a) (Some (word_at f copy.line.words a)) (max pts copy.line.wts) copy
  load_own : (a : ℕ) → copy.exclusive ≡ true →
      Uses f pts copy (Load a) (Some (word_at f copy.line.words a)) (max pts copy.line.wts)
      (record copy { line = record (copy.line) { rts = max (max pts copy.line.wts) copy.line.rts } })
  store_own : (a v : ℕ) → copy.exclusive ≡ true →
      Uses f pts copy (Store a v) None (write_time f pts copy)
      (let ts = write_time f pts copy in
      record copy {
        written = true;
        line = record {
          wts = ts;
          rts = ts;
          words =
              slice_set copy.line.words (a % f.line_words) v;
        };
      })
  swap_own : (a v : ℕ) → copy.exclusive ≡ true →
      Uses f pts copy (Swap a v) (Some (word_at f copy.line.words a)) (write_time f pts copy)
      (let ts = write_time f pts copy in
      record copy {
        written = true;
        line = record {
          wts = ts;
          rts = ts;
          words =
              slice_set copy.line.words (a % f.line_words) v;
        };
      })

-- the open operation of a core is on the line
abbrev pub IsPinned : Config → (ℕ → Core) → ℕ → ℕ → Type 0
IsPinned f cores l c = (op : Op) × ((cores c).open_op ≡ Some op) × (line_of f (address op) ≡ l)

-- one accepted change
pub data Transition (f : Config) : Machine → Machine → Type 0 where
  issue : {m : Machine} (c : ℕ) (op : Op) → (m.cores c).open_op ≡ None →
      Transition f m (record m {
        cores = with_at m.cores c (record (m.cores c) { open_op = Some op });
        issued =
            with_at m.issued c (m.issued c ++ op ∷ []);
      })
  advance : {m : Machine} (c : ℕ) →
      Transition f m (record m { cores = with_at m.cores c (record (m.cores c) { pts = (m.cores c).pts + 1 }) })
  ask : {m : Machine} (c : ℕ) (op : Op) (y : Line) → (m.cores c).open_op ≡ Some op → (m.cores c).out ≡ false →
      Asks c (m.cores c).pts op (m.lines (line_of f (address op))) y →
      Transition f m (record m {
        cores = with_at m.cores c (record (m.cores c) { out = true });
        lines =
            with_at m.lines (line_of f (address op)) y;
      })
  answer : {m : Machine} (c l : ℕ) (y : Line) → Answers c (m.lines l) y →
      Transition f m (record m {
        cores = with_at m.cores c (record (m.cores c) { out = false });
        lines =
            with_at m.lines l y;
      })
  complete : {m : Machine} (c : ℕ) (op : Op) (copy new : Copy) (received : Option ℕ) (ts : ℕ) →
      (m.cores c).open_op ≡ Some op → (m.cores c).out ≡ false →
      (m.lines (line_of f (address op))).copies c ≡ Some copy → Uses f (m.cores c).pts copy op received ts new →
      Transition f m (let l = line_of f (address op) in
      record m {
        cores = with_at m.cores c (record { pts = ts; open_op = None; out = false });
        lines = with_at m.lines l (record (m.lines l) { copies = with_at ((m.lines l).copies) c (Some new) });
        records = m.records ++ record {
          core = c;
          place = length (of_core c m.records);
          op = op;
          received =
              received;
          ts = ts;
          number = length m.records;
        } ∷ [];
      })
  line_changes : {m : Machine} (l t : ℕ) (y : Line) → LineTransition f.lease f.loses_recalls (IsPinned f m.cores l)
      (m.mts (l % f.banks)) (m.lines l) t y →
      Transition f m (record m { mts = with_at m.mts (l % f.banks) t; lines = with_at m.lines l y })

-- how many replies a core waits for on a line: one if its open operation is on it and its request is out
abbrev pub waits : Config → ℕ → Bool → Option Op → ℕ
waits f l true (Some op) = if line_of f (address op) == l then 1 else 0
waits f l true None = 0
waits f l false op = 0

-- DRAM opens with the opening memory: each line's list has all the line's words
pub record OpensWith (f : Config) (drams : ℕ → List ℕ) : Type 0 where
  pub long : (l : ℕ) → f.line_words ≤ length (drams l)
  pub same : (a : ℕ) → word_at f (drams (line_of f a)) a ≡ f.opening a

-- the opening, with these times of cores and banks, and these words in DRAM
abbrev pub opened : (pts mts : ℕ → ℕ) → (ℕ → List ℕ) → Machine
opened pts mts drams =
    record {
      lines = λ l. record { entry = Absent; copies = λ c. None; messages = []; dram = drams l };
      cores = λ c. record { pts = pts c; open_op = None; out = false };
      mts = mts;
      issued = λ c. [];
      records = [];
    }

pub data Reachable (f : Config) : Machine → Type 0 where
  at_first : (pts mts : ℕ → ℕ) (drams : ℕ → List ℕ) → ((l : ℕ) → mts (l % f.banks) ≡ f.opening_time) →
      OpensWith f drams → Reachable f (opened pts mts drams)
  goes_on : {m n : Machine} → Reachable f m → Transition f m n → Reachable f n

-- the owners of a line: Exclusive copies of the first n cores, and grants and returns in flight
abbrev pub owns : Option Copy → ℕ
owns None = 0
owns (Some copy) = if copy.exclusive then 1 else 0

abbrev pub owned_below : (ℕ → Option Copy) → ℕ → ℕ
owned_below copies zero = 0
owned_below copies (suc n) = owns (copies n) + owned_below copies n

abbrev pub carries_ownership : Message → ℕ
carries_ownership (ExRep c x) = 1
carries_ownership (UpgradeRep c r) = 1
carries_ownership (FlushRep c x) = 1
carries_ownership (WbRep c x) = 1
carries_ownership _ = 0

abbrev pub owners_in : List Message → ℕ
owners_in [] = 0
owners_in (m ∷ ms) = carries_ownership m + owners_in ms

abbrev pub owners : ℕ → Line → ℕ
owners cores x = owned_below x.copies cores + owners_in x.messages

-- the words of a line where they now are: with the owner among the first n cores, in a grant or return, in the bank's
-- Shared entry, in a store on its way to DRAM, in DRAM
abbrev pub or_else : {X : Type 0} → Option X → X → X
or_else None y = y
or_else (Some x) y = x

abbrev pub owner_or : Option Copy → Option (List ℕ) → Option (List ℕ)
owner_or None o = o
owner_or (Some copy) o = if copy.exclusive then Some copy.line.words else o

abbrev pub owner_words : (ℕ → Option Copy) → ℕ → Option (List ℕ)
owner_words copies zero = None
owner_words copies (suc n) = owner_or (copies n) (owner_words copies n)

abbrev pub words_of : Option Copy → Option (List ℕ)
words_of None = None
words_of (Some copy) = Some copy.line.words

abbrev pub granted_words : (ℕ → Option Copy) → List Message → Option (List ℕ)
granted_words copies [] = None
granted_words copies (ExRep c x ∷ ms) = Some x.words
granted_words copies (UpgradeRep c r ∷ ms) = words_of (copies c)
granted_words copies (FlushRep c x ∷ ms) = Some x.words
granted_words copies (WbRep c x ∷ ms) = Some x.words
granted_words copies (_ ∷ ms) = granted_words copies ms

abbrev pub entry_words : Entry → Option (List ℕ)
entry_words (Shared dirty x) = Some x.words
entry_words _ = None

abbrev pub stored_words : List Message → Option (List ℕ)
stored_words [] = None
stored_words (DramSt w ∷ ms) = Some w
stored_words (_ ∷ ms) = stored_words ms

abbrev pub coherent_words : ℕ → Line → List ℕ
coherent_words cores x = or_else (owner_words x.copies cores) (or_else (granted_words x.copies x.messages)
    (or_else (entry_words x.entry) (or_else (stored_words x.messages) x.dram)))

abbrev pub coherent : Config → ℕ → Machine → ℕ → ℕ
coherent f cores m a = word_at f (coherent_words cores (m.lines (line_of f a))) a

-- a message has a case in the table of the part that it goes to
abbrev pub WaitsFor : Config → Machine → ℕ → ℕ → Type 0
WaitsFor f m l c = ((m.cores c).out ≡ true) × IsPinned f m.cores l c

abbrev pub IsShared : Option Copy → Type 0
IsShared None = Prim.⊥
IsShared (Some copy) = copy.exclusive ≡ false

abbrev pub IsGranted : Entry → Type 0
IsGranted (Exclusive o) = Unit {0}
IsGranted (Recalling o) = Unit {0}
IsGranted _ = Prim.⊥

abbrev pub HasCase : Config → Machine → ℕ → Message → Type 0
HasCase f m l (ShRep c x) = WaitsFor f m l c
HasCase f m l (ExRep c x) = WaitsFor f m l c
HasCase f m l (RenewRep c r) = WaitsFor f m l c × IsShared ((m.lines l).copies c)
HasCase f m l (UpgradeRep c r) = WaitsFor f m l c × IsShared ((m.lines l).copies c)
HasCase f m l (FlushRep c x) = IsGranted (m.lines l).entry
HasCase f m l (WbRep c x) = IsGranted (m.lines l).entry
HasCase f m l (DramLdRep w) = (m.lines l).entry ≡ Loading
HasCase f m l DramStRep = (m.lines l).entry ≡ Storing
HasCase f m l _ = Unit {0}

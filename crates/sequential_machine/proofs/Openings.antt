-- Items that set each name once, and what is there when all have been taken in turn.
use Rattle.std.proofs.Common.{◌≡◌, ◌≢◌, ℕ, zero, suc, ◌+◌, ◌-◌, ◌<◌, Bool, true, false, ◌||◌, ◌&&◌}
use Rattle.std.proofs.Common.{List, [], ◌∷◌, ◌++◌, length, Option, Some, None, Ok, replicate, slice_set}
use Rattle.std.proofs.Common.{refl, sym, ap, ◌∙◌, subst, inl, inr, arith}
use Rattle.std.proofs.lemmas.Bool.Decides.{nat_tests}
use Rattle.std.proofs.lemmas.Grind.{common_steps}
use Rattle.std.specs.Prelude.{◌⊎◌, slice_get, unwrap_or}
use Rattle.std.specs.List.{list_any}
use Rattle.std.specs.FinMap as finite
use Rattle.std.specs.FinMap.{get-empty, get-insert}
use Rattle.std.specs.Ordering.{nat_cmp, eq_by_cmp}
use Rattle.std.specs.Cmp.{nat_cmp_total, unsigned_tied}
use Rattle.std.proofs.lemmas.Bool.{cond_both, cond-true, cond-false, eqb-true, eq-eqb, ne_eqb, lt-ltb}
use Rattle.physiological_order.specs.Order.{flat}
use Rattle.litmus_lexer.specs.Spelling.{register_of}
use Rattle.litmus_parser.specs.Names.{Names, same_name}
use Rattle.litmus_parser.specs.Block.{rest_of_item, Block, added, whole_item, item_or_end, entry, block}
use Rattle.litmus_parser.specs.Words.{named_register}
use Rattle.litmus_parser.specs.Header.{text_pieces}
use Rattle.litmus_parser.specs.declared.items.Opening.{Opening}
use Rattle.litmus_parser.specs.declared.items.Opening.TheVariants.{OfThread, OfLocation}
use Rattle.litmus_lexer.specs.declared.errors.Kind.TheVariants.{BadInitial}
use Rattle.piece_forms.specs.Forms.{word, one, refused}
use Rattle.piece_forms.proofs.Lemmas.{Leads, leads-given, leads-then, leads-known, Onto, leads-until, leads-refused}
use Rattle.litmus_reader.proofs.Lemmas.{leads-behind}
use Rattle.litmus_parser.specs.declared.syntax.Name.{Name}
use Rattle.litmus_parser.specs.declared.syntax.Name.TheVariants.{Register, Location}
use Rattle.litmus_parser.specs.declared.syntax.Setting.{Setting}
use Rattle.litmus_parser.specs.declared.syntax.Setting.TheVariants.{Number, Address}
use Rattle.litmus_parser.specs.declared.syntax.Item.{Item}
use Rattle.litmus_reader.specs.Litmus.{Litmus, settings_of}
use Rattle.litmus_reader.specs.Grammar.{whole_test, IsTest}
use Rattle.litmus_reader.specs.OpeningMemory.{Words, with_setting, words_opened}
use Rattle.litmus_reader.specs.ThreadSteps.{register_value, with_register, with_item, with_items}
use Rattle.sequential_machine.specs.Openings.{OpensAsSet}

abbrev Settings : Type 0
Settings = List (Name × Setting)

abbrev Among : Name → Setting → Settings → Type 0
Among name setting items = (i : ℕ) × (slice_get items i ≡ Some (name, setting))

-- x1 to x31, or a location
abbrev IsSettable : Name → Type 0
IsSettable (Register t r) = (0 < r) × (r < 32)
IsSettable (Location l) = Unit {0}

-- each sets a name that can be set, and that no later one sets
abbrev AreSingle : Settings → Type 0
AreSingle [] = Unit {0}
AreSingle (item ∷ items) =
    IsSettable item.0 × ((setting : Setting) → Among item.0 setting items → ⊥) × AreSingle items

-- Each item takes a step of a state, in which one value is that of the name.
record Opens {X : Type 0} (step : Name → Setting → X → X) (all : Settings → X → X) (value : X → ℕ)
    (IsGood : X → Type 0) (name : Name) : Type 0 where
  ends : (x : X) → all [] x ≡ x
  goes : (item : Name × Setting) (items : Settings) (x : X) → all (item ∷ items) x ≡ all items (step item.0 item.1 x)
  stays : (other : Name) (setting : Setting) (x : X) → IsGood x → IsGood (step other setting x)
  own : (n : ℕ) (x : X) → IsSettable name → IsGood x → value (step name (Number n) x) ≡ n
  addresses : (other : Name) (l : ℕ) (x : X) → step other (Address l) x ≡ x
  others : (other : Name) (n : ℕ) (x : X) → other ≢ name → value (step other (Number n) x) ≡ value x

abbrev some_item : Name → Setting → Option (Name × Setting)
some_item name setting = Some (name, setting)

module _ {X : Type 0} {step : Name → Setting → X → X} {all : Settings → X → X} {value : X → ℕ} {IsGood : X → Type 0}
    {name : Name} (o : Opens step all value IsGood name) where
  one_kept : (other : Name) (setting : Setting) (x : X) →
      ((n : ℕ) → some_item other setting ≡ some_item name (Number n) → ⊥) → value (step other setting x) ≡ value x
  one_kept other (Number n) x differs =
      o.others other n x (λ e. differs n (ap (λ (m : Name). some_item m (Number n)) e))
  one_kept other (Address l) x differs = ap value (o.addresses other l x)

  -- items that don't set the name leave its value
  kept : (items : Settings) (x : X) → ((n : ℕ) → Among name (Number n) items → ⊥) → value (all items x) ≡ value x
  kept [] x none = ap value (o.ends x)
  kept (item ∷ items) x none =
      ap value (o.goes item items x) ∙ kept items (step item.0 item.1 x) (λ n h. none n (suc h.0, h.1))
      ∙ one_kept item.0 item.1 x (λ n e. none n (0, e))

  -- one that sets it gives it its number
  given : (items : Settings) (x : X) (n i : ℕ) → AreSingle items → IsGood x →
      slice_get items i ≡ Some (name, Number n) → value (all items x) ≡ n
  given [] x n i once good e = absurd cc
  given (item ∷ items) x n zero once good e =
      let same : item ≡ (name, Number n) = cc in
      ap value (o.goes item items x)
      ∙ kept items (step item.0 item.1 x) (λ m h. once.1 (Number m)
      (subst (λ (k : Name × Setting). Among k.0 (Number m) items) (sym same) h))
      ∙ ap (λ (k : Name × Setting). value (step k.0 k.1 x)) same
      ∙ o.own n x (subst (λ (k : Name × Setting). IsSettable k.0) same once.0) good
  given (item ∷ items) x n (suc i) once good e =
      ap value (o.goes item items x)
      ∙ given items (step item.0 item.1 x) n i once.2 (o.stays item.0 item.1 x good) e

-- the registers of a thread

both_true : {a b : Bool} → a ≡ true → b ≡ true → (a && b) ≡ true
both_true e f = rw (e, f) refl

set_here : (xs : List ℕ) (i x : ℕ) → i < length xs → slice_get (slice_set xs i x) i ≡ Some x
set_here [] i x l = absurd (omega arith)
set_here (z ∷ xs) zero x l = refl
set_here (z ∷ xs) (suc i) x l = set_here xs i x (omega arith)

set_else : (xs : List ℕ) (i j x : ℕ) → i ≢ j → slice_get (slice_set xs i x) j ≡ slice_get xs j
set_else (z ∷ xs) zero zero x ne = absurd (ne refl)
set_else (z ∷ xs) (suc i) (suc j) x ne = set_else xs i j x (λ e. ne (ap suc e))
set_else _ _ _ x ne = refl

set_length : (xs : List ℕ) (i x : ℕ) → length (slice_set xs i x) ≡ length xs
set_length [] i x = refl
set_length (z ∷ xs) zero x = refl
set_length (z ∷ xs) (suc i) x = ap suc (set_length xs i x)

none_set : (n i : ℕ) → register_value (replicate n 0) i ≡ 0
none_set zero i = refl
none_set (suc n) zero = refl
none_set (suc n) (suc i) = none_set n i

module _ (t : ℕ) where
  register_length : (xs : List ℕ) (r n : ℕ) → length xs ≡ 32 → length (with_register xs r n) ≡ 32
  register_length xs r n l = grind (arith, nat_tests, common_steps, cond_both, set_length, slice_set)

  item_length : (name : Name) (setting : Setting) (xs : List ℕ) → length xs ≡ 32 →
      length (with_item t name setting xs) ≡ 32
  item_length (Register owner r) (Number n) xs l = let q0 = register_length xs r n l in grind (arith, nat_tests, q0)
  item_length (Register owner r) (Address a) xs l = l
  item_length (Location m) (Number n) xs l = l
  item_length (Location m) (Address a) xs l = l

  register_else : (xs : List ℕ) (q r n : ℕ) → q ≢ r → register_value (with_register xs q n) r ≡ register_value xs r
  register_else xs q r n ne = grind (arith, nat_tests, common_steps, cond_both, set_else, slice_set)

  item_else : (r : ℕ) (name : Name) (n : ℕ) (xs : List ℕ) → name ≢ Register t r →
      register_value (with_item t name (Number n) xs) r ≡ register_value xs r
  item_else r (Register owner q) n xs ne = grind (arith, nat_tests, common_steps, cond_both, eqb-true, register_else)
  item_else r (Location l) n xs ne = refl

  item_here : (r n : ℕ) (xs : List ℕ) → (0 < r) × (r < 32) → length xs ≡ 32 →
      register_value (with_item t (Register t r) (Number n) xs) r ≡ n
  item_here r n xs near l =
      grind (arith, nat_tests, common_steps, both_true, cond-true, eq-eqb, lt-ltb, set_here, slice_set)

  item_address : (name : Name) (l : ℕ) (xs : List ℕ) → with_item t name (Address l) xs ≡ xs
  item_address (Register owner r) l xs = refl
  item_address (Location m) l xs = refl

  all_length : (items : Settings) (xs : List ℕ) → length xs ≡ 32 → length (with_items t items xs) ≡ 32
  unfolding with_items
  all_length [] xs l = l
  all_length (item ∷ items) xs l = all_length items (with_item t item.0 item.1 xs) (item_length item.0 item.1 xs l)

  registers_open : (r : ℕ) → Opens (with_item t) (with_items t) (λ xs. register_value xs r) (λ xs. length xs ≡ 32)
      (Register t r)
  unfolding with_items
  registers_open r = grind (arith, nat_tests, common_steps, item_address, item_else, item_here, item_length)

-- the words of memory

word_address : (name : Name) (l : ℕ) (words : Words) → with_setting name (Address l) words ≡ words
word_address (Register owner r) l words = refl
word_address (Location m) l words = refl

word_else : (l : ℕ) (name : Name) (n : ℕ) (words : Words) → name ≢ Location l →
    flat (with_setting name (Number n) words) l ≡ flat words l
word_else l (Register owner r) n words ne = refl
word_else l (Location m) n words ne =
    ap (λ (x : Option ℕ). unwrap_or x 0) (get-insert nat_cmp_total words m n l
    ∙ cond-false (eq_by_cmp nat_cmp l m) (Some n) (finite.get words l) (unsigned_tied l m
    ∙ ne_eqb l m (λ e. ne (ap (λ (x : ℕ). Location x) (sym e)))))

word_here : (l n : ℕ) (words : Words) → flat (with_setting (Location l) (Number n) words) l ≡ n
word_here l n words =
    ap (λ (x : Option ℕ). unwrap_or x 0) (get-insert nat_cmp_total words l n l
    ∙ cond-true (eq_by_cmp nat_cmp l l) (Some n) (finite.get words l) (unsigned_tied l l ∙ eq-eqb l l refl))

words_open : (l : ℕ) → Opens with_setting words_opened (λ words. flat words l) (λ words. Unit {0}) (Location l)
unfolding words_opened
words_open l = grind (arith, nat_tests, common_steps, word_address, word_else, word_here)

-- items of the grammar

is_same : (name : Name) → same_name name name ≡ true
is_same (Register t r) = rw (eq-eqb t t refl, eq-eqb r r refl) refl
is_same (Location l) = eq-eqb l l refl

abbrev name_or : Name → Option (Name × Setting) → Name
name_or name None = name
name_or name (Some item) = item.0

never : (b : Bool) → b ≡ true → b ≡ false → ⊥
never b e f = cc

no_either : (a b : Bool) → (a || b) ≡ false → (a ≡ false) × (b ≡ false)
no_either true b e = absurd cc
no_either false b e = (refl, e)

-- what is among items with one more is among them, or is that one
last_or : (items : List Item) (item : Item) (name : Name) (setting : Setting) (i : ℕ) →
    slice_get (settings_of (items ++ item ∷ [])) i ≡ Some (name, setting) →
    Among name setting (settings_of items) ⊎ (item.name ≡ name)
last_or [] item name setting zero e = inr (ap (λ (o : Option (Name × Setting)). name_or name o) e)
last_or [] item name setting (suc i) e = absurd cc
last_or (x ∷ items) item name setting zero e = inl (0, e)
last_or (x ∷ items) item name setting (suc i) e =
    elim (last_or items item name setting i e) [
      | inl m ↦ inl (suc m.0, m.1)
      | inr same ↦ inr same
    ]

one_more : (items : List Item) (item : Item) → list_any (λ other. same_name other.name item.name) items ≡ false →
    IsSettable item.name → AreSingle (settings_of items) → AreSingle (settings_of (items ++ item ∷ []))
one_more [] item none settable single = (settable, λ setting m. absurd cc, tt)
one_more (x ∷ items) item none settable single =
    let no = no_either (same_name x.name item.name) (list_any (λ other. same_name other.name item.name) items) none in (
      single.0,
      λ setting m. elim (last_or items item x.name setting m.0 m.1) [
        | inl there ↦ single.1 setting there
        | inr same ↦ never (same_name x.name item.name)
            (subst (λ (n : Name). same_name x.name n ≡ true) (sym same) (is_same x.name)) no.0
      ],
      one_more items item no.1 settable single.2,
    )

added_single : (items : List Item) (item : Item) (all : List Item) → IsSettable item.name →
    AreSingle (settings_of items) → added items item ≡ Ok all → AreSingle (settings_of all)
unfolding added
added_single items item all settable single = grind (arith, nat_tests, common_steps, cond_both, one_more)

abbrev IsSetting : ℕ → Type 0
IsSetting r = (0 < r) × (r < 32)

register_settable : Leads (one (word BadInitial (λ w. named_register BadInitial (register_of w)))) IsSetting
register_settable = grind (arith, nat_tests)

item_settable : (o : Opening × Names) → Leads (rest_of_item o) (λ i. IsSettable i.0.name)
unfolding rest_of_item
item_settable (OfThread thread, names) =
    grind (arith, nat_tests, common_steps, leads-behind, leads-given, leads-then, register_settable)
item_settable (OfLocation l, names) = grind (arith, nat_tests, common_steps, leads-behind, leads-given)

abbrev SingleSo : Block → Type 0
SingleSo b = AreSingle (settings_of b.0)

entry_single : (b : Block) → SingleSo b → Leads (entry b) (Onto SingleSo SingleSo)
unfolding entry whole_item
entry_single b single = leads-behind on
  where
    onto : (more : Bool) (x : Block) → SingleSo x → Onto SingleSo SingleSo (more, x)
    onto true x h = h
    onto false x h = h

    on : (o : Option (Opening × Names)) → Leads (item_or_end b o) (Onto SingleSo SingleSo)
    on None = leads-given (false, b) single
    on (Some o) =
        leads-then (item_settable o) (λ i settable.
        leads-then {P = λ all. AreSingle (settings_of all)}
        (leads-known (added b.0 i.0) (λ all e. added_single b.0 i.0 all settable single e)) (λ all h.
        leads-behind (λ more. leads-given (more, (all, i.1)) (onto more (all, i.1) h))))

test_single : Leads whole_test (λ test. AreSingle test.items)
unfolding whole_test block
test_single =
    leads-behind (λ n. leads-then {P = SingleSo} (leads-behind (λ u.
    leads-then (leads-until (refused BadInitial) entry SingleSo SingleSo entry_single (λ b h.
    leads-refused BadInitial b) 65536 ([], []) tt) (λ b h.
    leads-behind (λ v. leads-given b h)))) (λ b h.
    leads-behind (λ t. leads-behind (λ c. leads-given _ h))))

pub opens_as_set : (text : List ℕ) (test : Litmus) → IsTest text test → OpensAsSet test
opens_as_set text test h =
    let single = test_single.stands 1 (text_pieces text []) test h.last h.end h.stands in
    record {
      register_count = λ t. all_length t test.items (replicate 32 0) refl;
      register_set = λ t r n s. given (registers_open t r) test.items (replicate 32 0) n s.0 single refl s.1;
      register_unset = λ t r no. kept (registers_open t r) test.items (replicate 32 0) no ∙ none_set 32 r;
      location_set = λ l n s. given (words_open l) test.items finite.empty n s.0 single tt s.1;
      location_unset = λ l no. kept (words_open l) test.items finite.empty no
          ∙ ap (λ (x : Option ℕ). unwrap_or x 0) (get-empty nat_cmp l);
    }

-- The numbers of links: each is below how many links there are, and two links have two numbers.
use Rattle.std.proofs.Common.{◌≡◌, ℕ, ◌+◌, ◌*◌, ◌<◌, ◌≤◌, Bool, true, false, ◌&&◌, nat_eq, nat_lt}
use Rattle.std.proofs.Common.{Option, Some, None, refl, sym, ap, ◌∙◌, inl, inr, arith, IsTrue, if◌then◌else◌}
use Rattle.std.proofs.Common.{true≢false, List, [], ◌∷◌}
use Rattle.std.proofs.lemmas.Bool.{cases_eq, eq-eqb, ne_eqb}
use Rattle.std.proofs.lemmas.Bool.Decides.{nat_tests}
use Rattle.std.proofs.Math.Nat.{mul-le-mul_right}
use Rattle.network.specs.declared.message.Node.{Node}
use Rattle.network.specs.declared.message.Node.TheVariants.{Core, Bank, Dram}
use Rattle.network.specs.declared.message.Message.{Message}
use Rattle.network.specs.LinkNumbers.{count_links, link_of, has_link, has_link_below, is_on, is_below}
use Rattle.network.specs.Routes.{AllHaveEndpoints, has_endpoints, has_route, is_core_to_bank, is_bank_to_dram}
use Rattle.network.specs.Search.{first_message, is_between, is_dram_store, is_same_node, is_store_of}
use Rattle.network.specs.declared.message.Body.{Body}
use Rattle.network.specs.declared.message.Body.TheVariants.{ShReq, ExReq, FlushRep, WbRep, DramLd, DramLdRep, DramSt}
use Rattle.network.specs.declared.message.Body.TheVariants.{DramStRep}

-- a core and a bank by one number, below how many such pairs there are
pair-below : (c b cores banks : ℕ) → c < cores → b < banks → c * banks + b < cores * banks
pair-below c b cores banks core bank =
    let h : (c + 1) * banks ≤ cores * banks = mul-le-mul_right banks (omega arith) in
    omega (arith, h)

-- two pairs have two numbers
pair-once : (c b d e banks : ℕ) → b < banks → e < banks → c * banks + b ≡ d * banks + e → (c ≡ d) × (b ≡ e)
pair-once c b d e banks bank other same =
    let less = pair-below c b d banks in let more = pair-below d e c banks in
    let alike : c ≡ d → c * banks ≡ d * banks = λ is. ap (λ k. k * banks) is in grind arith

-- what is chosen by a test
chosen : (p : Bool) (k l : ℕ) → (if p then Some k else None) ≡ Some l → (p ≡ true) × (k ≡ l)
chosen p k l e = grind arith

both : (p q : Bool) → p && q ≡ true → (p ≡ true) × (q ≡ true)
both p q e = grind arith

below : (a b : ℕ) → nat_lt a b ≡ true → a < b
below a b e = grind (arith, nat_tests, e)

equal : (a b : ℕ) → nat_eq a b ≡ true → a ≡ b
equal a b e = grind (arith, nat_tests, e)

is-less : (a b : ℕ) → a < b → nat_lt a b ≡ true
is-less a b h = grind (arith, nat_tests, h)

never : (q : Bool) → (q ≡ true → ⊥) → q ≡ false
never q h = grind arith

-- whether a number that is chosen by a test is the one that is looked for
meets : (p : Bool) (k l : ℕ) (q : Bool) → (p ≡ true → k ≡ l → q ≡ true) → (q ≡ true → (p ≡ true) × (k ≡ l)) →
    has_link l (if p then Some k else None) ≡ q
meets true k l q there back = elim (cases_eq k l) [
  | inl e ↦ eq-eqb k l e ∙ sym (there refl e)
  | inr ne ↦ ne_eqb k l ne ∙ sym (never q (λ is. ne (back is).1))
]
meets false k l q there back = sym (never q (λ is. true≢false (sym (back is).0)))

-- the links that messages go over, from the one that is looked for
from_dram : (cores banks b d : ℕ) (f t : Node) (l : ℕ) → link_of cores banks (Bank b) (Dram d) ≡ Some l →
    has_link l (link_of cores banks f t) ≡ (is_same_node f (Bank b) && is_same_node t (Dram d))
from_dram cores banks b d (Bank b') (Dram d') l e =
    let one = chosen _ b l e in let tests = both _ _ one.0 in
    let low = below b banks tests.0 in let same = equal b d tests.1 in
    grind (arith, nat_tests, low, same, one.1)
from_dram cores banks b d _ _ l e =
    let one = chosen _ b l e in let tests = both _ _ one.0 in
    let low = below b banks tests.0 in
    grind (arith, nat_tests, low, one.1)

to_dram : (cores banks b d : ℕ) (f t : Node) (l : ℕ) → link_of cores banks (Dram d) (Bank b) ≡ Some l →
    has_link l (link_of cores banks f t) ≡ (is_same_node f (Dram d) && is_same_node t (Bank b))
to_dram cores banks b d (Dram d') (Bank b') l e =
    let one = chosen _ (banks + b) l e in let tests = both _ _ one.0 in
    let low = below b banks tests.0 in let same = equal b d tests.1 in
    grind (arith, nat_tests, low, same, one.1)
to_dram cores banks b d _ _ l e =
    let one = chosen _ (banks + b) l e in let tests = both _ _ one.0 in
    let low = below b banks tests.0 in
    grind (arith, nat_tests, low, one.1)

-- a pair of a core and a bank is one with another
same-pair : (cores banks c b c' b' base l : ℕ) → c < cores → b < banks → base + (c * banks + b) ≡ l →
    has_link l (if nat_lt c' cores && nat_lt b' banks then Some (base + (c' * banks + b')) else None)
    ≡ (nat_eq c' c && nat_eq b' b)
same-pair cores banks c b c' b' base l core bank is =
    meets _ _ l (nat_eq c' c && nat_eq b' b)
    (λ tests e. let low = both _ _ tests in
    let pair = pair-once c' b' c b banks (below b' banks low.1) bank (omega (arith, e, is)) in
    grind (arith, nat_tests, pair.0, pair.1))
    (λ tests. let same = both _ _ tests in
    let first : c' ≡ c = equal c' c same.0 in let second : b' ≡ b = equal b' b same.1 in (
      grind (arith, nat_tests, first, second, core, bank),
      ap (λ k. base + (k * banks + b')) first ∙ ap (λ k. base + (c * banks + k)) second ∙ is,
    ))

to_bank : (cores banks c b : ℕ) (f t : Node) (l : ℕ) → link_of cores banks (Core c) (Bank b) ≡ Some l →
    has_link l (link_of cores banks f t) ≡ (is_same_node f (Core c) && is_same_node t (Bank b))
to_bank cores banks c b (Core c') (Bank b') l e =
    let one = chosen _ (2 * banks + (c * banks + b)) l e in let tests = both _ _ one.0 in
    same-pair cores banks c b c' b' (2 * banks) l (below c cores tests.0) (below b banks tests.1) one.1
to_bank cores banks c b _ _ l e =
    let one = chosen _ (2 * banks + (c * banks + b)) l e in let tests = both _ _ one.0 in
    let low = pair-below c b cores banks (below c cores tests.0) (below b banks tests.1) in
    grind (arith, nat_tests, low, one.1)

and-comm : (p q : Bool) → (p && q) ≡ (q && p)
and-comm p q = grind arith

to_core : (cores banks c b : ℕ) (f t : Node) (l : ℕ) → link_of cores banks (Bank b) (Core c) ≡ Some l →
    has_link l (link_of cores banks f t) ≡ (is_same_node f (Bank b) && is_same_node t (Core c))
to_core cores banks c b (Bank b') (Core c') l e =
    let one = chosen _ (2 * banks + cores * banks + (c * banks + b)) l e in let tests = both _ _ one.0 in
    same-pair cores banks c b c' b' (2 * banks + cores * banks) l (below c cores tests.0) (below b banks tests.1) one.1
    ∙ and-comm (nat_eq c' c) (nat_eq b' b)
to_core cores banks c b (Core c') (Bank b') l e =
    let one = chosen _ (2 * banks + cores * banks + (c * banks + b)) l e in
    meets _ (2 * banks + (c' * banks + b')) l false
    (λ tests same. let low = both _ _ tests in
    let less = pair-below c' b' cores banks (below c' cores low.0) (below b' banks low.1) in
    absurd (omega (arith, less, same, one.1)))
    (λ e. cc)
to_core cores banks c b _ _ l e =
    let one = chosen _ (2 * banks + cores * banks + (c * banks + b)) l e in
    grind (arith, nat_tests, one.1)

-- a message goes over a link exactly when it goes between the link's nodes
pub link-between : (cores banks : ℕ) (from to : Node) (l : ℕ) → link_of cores banks from to ≡ Some l → (m : Message) →
    is_on cores banks l m ≡ is_between from to m
link-between cores banks (Bank b) (Dram d) l e m = from_dram cores banks b d m.from m.to l e
link-between cores banks (Dram d) (Bank b) l e m = to_dram cores banks b d m.from m.to l e
link-between cores banks (Core c) (Bank b) l e m = to_bank cores banks c b m.from m.to l e
link-between cores banks (Bank b) (Core c) l e m = to_core cores banks c b m.from m.to l e
link-between cores banks _ _ l e m = cc

-- the link of a message that goes between nodes that its kind goes between
abbrev IsLink : ℕ → ℕ → ℕ → Node → Node → Type 0
IsLink top cores banks from to = (l : ℕ) × (link_of cores banks from to ≡ Some l) × (l < top)

up : (cores banks : ℕ) (f t : Node) → is_core_to_bank cores banks f t ≡ true →
    IsLink (count_links cores banks) cores banks f t
up cores banks (Core c) (Bank b) h =
    let tests = both _ _ h in
    let low = pair-below c b cores banks (below c cores tests.0) (below b banks tests.1) in (
      2 * banks + (c * banks + b),
      ap (λ p. if p then Some (2 * banks + (c * banks + b)) else None) h,
      omega (arith, low),
    )
up cores banks _ _ h = cc

down : (cores banks : ℕ) (t f : Node) → is_core_to_bank cores banks t f ≡ true →
    IsLink (count_links cores banks) cores banks f t
down cores banks (Core c) (Bank b) h =
    let tests = both _ _ h in
    let low = pair-below c b cores banks (below c cores tests.0) (below b banks tests.1) in (
      2 * banks + cores * banks + (c * banks + b),
      ap (λ p. if p then Some (2 * banks + cores * banks + (c * banks + b)) else None) h,
      omega (arith, low),
    )
down cores banks _ _ h = cc

out : (cores banks : ℕ) (f t : Node) → is_bank_to_dram banks f t ≡ true → IsLink banks cores banks f t
out cores banks (Bank b) (Dram d) h =
    let tests = both _ _ h in (b, ap (λ p. if p then Some b else None) h, below b banks tests.0)
out cores banks _ _ h = cc

back : (cores banks : ℕ) (t f : Node) → is_bank_to_dram banks t f ≡ true →
    IsLink (count_links cores banks) cores banks f t
back cores banks (Bank b) (Dram d) h =
    let tests = both _ _ h in
    let low = below b banks tests.0 in
    (banks + b, ap (λ p. if p then Some (banks + b) else None) h, omega (arith, low))
back cores banks _ _ h = cc

route-link : (cores banks : ℕ) (f t : Node) (body : Body) → has_route cores banks f t body ≡ true →
    IsLink (count_links cores banks) cores banks f t
route-link cores banks f t (ShReq pts version) h = up cores banks f t h
route-link cores banks f t (ExReq version) h = up cores banks f t h
route-link cores banks f t (FlushRep line) h = up cores banks f t h
route-link cores banks f t (WbRep line) h = up cores banks f t h
route-link cores banks f t DramLd h = let l = out cores banks f t h in (l.0, l.1, omega (arith, l.2))
route-link cores banks f t (DramSt words) h = let l = out cores banks f t h in (l.0, l.1, omega (arith, l.2))
route-link cores banks f t (DramLdRep words) h = back cores banks t f h
route-link cores banks f t DramStRep h = back cores banks t f h
route-link cores banks f t _ h = down cores banks t f h

pub has-link : (cores banks : ℕ) (m : Message) → IsTrue (has_endpoints cores banks m) →
    IsLink (count_links cores banks) cores banks m.from m.to
has-link cores banks m h = route-link cores banks m.from m.to m.body h

-- the number of a link is below how many there are
pub link-low : (cores banks : ℕ) (from to : Node) (l : ℕ) → link_of cores banks from to ≡ Some l →
    l < count_links cores banks
link-low cores banks (Bank b) (Dram d) l e = grind arith
link-low cores banks (Dram d) (Bank b) l e = grind arith
link-low cores banks (Core c) (Bank b) l e = let low = pair-below c b cores banks in grind arith
link-low cores banks (Bank b) (Core c) l e = let low = pair-below c b cores banks in grind arith
link-low cores banks _ _ l e = cc

-- nodes that are the same
same-node : (a b : Node) → is_same_node a b ≡ true → a ≡ b
same-node (Core a) (Core b) e = ap Core (equal a b e)
same-node (Bank a) (Bank b) e = ap Bank (equal a b e)
same-node (Dram a) (Dram b) e = ap Dram (equal a b e)
same-node _ _ e = cc

-- no message goes between nodes that have no link
off-link : (cores banks : ℕ) (from to : Node) (m : Message) → link_of cores banks from to ≡ None →
    IsTrue (has_endpoints cores banks m) → is_between from to m ≡ false
off-link cores banks from to m none here = never (is_between from to m) (λ is.
    let same = both _ _ is in
    let link = has-link cores banks m here in
    let two : ◌≡◌ {A = Option ℕ} (Some link.0) None =
    sym link.1 ∙ ap (λ f. link_of cores banks f m.to) (same-node m.from from same.0)
    ∙ ap (λ t. link_of cores banks from t) (same-node m.to to same.1) ∙ none in cc)

pub none-between : (cores banks : ℕ) (from to : Node) (xs : List (ℕ × Message)) → link_of cores banks from to ≡ None →
    AllHaveEndpoints cores banks xs → first_message (is_between from to) xs ≡ None
none-between cores banks from to [] none all = refl
none-between cores banks from to (x ∷ xs) none all = let off = off-link cores banks from to x.1 none all.0 in
    let rest = none-between cores banks from to xs none all.1 in grind arith

-- a message that stores words in DRAM goes over one of the first links
stored : (cores banks : ℕ) (f t : Node) (body : Body) → has_route cores banks f t body ≡ true →
    is_dram_store body ≡ true → has_link_below banks (link_of cores banks f t) ≡ true
stored cores banks f t (DramSt words) h e =
    let l = out cores banks f t h in ap (has_link_below banks) l.1 ∙ is-less l.0 banks l.2
stored cores banks f t _ h e = cc

pub store-below : (cores banks line : ℕ) (m : Message) → IsTrue (has_endpoints cores banks m) →
    is_store_of line m ≡ true → is_below cores banks banks m ≡ true
store-below cores banks line m here store = stored cores banks m.from m.to m.body here (both _ _ store).1

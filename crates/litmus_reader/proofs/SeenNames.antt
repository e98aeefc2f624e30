-- The truth of an expression over the values of the names that it names.
use Rattle.std.proofs.Common.{◌≡◌, ℕ, Bool, true, false, cond, eqb, ◌||◌, ◌&&◌, List, [], ◌∷◌, ◌++◌, map, refl, sym}
use Rattle.std.proofs.Common.{ap, subst, ◌∙◌, inl, inr}
use Rattle.std.specs.List.{list_any}
use Rattle.std.proofs.lemmas.Bool.{cases_Bool, eqb-true, eq-eqb, and_parts, or_cases}
use Rattle.litmus_parser.specs.Names.{same_name}
use Rattle.litmus_parser.specs.Trees.{Tree, Is, Both, Either}
use Rattle.litmus_parser.specs.declared.syntax.Name.{Name}
use Rattle.litmus_parser.specs.declared.syntax.Name.TheVariants.{Register, Location}
use Rattle.litmus_reader.specs.Seen.{with_name, seen_in}
use Rattle.litmus_reader.specs.Truth.{value_of, holds}

same-is : (a b : Name) → same_name a b ≡ true → a ≡ b
same-is (Register s q) (Register t r) e = let p = and_parts (eqb s t) (eqb q r) e in
    ap (λ (x : ℕ). Register x q) (eqb-true s t p.0) ∙ ap (λ (x : ℕ). Register t x) (eqb-true q r p.1)
same-is (Location l) (Location m) e = ap (λ (x : ℕ). Location x) (eqb-true l m e)
same-is (Register s q) (Location m) e = absurd cc
same-is (Location l) (Register t r) e = absurd cc

both-true : (a b : Bool) → a ≡ true → b ≡ true → (a && b) ≡ true
both-true a b e f = rw (e, f) refl

is-same : (a : Name) → same_name a a ≡ true
is-same (Register t r) = both-true (eqb t t) (eqb r r) (eq-eqb t t refl) (eq-eqb r r refl)
is-same (Location l) = eq-eqb l l refl

-- a name is among names
abbrev pub IsIn : Name → List Name → Type 0
IsIn name names = list_any (λ other. same_name other name) names ≡ true

or-left : (a b : Bool) → a ≡ true → (a || b) ≡ true
or-left a b e = rw e refl

or-right : (a b : Bool) → b ≡ true → (a || b) ≡ true
or-right true b e = refl
or-right false b e = e

in-front : (name : Name) (xs ys : List Name) → IsIn name xs → IsIn name (xs ++ ys)
in-front name [] ys h = absurd cc
in-front name (x ∷ xs) ys h =
    elim (or_cases (same_name x name) (list_any (λ other. same_name other name) xs) h) [
      | inl e ↦ or-left (same_name x name) (list_any (λ other. same_name other name) (xs ++ ys)) e
      | inr e ↦ or-right (same_name x name) (list_any (λ other. same_name other name) (xs ++ ys))
          (in-front name xs ys e)
    ]

at-end : (name : Name) (xs : List Name) → IsIn name (xs ++ name ∷ [])
at-end name [] = or-left (same_name name name) false (is-same name)
at-end name (x ∷ xs) =
    or-right (same_name x name) (list_any (λ other. same_name other name) (xs ++ name ∷ [])) (at-end name xs)

stays_in : (name other : Name) (names : List Name) → IsIn name names → IsIn name (with_name names other)
stays_in name other names h =
    elim (cases_Bool (list_any (λ o. same_name o other) names)) [
      | inl e ↦ rw e h
      | inr e ↦ rw e (in-front name names (other ∷ []) h)
    ]

comes_in : (name : Name) (names : List Name) → IsIn name (with_name names name)
comes_in name names =
    elim (cases_Bool (list_any (λ o. same_name o name) names)) [
      | inl e ↦ rw e e
      | inr e ↦ rw e (at-end name names)
    ]

still_in : (name : Name) (tree : Tree) (names : List Name) → IsIn name names → IsIn name (seen_in tree names)
still_in name (Is other value) names h = stays_in name other names h
still_in name (Both a b) names h = still_in name b (seen_in a names) (still_in name a names h)
still_in name (Either a b) names h = still_in name b (seen_in a names) (still_in name a names h)

-- all names of a tree are among names
abbrev pub AllIn : Tree → List Name → Type 0
AllIn (Is name value) names = IsIn name names
AllIn (Both a b) names = AllIn a names × AllIn b names
AllIn (Either a b) names = AllIn a names × AllIn b names

all-still : (tree other : Tree) (names : List Name) → AllIn tree names → AllIn tree (seen_in other names)
all-still (Is name value) other names h = still_in name other names h
all-still (Both a b) other names h = (all-still a other names h.0, all-still b other names h.1)
all-still (Either a b) other names h = (all-still a other names h.0, all-still b other names h.1)

all-in : (tree : Tree) (names : List Name) → AllIn tree (seen_in tree names)
all-in (Is name value) names = comes_in name names
all-in (Both a b) names = (all-still a b (seen_in a names) (all-in a names), all-in b (seen_in a names))
all-in (Either a b) names = (all-still a b (seen_in a names) (all-in a names), all-in b (seen_in a names))

value-if : (b : Bool) (x y z : ℕ) → (b ≡ true → x ≡ z) → (b ≡ false → y ≡ z) → cond b x y ≡ z
value-if true x y z f g = f refl
value-if false x y z f g = g refl

not-first : (a b : Bool) → (a || b) ≡ true → a ≡ false → b ≡ true
not-first true b h e = absurd cc
not-first false b h e = h

value-there : (f : Name → ℕ) (names : List Name) (name : Name) → IsIn name names →
    value_of names (map f names) name ≡ f name
unfolding value_of
value-there f [] name h = absurd cc
value-there f (other ∷ names) name h =
    value-if (same_name other name) (f other) (value_of names (map f names) name) (f name)
    (λ e. ap f (same-is other name e))
    (λ e. value-there f names name (not-first (same_name other name) (list_any (λ o. same_name o name) names) h e))

same-truth : (f : Name → ℕ) (names : List Name) (tree : Tree) → AllIn tree names →
    holds (value_of names (map f names)) tree ≡ holds f tree
same-truth f names (Is name value) h = ap (λ (n : ℕ). eqb n value) (value-there f names name h)
same-truth f names (Both a b) h = rw (same-truth f names a h.0, same-truth f names b h.1) refl
same-truth f names (Either a b) h = rw (same-truth f names a h.0, same-truth f names b h.1) refl

-- over the names of a tree, the truth by their values is the truth
pub truth-is : (f : Name → ℕ) (names : List Name) (tree : Tree) → names ≡ seen_in tree [] →
    holds (value_of names (map f names)) tree ≡ holds f tree
truth-is f names tree e = same-truth f names tree (subst (AllIn tree) (sym e) (all-in tree []))

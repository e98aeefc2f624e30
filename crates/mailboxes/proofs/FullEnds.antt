-- The cores and banks to which a seat's links were found full.
use Rattle.std.proofs.Common.{◌≡◌, ℕ, zero, suc, ◌+◌, ◌-◌, ◌*◌, ◌<◌, ◌==◌, ◌||◌, Bool, true, false, List, [], ◌∷◌, ◌++◌}
use Rattle.std.proofs.Common.{refl, sym, ap, ◌∙◌, arith, length, get_or, set, replicate, eqb-true}
use Rattle.std.proofs.Common.{eq-eqb, ne_eqb}
use Rattle.std.proofs.lemmas.Bool.Decides.{nat_tests}
use Rattle.std.proofs.lemmas.Grind.{common_steps}
use Rattle.std.specs.List.{list_any}
use Rattle.std.proofs.lemmas.Bool.{eqb-false, false≢true}
use Rattle.std.proofs.lemmas.List.{get_or-set_same, get_or-set_other}
use Rattle.std.proofs.lemmas.List.Folds.{list_any-append}
use Rattle.network.specs.declared.message.Node.{Node}
use Rattle.network.specs.declared.message.Node.TheVariants.{Core, Bank, Dram}
use Rattle.mailboxes.specs.Places.{end_of, has_link_to, link_to}

or_false : (b : Bool) → (b || false) ≡ b
or_false true = refl
or_false false = refl

or_true : (b : Bool) → (b || true) ≡ true
or_true true = refl
or_true false = refl

module _ (cores banks number : ℕ) where
  abbrev links : Node → ℕ
  links to = link_to cores banks number to

  abbrev leads : Node → Type 0
  leads to = has_link_to cores banks number to ≡ true

  abbrev among : Node → List ℕ → Bool
  among to found = list_any (λ l. l == links to) found

  -- the marks tell which links were found full
  abbrev pub Marks : List Bool → List ℕ → Type 0
  Marks full found = (to : Node) → leads to → get_or full (end_of to) false ≡ among to found

  pub none_marked : Marks (replicate 64 false) []
  none_marked to lead = unmarked 64 (end_of to)
    where
      unmarked : (n i : ℕ) → get_or (replicate n false) i false ≡ false
      unmarked zero i = refl
      unmarked (suc n) zero = refl
      unmarked (suc n) (suc i) = unmarked n i

  one_kind : (c d : ℕ) → leads (Core c) → leads (Bank d) → ⊥
  one_kind c d a b = grind (arith, nat_tests)

  same_ends : (a b : Node) → leads a → leads b → links a ≡ links b → end_of a ≡ end_of b
  same_ends (Core c) (Core d) a b is =
      let p : ℕ = cores * banks in let q : ℕ = (number - cores) * cores in omega (arith, is)
  same_ends (Bank c) (Bank d) a b is = let q : ℕ = number * banks in omega (arith, is)
  same_ends (Core c) (Bank d) a b is = absurd (one_kind c d a b)
  same_ends (Bank c) (Core d) a b is = absurd (one_kind d c b a)
  same_ends (Dram c) b x y is = absurd (false≢true x)
  same_ends (Core c) (Dram d) x y is = absurd (false≢true y)
  same_ends (Bank c) (Dram d) x y is = absurd (false≢true y)

  same_links : (a b : Node) → leads a → leads b → end_of a ≡ end_of b → links a ≡ links b
  same_links (Core c) (Core d) a b is = ap (λ n. cores * banks + ((number - cores) * cores + n)) is
  same_links (Bank c) (Bank d) a b is = ap (λ n. number * banks + n) is
  same_links (Core c) (Bank d) a b is = absurd (one_kind c d a b)
  same_links (Bank c) (Core d) a b is = absurd (one_kind d c b a)
  same_links (Dram c) b x y is = absurd (false≢true x)
  same_links (Core c) (Dram d) x y is = absurd (false≢true y)
  same_links (Bank c) (Dram d) x y is = absurd (false≢true y)

  one_more : (to : Node) (found : List ℕ) (l : ℕ) (b : Bool) → (l == links to) ≡ b →
      among to (found ++ l ∷ []) ≡ (among to found || b)
  one_more to found l b is = grind (arith, nat_tests, common_steps, list_any-append, or_false)

  -- one more is marked
  pub marked_more : (full : List Bool) (found : List ℕ) (to : Node) (l e : ℕ) → l ≡ links to → e ≡ end_of to →
      leads to → e < length full → Marks full found → Marks (set full e true) (found ++ l ∷ [])
  marked_more full found to l e is at to_leads long marks x lead = by (end_of x == e) refl
    where
      by : (b : Bool) → (end_of x == e) ≡ b → get_or (set full e true) (end_of x) false ≡ among x (found ++ l ∷ [])
      by true same =
          let here = eqb-true (end_of x) e same in
          let link : l ≡ links x = is ∙ same_links to x to_leads lead (sym at ∙ sym here) in
          ap (λ n. get_or (set full e true) n false) here ∙ get_or-set_same full e true false long
          ∙ sym (or_true (among x found)) ∙ sym (one_more x found l true (eq-eqb l (links x) link))
      by false other =
          let far = eqb-false (end_of x) e other in
          get_or-set_other full e (end_of x) true false far ∙ marks x lead ∙ sym (or_false (among x found))
          ∙ sym (one_more x found l false (ne_eqb l (links x)
          (λ same. far (sym (same_ends to x to_leads lead (sym is ∙ same)) ∙ sym at))))

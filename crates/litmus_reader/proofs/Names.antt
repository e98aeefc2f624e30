-- The names that a test's condition names are there: registers of its threads, and locations that it numbers.
use Rattle.std.proofs.Common.{◌≡◌, ℕ, zero, suc, ◌<◌, ◌≤◌, Bool, true, false, cond, eqb, leb, List, [], ◌∷◌}
use Rattle.std.proofs.Common.{◌++◌, length, Option, Some, None, Result, Ok, Err, refl, arith, length-append}
use Rattle.std.proofs.lemmas.Bool.Decides.{nat_tests}
use Rattle.std.proofs.lemmas.Grind.{common_steps}
use Rattle.std.specs.Option.{option_map_or}
use Rattle.std.specs.List.{AllByRecursion as Each}
use Rattle.std.proofs.lemmas.Bool.{cond_both, leb-false}
use Rattle.litmus_lexer.specs.Pieces.{Piece, Word, Sign, LineEnd}
use Rattle.litmus_lexer.specs.Spelling.{small_of}
use Rattle.litmus_lexer.specs.declared.errors.Kind.{Kind}
use Rattle.litmus_lexer.specs.declared.errors.Kind.TheVariants.{TooLarge, BadCondition, CutShort}
use Rattle.piece_forms.specs.Places.{Beyond}
use Rattle.piece_forms.specs.Forms.{Verdict, Form, ◌>>=◌, Gives, InOrder, said, mapped, one, either, turn, refused}
use Rattle.piece_forms.proofs.Lemmas.{Leads, leads-given, leads-then, Tells, leads-at, Onto, leads-until}
use Rattle.piece_forms.proofs.Lemmas.{leads-refused}
use Rattle.litmus_parser.specs.Names.{Names, address_of}
use Rattle.litmus_parser.specs.Trees.{Tree, Is, Both, Either}
use Rattle.litmus_parser.specs.Condition.{Sight, PartForm, counted, start, rest_of_factor, join_of, further, joined}
use Rattle.litmus_parser.specs.Condition.{chain, expression, factor_with, inner, factor, condition}
use Rattle.litmus_parser.specs.declared.items.Opening.{Opening}
use Rattle.litmus_parser.specs.declared.items.Opening.TheVariants.{OfThread, OfLocation}
use Rattle.litmus_parser.specs.declared.expressions.Connective.{Connective}
use Rattle.litmus_parser.specs.declared.expressions.Connective.TheVariants.{And, Or}
use Rattle.litmus_parser.specs.declared.syntax.Name.{Name}
use Rattle.litmus_parser.specs.declared.syntax.Name.TheVariants.{Register, Location}
use Rattle.litmus_parser.specs.declared.syntax.Quantifier.{Quantifier}
use Rattle.litmus_reader.specs.Seen.{seen_in}
use Rattle.litmus_reader.specs.Litmus.{Litmus}
use Rattle.litmus_parser.specs.Verdicts.{Bases}
use Rattle.litmus_parser.specs.Words.{location, opening}
use Rattle.litmus_reader.specs.Grammar.{whole_test}

abbrev pub IsThere : ℕ → ℕ → Name → Type 0
IsThere threads locations (Register t r) = t < threads
IsThere threads locations (Location l) = l < locations

-- all names of a tree are there
abbrev pub AreThere : ℕ → ℕ → Tree → Type 0
AreThere threads locations (Is name value) = IsThere threads locations name
AreThere threads locations (Both a b) = AreThere threads locations a × AreThere threads locations b
AreThere threads locations (Either a b) = AreThere threads locations a × AreThere threads locations b

more_there : (threads a b : ℕ) → a ≤ b → (name : Name) → IsThere threads a name → IsThere threads b name
more_there threads a b le (Register t r) h = h
more_there threads a b le (Location l) h = omega arith

more_are_there : (threads a b : ℕ) → a ≤ b → (tree : Tree) → AreThere threads a tree → AreThere threads b tree
more_are_there threads a b le (Is name value) h = more_there threads a b le name h
more_are_there threads a b le (Both x y) h =
    (more_are_there threads a b le x h.0, more_are_there threads a b le y h.1)
more_are_there threads a b le (Either x y) h =
    (more_are_there threads a b le x h.0, more_are_there threads a b le y h.1)

-- ---- what stands in the form of the condition

-- whatever stands first
pub leads-behind : {A B : Type 0} {f : Form A} {g : A → Form B} {Q : B → Type 0} → ((y : A) → Leads (g y) Q) →
    Leads (InOrder f g) Q
leads-behind then = leads-then {P = λ y. Unit {0}} (record { stands = λ line ps x n rest s. tt }) (λ y _. then y)

-- no number is taken back, and the names in the tree are there
abbrev Adds : ℕ → Sight → Tree × Sight → Type 0
Adds threads s x = (length s.0 ≤ length x.1.0) × AreThere threads (length x.1.0) x.0

-- what a factor begins with is there
abbrev StartsThere : ℕ → ℕ → Option Opening → Type 0
StartsThere threads locations (Some (OfThread t)) = t < threads
StartsThere threads locations (Some (OfLocation l)) = l < locations
StartsThere threads locations None = Unit {0}

abbrev Begins : ℕ → Names → Option Opening × Names → Type 0
Begins threads before x = (length before ≤ length x.1) × StartsThere threads (length x.1) x.0

abbrev Named : ℕ → Names → Result (Opening × Names) Kind → Type 0
Named threads before (Ok x) = Begins threads before (Some x.0, x.1)
Named threads before (Err kind) = Unit {0}

module _ (threads : ℕ) where
  located_there : (w : List ℕ) (names : Names) →
      Named threads names (mapped (λ l. (OfLocation l.0, l.1)) (location BadCondition w names))
  unfolding location
  located_there w names = let q0 = length-append names (w ∷ []) in grind (arith, nat_tests, q0)

  name_there : (o : Option ℕ) (w : List ℕ) (names : Names) → Named threads names
      (option_map_or (λ t. cond (leb threads t) (Err BadCondition) (Ok (OfThread t, names))) o
      (mapped (λ l. (OfLocation l.0, l.1)) (location BadCondition w names)))
  name_there (Some t) w names =
      cond_both (leb threads t) _ _ (Named threads names) (λ _. tt) (λ e. (omega arith, leb-false _ _ e))
  name_there None w names = located_there w names

  module _ (depth : ℕ) (s : Sight) where
    abbrev Looks : Verdict (Option Opening × Sight) → Type 0
    Looks = Tells (λ x. Begins threads s.0 (x.0, x.1.0))

    counted_there : (r : Result (Opening × Names) Kind) → Named threads s.0 r → Looks (counted s.1 r)
    counted_there (Ok x) h = cond_both (leb 256 s.1) _ _ Looks (λ _. tt) (λ _. h)
    counted_there (Err kind) h = tt

    start_there : Leads (one (start threads depth s)) (λ x. Begins threads s.0 (x.0, x.1.0))
    start_there = leads-at _ Beyond (start threads depth s) (Err CutShort) on
      where
        on : (o : Option Piece) → Looks (said (start threads depth s) (Err CutShort) o)
        on None = tt
        on (Some LineEnd) = tt
        on (Some (Sign b)) = cond_both (eqb b 40) _ _ Looks
            (λ _. cond_both (eqb depth 0) _ _ Looks (λ _. tt) (λ _. (omega arith, tt))) (λ _. tt)
        on (Some (Word w)) = counted_there (opening BadCondition threads w s.0) (name_there (small_of 15 w) w s.0)

  -- a part of an expression
  abbrev Part : PartForm → Type 0
  Part part = (s : Sight) → Leads (part s) (Adds threads s)

  module _ (bases : Bases) (inside : PartForm) (within : Part inside) where
    rest_there : (s : Sight) (x : Option Opening × Sight) → Begins threads s.0 (x.0, x.1.0) →
        Leads (rest_of_factor bases inside x) (Adds threads s)
    rest_there s (Some (OfThread t), sight) h =
        leads-behind (λ u. leads-behind (λ r. leads-behind (λ n. leads-given (Is (Register t r) n, sight) h)))
    rest_there s (Some (OfLocation l), sight) h =
        leads-behind (λ n. leads-given (Is (Location l) n, sight) h)
    rest_there s (None, sight) h =
        leads-then (within sight) (λ e k. leads-behind (λ u. leads-given e (omega (arith, h.0, k.0), k.1)))

    factor_there : (depth : ℕ) → Part (factor_with bases threads depth inside)
    factor_there depth s = leads-then (start_there depth s) (λ x h. rest_there s x h)

  join_there : (c : Connective) (n : ℕ) (a b : Tree) → AreThere threads n a → AreThere threads n b →
      AreThere threads n (join_of c a b)
  join_there And n a b x y = (x, y)
  join_there Or n a b x y = (x, y)

  chain_there : (c : Connective) (part : PartForm) → Part part → Part (chain c part)
  chain_there c part there s =
      leads-then (there s) (λ x h.
      leads-until (refused TooLarge) (turn (further c) (joined c part)) (Adds threads s) (Adds threads s) turn_there
      (λ y k. leads-refused TooLarge y) 256 x h)
    where
      turn_there : (x : Tree × Sight) → Adds threads s x →
          Leads (turn (further c) (joined c part) x) (Onto (Adds threads s) (Adds threads s))
      turn_there x h = leads-behind on
        where
          on : (more : Bool) → Leads (either (joined c part x >>= λ y. Gives (true, y)) (Gives (false, x)) more)
              (Onto (Adds threads s) (Adds threads s))
          on false = leads-given (false, x) h
          on true =
              leads-then {P = Adds threads s} (leads-then (there x.1) (λ right g.
              leads-given (join_of c x.0 right.0, right.1) (
                omega (arith, h.0, g.0),
                join_there c (length right.1.0) x.0 right.0
                    (more_are_there threads (length x.1.0) (length right.1.0) g.0 x.0 h.1) g.1,
              ))) (λ y g. leads-given (true, y) g)

  expression_there : (bases : Bases) (depth : ℕ) → Part (expression (factor bases threads depth))
  unfolding inner
  expression_there bases zero =
      chain_there Or _ (chain_there And _ (factor_there bases (refused TooLarge) (λ s. leads-refused TooLarge s) 0))
  expression_there bases (suc depth) =
      chain_there Or _ (chain_there And _ (factor_there bases (expression (factor bases threads depth))
      (expression_there bases depth) (suc depth)))

pub condition_there : (bases : Bases) (threads : ℕ) (before : Names) → Leads (condition bases threads before)
    (λ (x : Quantifier × Tree × Names). AreThere threads (length x.2) x.1)
unfolding condition
condition_there bases threads before =
    leads-behind (λ q. leads-then (expression_there threads bases 64 (before, 0)) (λ e h.
    leads-behind (λ u. leads-given (q, e.0, e.1.0) h.1)))

-- the names in its tree are there, and those that are seen are those of its tree
abbrev pub IsNamed : Litmus → Type 0
IsNamed test = AreThere test.threads (length test.locations) test.tree × (test.seen ≡ seen_in test.tree [])

pub test_named : Leads whole_test IsNamed
unfolding whole_test
test_named =
    leads-behind (λ n. leads-behind (λ b. leads-behind (λ t.
    leads-then (condition_there (address_of b.0) t.0 b.1) (λ c h. leads-given _ (h, refl)))))

pub each_behind : {X : Type 0} (P : X → Type 0) (xs : List X) (x : X) → Each P xs → P x → Each P (xs ++ x ∷ [])
each_behind P [] x h p = (p, tt)
each_behind P (y ∷ xs) x h p = (h.0, each_behind P xs x h.1 p)

pub seen_there : (threads locations : ℕ) (tree : Tree) (names : List Name) → AreThere threads locations tree →
    Each (IsThere threads locations) names → Each (IsThere threads locations) (seen_in tree names)
seen_there threads locations (Is name value) names h e = grind (arith, nat_tests, common_steps, cond_both, each_behind)
seen_there threads locations (Both a b) names h e =
    seen_there threads locations b (seen_in a names) h.1 (seen_there threads locations a names h.0 e)
seen_there threads locations (Either a b) names h e =
    seen_there threads locations b (seen_in a names) h.1 (seen_there threads locations a names h.0 e)

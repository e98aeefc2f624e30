-- A form is read exactly where pieces stand in it, and a fault has its cause.
use Rattle.std.proofs.Common.{◌≡◌, ℕ, ◌⊎◌, Bool, true, false, cond, List, [], ◌++◌, Option, Some}
use Rattle.std.proofs.Common.{None, Result, Ok, Err, refl, sym, ap, subst, ◌∙◌, append_assoc, inl, inr}
use Rattle.litmus_lexer.specs.Pieces.{Piece}
use Rattle.litmus_lexer.specs.declared.errors.Kind.{Kind}
use Rattle.litmus_lexer.specs.declared.errors.LitmusError.{LitmusError}
use Rattle.text_lines.specs.Reading.{◌>>=◌}
use Rattle.litmus_lexer.specs.Reading.{Read, fails, fault_at}
use Rattle.piece_forms.specs.Places.{Where, first_piece, seen, behind, line_behind, from, line_of}
use Rattle.piece_forms.specs.Forms.{Verdict, Takes, Leaves, Refuses, Form, Gives, At, Test, Line, Known, InOrder, said}
use Rattle.piece_forms.specs.Forms.{Passes, Stands}
use Rattle.piece_forms.specs.Faults.{IsRefused, HasSame, Cause}
use Rattle.piece_forms.specs.Reading.{decided, reads}
use Rattle.piece_forms.proofs.Places.{first-append, over, up-to}

-- ---- what is read stands in the form, up to where it is refused

bind-ok : {X Y : Type 0} (r : Result X LitmusError) (f : X → Result Y LitmusError) (y : Y) → (r >>= f) ≡ Ok y →
    (x : X) × (r ≡ Ok x) × (f x ≡ Ok y)
bind-ok (Ok x) f y e = (x, refl, e)
bind-ok (Err d) f y e = absurd cc

bind-err : {X Y : Type 0} (r : Result X LitmusError) (f : X → Result Y LitmusError) (d : LitmusError) →
    (r >>= f) ≡ Err d → (r ≡ Err d) ⊎ ((x : X) × (r ≡ Ok x) × (f x ≡ Err d))
bind-err (Ok x) f d e = inr (x, refl, e)
bind-err (Err c) f d e = inl cc

abbrev Same : {A : Type 0} → A → ℕ → List Piece → A × ℕ × List Piece → Type 0
Same y n rest x = (y ≡ x.0) × (n ≡ x.1) × (rest ≡ x.2)

given : {A : Type 0} (y : A) (n : ℕ) (rest : List Piece) (x : A × ℕ × List Piece) →
    (let r : Read A = Ok (y, n, rest) in r) ≡ Ok x → Same y n rest x
given y n rest x e =
    let same : (let p : _ × ℕ × List Piece = (y, n, rest) in p) ≡ x = cc in
    (ap (λ p. p.0) same, ap (λ p. p.1) same, ap (λ p. p.2) same)

decided-takes : {A : Type 0} (place : Where) (v : Verdict A) (line : ℕ) (pieces : List Piece)
    (x : A × ℕ × List Piece) → decided place v line pieces ≡ Ok x → Passes place v line pieces x.0 x.1 x.2
decided-takes place (Takes y) line pieces x e = given y (line_behind place line pieces) (behind place pieces) x e
decided-takes place (Leaves y) line pieces x e = given y (line_of place line pieces) (from place pieces) x e
decided-takes place (Refuses kind) line pieces x e = absurd cc

tested : (b : Bool) (kind : Kind) (line : ℕ) (pieces : List Piece) (x : Unit {0} × ℕ × List Piece) →
    cond b (Ok (tt, line, pieces)) (fails kind line) ≡ Ok x → (b ≡ true) × (tt ≡ x.0) × (line ≡ x.1) × (pieces ≡ x.2)
tested true kind line pieces x e = let g = given tt line pieces x e in (refl, g.0, g.1, g.2)
tested false kind line pieces x e = absurd cc

known-is : {A : Type 0} (known : Result A LitmusError) (line : ℕ) (pieces : List Piece) (x : A × ℕ × List Piece) →
    (known >>= λ y. (let r : Read A = Ok (y, line, pieces) in r)) ≡ Ok x →
    (known ≡ Ok x.0) × (line ≡ x.1) × (pieces ≡ x.2)
known-is (Ok y) line pieces x e = let g = given y line pieces x e in (ap Ok g.0, g.1, g.2)
known-is (Err f) line pieces x e = absurd cc

pub takes : {A : Type 0} (f : Form A) (line : ℕ) (pieces : List Piece) (x : A × ℕ × List Piece) →
    reads f line pieces ≡ Ok x → Stands f line pieces x.0 x.1 x.2
takes (Gives y) line pieces x e = given y line pieces x e
takes (At place look end) line pieces x e = decided-takes place (said look end (seen place pieces)) line pieces x e
takes (Test holds kind) line pieces x e = tested (holds pieces) kind line pieces x e
takes Line line pieces x e = given line line pieces x e
takes (Known known) line pieces x e = known-is known line pieces x e
takes (InOrder f g) line pieces x e =
    let b = bind-ok (reads f line pieces) (λ r. reads (g r.0) r.1 r.2) x e in
    (b.0.0, b.0.1, b.0.2, takes f line pieces b.0 b.1, takes (g b.0.0) b.0.1 b.0.2 x b.2)

same-read : {A : Type 0} (x y : A) (n m : ℕ) (a b : List Piece) → x ≡ y → n ≡ m → a ≡ b →
    (let r : Read A = Ok (x, n, a) in r) ≡ Ok (y, m, b)
same-read x y n m a b e f g = rw (e, f, g) refl

passed-again : {A : Type 0} (place : Where) (v : Verdict A) (line : ℕ) (pieces : List Piece) (x : A) (n : ℕ)
    (rest : List Piece) → Passes place v line pieces x n rest → decided place v line pieces ≡ Ok (x, n, rest)
passed-again place (Takes y) line pieces x n rest s = same-read y x _ _ _ _ s.0 s.1 s.2
passed-again place (Leaves y) line pieces x n rest s = same-read y x _ _ _ _ s.0 s.1 s.2
passed-again place (Refuses kind) line pieces x n rest s = absurd s

pub again : {A : Type 0} (f : Form A) (line : ℕ) (pieces : List Piece) (x : A) (n : ℕ) (rest : List Piece) →
    Stands f line pieces x n rest → reads f line pieces ≡ Ok (x, n, rest)
again (Gives y) line pieces x n rest s = same-read y x _ _ _ _ s.0 s.1 s.2
again (At place look end) line pieces x n rest s =
    passed-again place (said look end (seen place pieces)) line pieces x n rest s
again (Test holds kind) line pieces x n rest s = rw s.0 (same-read tt x _ _ _ _ s.1 s.2 s.3)
again Line line pieces x n rest s = same-read line x _ _ _ _ s.0 s.1 s.2
again (Known known) line pieces x n rest s = rw s.0 (same-read x x _ _ _ _ refl s.1 s.2)
again (InOrder f g) line pieces x n rest s =
    ap (λ r. r >>= λ r. reads (g r.0) r.1 r.2) (again f line pieces s.0 s.1 s.2 s.3)
    ∙ again (g s.0) s.1 s.2 x n rest s.4

decided-refuses : {A : Type 0} (place : Where) (v : Verdict A) (line : ℕ) (pieces : List Piece) (e : LitmusError) →
    decided place v line pieces ≡ Err e → (v ≡ Refuses e.kind) × (line_of place line pieces ≡ e.line)
decided-refuses place (Takes y) line pieces e h = absurd cc
decided-refuses place (Leaves y) line pieces e h = absurd cc
decided-refuses place (Refuses kind) line pieces e h =
    let same : fault_at kind (line_of place line pieces) ≡ e = cc in
    (ap (λ d. Refuses d.kind) same, ap (λ (d : LitmusError). d.line) same)

tests-false : (b : Bool) (kind : Kind) (line : ℕ) (pieces : List Piece) (e : LitmusError) →
    (let r : Read (Unit {0}) = cond b (Ok (tt, line, pieces)) (fails kind line) in r) ≡ Err e →
    (b ≡ false) × (fault_at kind line ≡ e)
tests-false true kind line pieces e h = absurd cc
tests-false false kind line pieces e h = (refl, let same : fault_at kind line ≡ e = cc in same)

known-fails : {A : Type 0} (known : Result A LitmusError) (line : ℕ) (pieces : List Piece) (e : LitmusError) →
    (known >>= λ y. (let r : Read A = Ok (y, line, pieces) in r)) ≡ Err e → known ≡ Err e
known-fails (Ok y) line pieces e h = absurd cc
known-fails (Err f) line pieces e h = let same : f ≡ e = cc in ap Err same

refuses : {A : Type 0} (f : Form A) (line : ℕ) (pieces : List Piece) (e : LitmusError) → reads f line pieces ≡ Err e →
    (there : List Piece) × (all : Bool) × IsRefused f line pieces e there all
refuses (Gives x) line pieces e h = absurd cc
refuses (At place look end) line pieces e h =
    let d = decided-refuses place (said look end (seen place pieces)) line pieces e h in
    (from place pieces, false, (d.0, d.1, refl, refl))
refuses (Test holds kind) line pieces e h =
    let t = tests-false (holds pieces) kind line pieces e h in (pieces, true, (t.0, t.1, refl, refl))
refuses Line line pieces e h = absurd cc
refuses (Known known) line pieces e h = (pieces, false, (known-fails known line pieces e h, refl, refl))
refuses (InOrder f g) line pieces e h =
    elim (bind-err (reads f line pieces) (λ r. reads (g r.0) r.1 r.2) e h) [
      | inl first ↦ let r = refuses f line pieces e first in (r.0, r.1, inl r.2)
      | inr b ↦ let r = refuses (g b.0.0) b.0.1 b.0.2 e b.2 in
          (r.0, r.1, inr (b.0.0, b.0.1, b.0.2, takes f line pieces b.0 b.1, r.2))
    ]

-- ---- what stands in a form stands in no other way with other pieces behind it

record Stood {A : Type 0} (f : Form A) (line : ℕ) (pieces : List Piece) (x : A) (n : ℕ)
    (rest : List Piece) : Type 0 where
  front : List Piece
  split : pieces ≡ front ++ rest
  firm : (u : List Piece) → first_piece rest ≡ first_piece u → (y : A) (m : ℕ) (r : List Piece) →
      Stands f line (front ++ u) y m r → (x ≡ y) × (n ≡ m) × (u ≡ r)

a-piece : {A : Type 0} (look : Piece → Verdict A) (end : Result A Kind) (o : Option Piece) (x : A) →
    said look end o ≡ Takes x → (p : Piece) × (o ≡ Some p)
a-piece look end (Some p) x e = (p, refl)
a-piece look (Ok y) None x e = absurd cc
a-piece look (Err kind) None x e = absurd cc

module _ {A : Type 0} (place : Where) (look : Piece → Verdict A) (end : Result A Kind) (line : ℕ)
    (pieces : List Piece) (x : A) (n : ℕ) (rest : List Piece) where
  at-stood : (v : Verdict A) → said look end (seen place pieces) ≡ v → Passes place v line pieces x n rest →
      Stood (At place look end) line pieces x n rest
  at-stood (Takes y) e s =
      let p = a-piece look end (seen place pieces) y e in
      let o = over place pieces p.0 p.1 in
      record {
        front = o.front;
        split = o.split ∙ ap (λ r. o.front ++ r) s.2;
        firm = λ u begins z m r t.
            let again : said look end (seen place (o.front ++ u)) ≡ Takes y =
            ap (said look end) (o.next u ∙ sym p.1) ∙ e in
            let k : Passes place (Takes y) line (o.front ++ u) z m r =
            subst (λ v. Passes place v line (o.front ++ u) z m r) again t in
            (sym s.0 ∙ k.0, sym s.1 ∙ o.ends line u ∙ k.1, sym (o.behind_is u) ∙ k.2);
      }
  at-stood (Leaves y) e s =
      let o = up-to place pieces in
      record {
        front = o.front;
        split = o.split ∙ ap (λ r. o.front ++ r) s.2;
        firm = λ u begins z m r t.
            let same = o.same line u (ap first_piece s.2 ∙ begins) in
            let again : said look end (seen place (o.front ++ u)) ≡ Leaves y = ap (said look end) same.0 ∙ e in
            let k : Passes place (Leaves y) line (o.front ++ u) z m r =
            subst (λ v. Passes place v line (o.front ++ u) z m r) again t in
            (sym s.0 ∙ k.0, sym s.1 ∙ sym same.2 ∙ k.1, sym same.1 ∙ k.2);
      }
  at-stood (Refuses kind) e s = absurd s

one-answer : {A : Type 0} (known : Result A LitmusError) (x y : A) → known ≡ Ok x → known ≡ Ok y → x ≡ y
one-answer (Ok z) x y e f = let a : z ≡ x = cc in let b : z ≡ y = cc in sym a ∙ b
one-answer (Err d) x y e f = absurd cc

stood : {A : Type 0} (f : Form A) (line : ℕ) (pieces : List Piece) (x : A) (n : ℕ) (rest : List Piece) →
    Stands f line pieces x n rest → Stood f line pieces x n rest
stood (Gives y) line pieces x n rest s =
    record { front = []; split = s.2; firm = λ u begins z m r t. (sym s.0 ∙ t.0, sym s.1 ∙ t.1, t.2) }
stood (At place look end) line pieces x n rest s =
    at-stood place look end line pieces x n rest (said look end (seen place pieces)) refl s
stood (Test holds kind) line pieces x n rest s =
    record { front = []; split = s.3; firm = λ u begins z m r t. (sym s.1 ∙ t.1, sym s.2 ∙ t.2, t.3) }
stood Line line pieces x n rest s =
    record { front = []; split = s.2; firm = λ u begins z m r t. (sym s.0 ∙ t.0, sym s.1 ∙ t.1, t.2) }
stood (Known known) line pieces x n rest s =
    record {
      front = [];
      split = s.2;
      firm = λ u begins z m r t. (one-answer known x z s.0 t.0, sym s.1 ∙ t.1, t.2);
    }
stood (InOrder f g) line pieces x n rest s =
    let a = stood f line pieces s.0 s.1 s.2 s.3 in
    let b = stood (g s.0) s.1 s.2 x n rest s.4 in
    record {
      front = a.front ++ b.front;
      split = a.split ∙ ap (λ r. a.front ++ r) b.split ∙ sym (append_assoc a.front b.front rest);
      firm = λ u begins z m r t.
          let k : Stands (InOrder f g) line (a.front ++ (b.front ++ u)) z m r =
          subst (λ ps. Stands (InOrder f g) line ps z m r) (append_assoc a.front b.front u) t in
          let ahead : first_piece s.2 ≡ first_piece (b.front ++ u) =
          ap first_piece b.split ∙ first-append b.front rest u begins in
          let same = a.firm (b.front ++ u) ahead k.0 k.1 k.2 k.3 in
          let first : Stands (g s.0) k.1 k.2 z m r = subst (λ y. Stands (g y) k.1 k.2 z m r) (sym same.0) k.4 in
          let second : Stands (g s.0) s.1 k.2 z m r =
          subst (λ l. Stands (g s.0) l k.2 z m r) (sym same.1) first in
          b.firm u begins z m r (subst (λ ps. Stands (g s.0) s.1 ps z m r) (sym same.2) second);
    }

-- ---- where a form refuses what comes next, nothing stands, whatever follows

record Stuck {A : Type 0} (f : Form A) (line : ℕ) (pieces there : List Piece) (all : Bool) : Type 0 where
  front : List Piece
  split : pieces ≡ front ++ there
  no_way : (u : List Piece) → HasSame all there u → (y : A) (m : ℕ) (r : List Piece) →
      Stands f line (front ++ u) y m r → ⊥

has-first : (all : Bool) (there u : List Piece) → HasSame all there u → first_piece there ≡ first_piece u
has-first true there u e = ap first_piece e
has-first false there u e = e

no-test : (b : Bool) → b ≡ false → b ≡ true → ⊥
no-test b e f = absurd cc

no-answer : {A : Type 0} (known : Result A LitmusError) (e : LitmusError) (x : A) → known ≡ Err e → known ≡ Ok x → ⊥
no-answer known e x h k = absurd cc

stuck : {A : Type 0} (f : Form A) (line : ℕ) (pieces : List Piece) (e : LitmusError) (there : List Piece)
    (all : Bool) → IsRefused f line pieces e there all → Stuck f line pieces there all
stuck (Gives x) line pieces e there all r = absurd r
stuck (At place look end) line pieces e there all r =
    let o = up-to place pieces in
    record {
      front = o.front;
      split = o.split ∙ ap (λ p. o.front ++ p) r.2;
      no_way = λ u has y m q s.
          let same = o.same line u (ap first_piece r.2 ∙ has-first all there u has) in
          let again : said look end (seen place (o.front ++ u)) ≡ Refuses e.kind =
          ap (said look end) same.0 ∙ r.0 in
          let none : ⊥ = subst (λ v. Passes place v line (o.front ++ u) y m q) again s in none;
    }
stuck (Test holds kind) line pieces e there all r =
    record {
      front = [];
      split = r.2;
      no_way = λ u has y m q s.
          let same : there ≡ u = subst (λ a. HasSame a there u) r.3 has in
          no-test (holds pieces) r.0 (ap holds (r.2 ∙ same) ∙ s.0);
    }
stuck Line line pieces e there all r = absurd r
stuck (Known known) line pieces e there all r =
    record { front = []; split = r.1; no_way = λ u has y m q s. no-answer known e y r.0 s.0 }
stuck (InOrder f g) line pieces e there all (inl r) =
    let a = stuck f line pieces e there all r in
    record {
      front = a.front;
      split = a.split;
      no_way = λ u has y m q s. a.no_way u has s.0 s.1 s.2 s.3;
    }
stuck (InOrder f g) line pieces e there all (inr (y, n, middle, s, r)) =
    let a = stood f line pieces y n middle s in
    let b = stuck (g y) n middle e there all r in
    record {
      front = a.front ++ b.front;
      split = a.split ∙ ap (λ r. a.front ++ r) b.split ∙ sym (append_assoc a.front b.front there);
      no_way = λ u has z m q t.
          let k : Stands (InOrder f g) line (a.front ++ (b.front ++ u)) z m q =
          subst (λ ps. Stands (InOrder f g) line ps z m q) (append_assoc a.front b.front u) t in
          let ahead : first_piece middle ≡ first_piece (b.front ++ u) =
          ap first_piece b.split ∙ first-append b.front there u (has-first all there u has) in
          let same = a.firm (b.front ++ u) ahead k.0 k.1 k.2 k.3 in
          let first : Stands (g y) k.1 k.2 z m q = subst (λ w. Stands (g w) k.1 k.2 z m q) (sym same.0) k.4 in
          let second : Stands (g y) n k.2 z m q = subst (λ l. Stands (g y) l k.2 z m q) (sym same.1) first in
          b.no_way u has z m q (subst (λ ps. Stands (g y) n ps z m q) (sym same.2) second);
    }

pub explains : {A : Type 0} (f : Form A) (line : ℕ) (pieces : List Piece) (e : LitmusError) →
    reads f line pieces ≡ Err e → Cause f line pieces e.kind e.line
explains f line pieces e h =
    let r = refuses f line pieces e h in
    let o = stuck f line pieces e r.0 r.1 r.2 in
    record { front = o.front; there = r.0; all = r.1; split = o.split; refused = r.2; no_way = o.no_way }

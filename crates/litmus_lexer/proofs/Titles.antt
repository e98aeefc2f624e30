-- The first line, both ways.
use Rattle.std.proofs.Common.{◌≡◌, ◌≢◌, ℕ, ◌<◌, ◌≤◌, Bool, true, false, cond, eqb, ltb, ◌&&◌, List, [], ◌∷◌, ◌++◌}
use Rattle.std.proofs.Common.{length, take, drop, Option, Some, None, refl, sym, ap, subst, ◌∙◌, arith, codes}
use Rattle.std.specs.Prelude.{option_and_then, option_map, MatchOption}
use denote.Bor.{Bor}
use Rattle.std.specs.List.{list_all, prefix_len}
use Rattle.std.proofs.lemmas.Bool.{and_parts, eqb-true, eqb-false, eq-eqb, ne_eqb, ltb-false, le-ltb}
use Rattle.std.proofs.lemmas.Bool.{false_from_ne_true, both_ways}
use Rattle.std.proofs.lemmas.List.{take-append-drop, take_at, drop_at, length-take}
use Rattle.litmus_lexer.specs.Pieces.{is_blank}
use Rattle.litmus_lexer.specs.FirstLines.{IsTitle, is_title_byte, behind_riscv, name_in, name_behind, title_of}
use Rattle.std.proofs.lemmas.List.Sums.{prefix_len-le-length}
use Rattle.litmus_lexer.proofs.Fronts.{front-all, whole-front, front-append, front-whole, other-front}
use Rattle.litmus_lexer.proofs.Fronts.{other-front-append}
use Rattle.litmus_lexer.proofs.Pieces.{blank-cases}

blank-apart : (b : ℕ) → is_blank b ≡ true → is_title_byte b ≡ false
blank-apart b h = blank-cases (λ b. is_title_byte b ≡ false) refl refl refl b h

title-apart : (b : ℕ) → is_title_byte b ≡ true → is_blank b ≡ false
title-apart b h = false_from_ne_true (is_blank b) (λ e. both_ways (is_title_byte b) (blank-apart b e) h)

-- ---- what is read is a title

if_none : {A : Type 0} (b : Bool) (o : Option A) (x : A) → cond b None o ≡ Some x → (b ≡ false) × (o ≡ Some x)
if_none true o x e = absurd cc
if_none false o x e = (refl, e)

if_some : {A : Type 0} (b : Bool) (y x : A) → cond b (Some y) None ≡ Some x → (b ≡ true) × (y ≡ x)
if_some true y x e = (refl, cc)
if_some false y x e = absurd cc

and_then_some : {A B : Type 0} (f : A → Option B) (o : Option A) (y : B) → option_and_then f o ≡ Some y → (x : A) ×
    (o ≡ Some x) × (f x ≡ Some y)
and_then_some f (Some x) y e = (x, refl, e)
and_then_some f None y e = absurd cc

riscv-is : (line rest : List ℕ) → behind_riscv line ≡ Some rest → line ≡ codes "RISCV" ++ rest
riscv-is [] rest e = absurd cc
riscv-is (a ∷ []) rest e = absurd cc
riscv-is (a ∷ b ∷ []) rest e = absurd cc
riscv-is (a ∷ b ∷ c ∷ []) rest e = absurd cc
riscv-is (a ∷ b ∷ c ∷ d ∷ []) rest e = absurd cc
riscv-is (a ∷ b ∷ c ∷ d ∷ f ∷ line) rest e =
    let t = if_some (eqb a 82 && eqb b 73 && eqb c 83 && eqb d 67 && eqb f 86) line rest e in
    let p5 = and_parts (eqb a 82 && eqb b 73 && eqb c 83 && eqb d 67) (eqb f 86) t.0 in
    let p4 = and_parts (eqb a 82 && eqb b 73 && eqb c 83) (eqb d 67) p5.0 in
    let p3 = and_parts (eqb a 82 && eqb b 73) (eqb c 83) p4.0 in
    let p2 = and_parts (eqb a 82) (eqb b 73) p3.0 in
    rw (eqb-true a 82 p2.0, eqb-true b 73 p2.1, eqb-true c 83 p3.1, eqb-true d 67 p4.1, eqb-true f 86 p5.1, t.1) refl

record IsNamed (line name : List ℕ) : Type 0 where
  back : List ℕ
  parts : line ≡ name ++ back
  name_is : (list_all is_title_byte name ≡ true) × (0 < length name) × (length name ≤ 128)
  back_is : list_all is_blank back ≡ true

name-takes : (line name : List ℕ) → name_in line ≡ Some name → IsNamed line name
name-takes line name e =
    let a = if_none (eqb (prefix_len is_title_byte line) 0) _ name e in
    let b = if_none (ltb 128 (prefix_len is_title_byte line)) _ name a.1 in
    let c = if_some (eqb (prefix_len is_blank (drop (prefix_len is_title_byte line) line))
    (length (drop (prefix_len is_title_byte line) line))) (take (prefix_len is_title_byte line) line) name b.1 in
    let some : prefix_len is_title_byte line ≢ 0 = eqb-false _ _ a.0 in
    let few : prefix_len is_title_byte line ≤ 128 = ltb-false _ _ b.0 in
    subst (IsNamed line) c.1 (record {
      back = drop (prefix_len is_title_byte line) line;
      parts = sym (take-append-drop (prefix_len is_title_byte line) line);
      name_is = (
        front-all is_title_byte line,
        omega (
          arith,
          length-take (prefix_len is_title_byte line) line,
          prefix_len-le-length is_title_byte line,
        ),
        omega (arith, length-take (prefix_len is_title_byte line) line),
      );
      back_is = whole-front is_blank (drop (prefix_len is_title_byte line) line) (eqb-true _ _ c.0);
    })

pub title-takes : (line name : List ℕ) → title_of line ≡ Some name → IsTitle line name
unfolding title_of
title-takes line name e =
    let r = and_then_some name_behind (behind_riscv (drop (prefix_len is_blank line) line)) name e in
    let k = riscv-is (drop (prefix_len is_blank line) line) r.0 r.1 in
    let g = if_none (eqb (prefix_len is_blank r.0) 0) (name_in (drop (prefix_len is_blank r.0) r.0)) name r.2 in
    let n = name-takes (drop (prefix_len is_blank r.0) r.0) name g.1 in
    let some : prefix_len is_blank r.0 ≢ 0 = eqb-false _ _ g.0 in
    let behind : r.0 ≡ take (prefix_len is_blank r.0) r.0 ++ (name ++ n.back) =
    sym (take-append-drop (prefix_len is_blank r.0) r.0)
    ∙ ap (λ (x : List ℕ). take (prefix_len is_blank r.0) r.0 ++ x) n.parts in
    record {
      front = take (prefix_len is_blank line) line;
      gap = take (prefix_len is_blank r.0) r.0;
      back = n.back;
      spelled = sym (take-append-drop (prefix_len is_blank line) line)
          ∙ ap (λ (x : List ℕ). take (prefix_len is_blank line) line ++ x)
          (k ∙ ap (λ (x : List ℕ). codes "RISCV" ++ x) behind);
      front_is = front-all is_blank line;
      gap_is = (
        front-all is_blank r.0,
        omega (
          arith,
          length-take (prefix_len is_blank r.0) r.0,
          prefix_len-le-length is_blank r.0,
        ),
      );
      name_is = n.name_is;
      back_is = n.back_is;
    }

-- ---- a title is read

name-again : (name back : List ℕ) → list_all is_title_byte name ≡ true → 0 < length name → length name ≤ 128 →
    list_all is_blank back ≡ true → name_in (name ++ back) ≡ Some name
name-again name back h lt le b =
    let n = front-append is_title_byte name back h (other-front is_blank is_title_byte blank-apart back b) in
    let none : eqb (length name) 0 ≡ false = ne_eqb _ _ (omega arith) in
    let few : ltb 128 (length name) ≡ false = le-ltb _ _ le in
    let rest : drop (length name) (name ++ back) ≡ back = drop_at name back (length name) refl in
    let all : eqb (prefix_len is_blank back) (length back) ≡ true = eq-eqb _ _ (front-whole is_blank back b) in
    rw (n, none, few, rest, all, take_at name back (length name) refl) refl

pub title-again : (line name : List ℕ) → IsTitle line name → title_of line ≡ Some name
unfolding title_of
title-again line name t =
    let tail : List ℕ = t.gap ++ (name ++ t.back) in
    let f : prefix_len is_blank (t.front ++ (codes "RISCV" ++ tail)) ≡ length t.front =
    front-append is_blank t.front (codes "RISCV" ++ tail) t.front_is refl in
    let d : drop (length t.front) (t.front ++ (codes "RISCV" ++ tail)) ≡ codes "RISCV" ++ tail =
    drop_at t.front (codes "RISCV" ++ tail) (length t.front) refl in
    let g : prefix_len is_blank tail ≡ length t.gap = front-append is_blank t.gap (name ++ t.back) t.gap_is.0
    (other-front-append is_title_byte is_blank title-apart name t.back t.name_is.1 t.name_is.0) in
    let e : drop (length t.gap) tail ≡ name ++ t.back = drop_at t.gap (name ++ t.back) (length t.gap) refl in
    let some : eqb (length t.gap) 0 ≡ false = ne_eqb _ _ (omega (arith, t.gap_is.1)) in
    let behind : name_behind tail ≡ Some name =
    rw (g, some, e) (name-again name t.back t.name_is.0 t.name_is.1 t.name_is.2 t.back_is) in
    ap title_of t.spelled ∙ rw (f, d) behind

pub title_cases : (line : List ℕ) (r : Option (Bor (List ℕ))) → option_map (λ x. x.now) r ≡ title_of line →
    MatchOption r ((name : List ℕ) → IsTitle line name → ⊥) (λ name. IsTitle line name.now)
title_cases line None e = λ name h. let some : None ≡ Some name = e ∙ title-again line name h in absurd cc
title_cases line (Some x) e = title-takes line x.now (sym e)

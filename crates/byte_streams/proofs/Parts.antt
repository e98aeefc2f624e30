-- What comes and goes in parts.
use Rattle.std.proofs.Common.{◌≡◌, ℕ, List, [], ◌∷◌, ◌++◌, take, drop, Option, Some, None, Ok, IfSome, length, ◌<◌}
use Rattle.std.proofs.Common.{◌+◌, ◌≤◌, sym, ap, ◌∙◌, append_assoc, length-append, arith}
use Rattle.std.proofs.lemmas.List.{length-take-le, take-append-drop}
use Rattle.byte_streams.specs.Device.{AtEnd, GivesBytes, Grows, Loses}
use Rattle.byte_streams.specs.Whole.{TakesAtMost}

-- one part after another
pub Grows-append : (a b c : Option (List ℕ)) (front more : List ℕ) → Grows a b front → Grows b c more →
    Grows a c (front ++ more)
Grows-append None b c front more p q = tt
Grows-append (Some x) None c front more p q = absurd p
Grows-append (Some x) (Some y) None front more p q = absurd q
Grows-append (Some x) (Some y) (Some z) front more p q =
    q ∙ ap (λ (w : List ℕ). w ++ more) p ∙ append_assoc x front more

-- the next part goes out
pub goes_on : (a b c : Option (List ℕ)) (all rest : List ℕ) (n : ℕ) (rest' : List ℕ) → (gone : List ℕ) ×
    (all ≡ gone ++ rest) × Grows a b gone → Grows b c (take n rest) → rest' ≡ drop n rest
    → (gone : List ℕ) × (all ≡ gone ++ rest') × Grows a c gone
goes_on a b c all rest n rest' h g e = (
  h.0 ++ take n rest,
  h.1 ∙ ap (λ (w : List ℕ). h.0 ++ w) (sym (take-append-drop n rest)
      ∙ ap (λ (w : List ℕ). take n rest ++ w) (sym e)) ∙ sym (append_assoc h.0 (take n rest) rest'),
  Grows-append a
      b c h.0 (take n rest) h.2 g,
)

pub loses_more : (a b c : Option (List ℕ)) (front more : List ℕ) → Loses a b front → Loses b c more →
    Loses a c (front ++ more)
loses_more None b c front more p q = tt
loses_more (Some x) None c front more p q = absurd p
loses_more (Some x) (Some y) None front more p q = absurd q
loses_more (Some x) (Some y) (Some z) front more p q =
    p ∙ ap (λ (w : List ℕ). front ++ w) q ∙ sym (append_assoc front more z)

-- a part more, which fits a block
pub takes_more : (most block : ℕ) (old mid new : Option (List ℕ)) (came : List ℕ) (n : ℕ) (buffer : List ℕ) →
    Loses old mid came → length came ≤ most → length buffer ≤ block → GivesBytes mid new (Ok n) buffer →
    TakesAtMost (most + block) old new
takes_more most block old mid new came n buffer lost few room given = (
  came ++ take n buffer,
  omega (arith, length-append came (take n buffer), length-take-le n buffer given.0, few, room, given.0),
  loses_more old mid new came (take n buffer) lost given.1,
)

-- what remains of nothing
after_nothing : (front rest : List ℕ) → front ++ rest ≡ [] → rest ≡ []
after_nothing [] rest e = e
after_nothing (x ∷ front) rest e = absurd cc

-- a read that gave nothing into a buffer was at the end, and is
pub none_left : (old new : Option (List ℕ)) (buffer : List ℕ) (n : ℕ) → n ≡ 0 → 0 < length buffer →
    GivesBytes old new (Ok n) buffer → IfSome old (λ bytes. AtEnd new)
none_left None new buffer n e room g = tt
none_left (Some x) None buffer n e room g = absurd g.1
none_left (Some x) (Some y) buffer n e room g = let empty : x ≡ [] =
    g.2 e room in let front : x ≡ take n buffer ++ y = g.1 in after_nothing _ y (sym front ∙ empty)

-- what was known is known
pub known_still : (old new : Option (List ℕ)) (came : List ℕ) (P : Type 0) → Loses old new came →
    IfSome new (λ bytes. P) → IfSome old (λ bytes. P)
known_still None new came P e p = tt
known_still (Some x) None came P e p = absurd e
known_still (Some x) (Some y) came P e p = p

-- what came was there
pub some_known : (old new : Option (List ℕ)) (came : List ℕ) → Loses old new came → 0 < length came →
    IfSome old (λ bytes. 0 < length bytes)
some_known None new came e some = tt
some_known (Some x) None came e some = absurd e
some_known (Some x) (Some y) came e some = rw (e) (omega (arith, length-append came y, some))

-- What is known of pieces that stand in a form, form by form.
use Rattle.std.proofs.Common.{◌≡◌, ℕ, zero, suc, Bool, true, false, List, Option, Result, Ok, subst}
use Rattle.litmus_lexer.specs.Pieces.{Piece}
use Rattle.litmus_lexer.specs.declared.errors.Kind.{Kind}
use Rattle.litmus_lexer.specs.declared.errors.LitmusError.{LitmusError}
use Rattle.litmus_lexer.specs.Reading.{fails}
use Rattle.piece_forms.specs.Places.{Where, seen}
use Rattle.piece_forms.specs.Forms.{Verdict, Takes, Leaves, Refuses, Form, Gives, At, Known, InOrder, said, Passes}
use Rattle.piece_forms.specs.Forms.{Stands, either, until, refused}

-- what a form gives meets P, wherever it stands
pub record Leads {A : Type 0} (f : Form A) (P : A → Type 0) : Type 0 where
  pub stands : (line : ℕ) (ps : List Piece) (x : A) (n : ℕ) (rest : List Piece) → Stands f line ps x n rest → P x

-- nothing more is read
pub leads-given : {A : Type 0} {P : A → Type 0} (x : A) → P x → Leads (Gives x) P
leads-given {P = P} x h = record { stands = λ line ps y n rest s. subst P s.0 h }

-- one form behind another
pub leads-then : {A B : Type 0} {f : Form A} {g : A → Form B} {P : A → Type 0} {Q : B → Type 0} → Leads f P
    → ((y : A) → P y → Leads (g y) Q) → Leads (InOrder f g) Q
leads-then first then = record {
  stands = λ line ps x n rest s.
      (then s.0 (first.stands line ps s.0 s.1 s.2 s.3)).stands s.1 s.2 x n rest s.4;
}

-- what is known
pub leads-known : {A : Type 0} {P : A → Type 0} (known : Result A LitmusError) → ((x : A) → known ≡ Ok x → P x) →
    Leads (Known known) P
leads-known known h = record { stands = λ line ps x n rest s. h x s.0 }

-- ---- a look at the next piece

-- what it takes or leaves meets P
abbrev pub Tells : {A : Type 0} → (A → Type 0) → Verdict A → Type 0
Tells P (Takes x) = P x
Tells P (Leaves x) = P x
Tells P (Refuses kind) = Unit {0}

module _ {A : Type 0} (P : A → Type 0) where
  passed : (place : Where) (v : Verdict A) (line : ℕ) (ps : List Piece) (x : A) (n : ℕ) (rest : List Piece) →
      Tells P v → Passes place v line ps x n rest → P x
  passed place (Takes y) line ps x n rest t s = subst P s.0 t
  passed place (Leaves y) line ps x n rest t s = subst P s.0 t
  passed place (Refuses kind) line ps x n rest t s = absurd s

  pub leads-at : (place : Where) (look : Piece → Verdict A) (end : Result A Kind)
      → ((o : Option Piece) → Tells P (said look end o)) → Leads (At place look end) P
  leads-at place look end told = record {
    stands = λ line ps x n rest s.
        passed place (said look end (seen place ps)) line ps x n rest (told (seen place ps)) s;
  }

-- ---- steps

-- behind a step that is not the last P holds, behind the last one Q
abbrev pub Onto : {A : Type 0} → (A → Type 0) → (A → Type 0) → Bool × A → Type 0
Onto P Q (true, x) = P x
Onto P Q (false, x) = Q x

either-leads : {A : Type 0} (go : A → Form A) (P Q : A → Type 0) → ((x : A) → P x → Leads (go x) Q)
    → (r : Bool × A) → Onto P Q r → Leads (either (go r.1) (Gives r.1) r.0) Q
either-leads go P Q on (true, x) h = on x h
either-leads go P Q on (false, x) h = leads-given x h

pub leads-until : {A : Type 0} (last : A → Form A) (step : A → Form (Bool × A)) (P Q : A → Type 0)
    → ((x : A) → P x → Leads (step x) (Onto P Q)) → ((x : A) → P x → Leads (last x) Q)
    → (k : ℕ) (x : A) → P x → Leads (until last step k x) Q
unfolding until
leads-until last step P Q goes ends zero x h = ends x h
leads-until last step P Q goes ends (suc k) x h =
    leads-then {f = step x} {g = λ r. either (until last step k r.1) (Gives r.1) r.0} {Q = Q} (goes x h)
    (either-leads (until last step k) P Q (leads-until last step P Q goes ends k))

-- where all is refused, nothing is given
pub leads-refused : {A B : Type 0} {P : B → Type 0} (kind : Kind) (x : A) → Leads {A = B} (refused kind x) P
leads-refused kind x = record { stands = λ line ps y n rest s. let given : fails kind s.0 ≡ Ok y = s.4.0 in absurd cc }

-- A language of forms, and what it is that pieces stand in one.
use Rattle.std.specs.Prelude.{◌≡◌, ℕ, zero, suc, ◌==◌, Bool, true, false, if◌then◌else◌, List, Option, Some, None}
use Rattle.std.specs.Prelude.{Result, Ok, Err}
use Rattle.std.specs.Str.{bytes_eq}
use Rattle.litmus_lexer.specs.Pieces.{Piece, Word, Sign, LineEnd}
use Rattle.litmus_lexer.specs.declared.errors.Kind.{Kind}
use Rattle.litmus_lexer.specs.declared.errors.Kind.TheVariants.{CutShort}
use Rattle.litmus_lexer.specs.declared.errors.LitmusError.{LitmusError}
use Rattle.litmus_lexer.specs.Reading.{fails}
use Rattle.piece_forms.specs.Places.{Where, Beyond, InLine, seen, behind, line_behind, from, line_of}

-- a piece is taken, or left to what comes after it in the form, and gives a value; or it is a fault of this kind
pub data Verdict (A : Type 0) : Type 0 where
  Takes : A → Verdict A
  Leaves : A → Verdict A
  Refuses : Kind → Verdict A

-- nothing more; a look at the next piece, and what the end of the text gives in its place, or the kind of its fault; a
-- test of all that follows, or this kind of fault; the line; what is known, or this fault; or two forms in order, the
-- second by what the first gives
pub data Form : Type 0 → Type 1 where
  Gives : {A : Type 0} → A → Form A
  At : {A : Type 0} → Where → (Piece → Verdict A) → Result A Kind → Form A
  Test : (List Piece → Bool) → Kind → Form (Unit {0})
  Line : Form ℕ
  Known : {A : Type 0} → Result A LitmusError → Form A
  InOrder : {A B : Type 0} → Form A → (A → Form B) → Form B

infixl 10 ◌>>=◌
abbrev pub ◌>>=◌ : {A B : Type 0} → Form A → (A → Form B) → Form B
f >>= g = InOrder f g

abbrev pub said : {A : Type 0} → (Piece → Verdict A) → Result A Kind → Option Piece → Verdict A
said look end (Some piece) = look piece
said look (Ok x) None = Leaves x
said look (Err kind) None = Refuses kind

-- the next piece is taken or left with x, and the rest follows in line n
abbrev pub Passes : {A : Type 0} → Where → Verdict A → ℕ → List Piece → A → ℕ → List Piece → Type 0
Passes place (Takes y) line pieces x n rest =
    (y ≡ x) × (line_behind place line pieces ≡ n) × (behind place pieces ≡ rest)
Passes place (Leaves y) line pieces x n rest =
    (y ≡ x) × (line_of place line pieces ≡ n) × (from place pieces ≡ rest)
Passes place (Refuses kind) line pieces x n rest = ⊥

-- pieces that begin in this line stand in a form, which gives x, and the rest follows in line n
abbrev pub Stands : {A : Type 0} → Form A → ℕ → List Piece → A → ℕ → List Piece → Type 0
Stands (Gives y) line pieces x n rest = (y ≡ x) × (line ≡ n) × (pieces ≡ rest)
Stands (At place look end) line pieces x n rest =
    Passes place (said look end (seen place pieces)) line pieces x n rest
Stands (Test holds kind) line pieces x n rest = (holds pieces ≡ true) × (tt ≡ x) × (line ≡ n) × (pieces ≡ rest)
Stands Line line pieces x n rest = (line ≡ x) × (line ≡ n) × (pieces ≡ rest)
Stands (Known known) line pieces x n rest = (known ≡ Ok x) × (line ≡ n) × (pieces ≡ rest)
Stands (InOrder {A = Y} f g) line pieces x n rest = (y : Y) × (m : ℕ) × (middle : List Piece) ×
    Stands f line pieces y m middle × Stands (g y) m middle x n rest

-- ---- one piece

-- what is found, seen by f
abbrev pub mapped : {A B : Type 0} → (A → B) → Result A Kind → Result B Kind
mapped f (Ok x) = Ok (f x)
mapped f (Err kind) = Err kind

abbrev pub taken : {A : Type 0} → Result A Kind → Verdict A
taken (Ok x) = Takes x
taken (Err kind) = Refuses kind

-- a word that this test takes
abbrev pub word : {A : Type 0} → Kind → (List ℕ → Result A Kind) → Piece → Verdict A
word kind test (Word w) = taken (test w)
word kind test piece = Refuses kind

-- whether a piece is this word
abbrev pub is_word : List ℕ → Piece → Bool
is_word wanted (Word w) = bytes_eq w wanted
is_word wanted piece = false

-- whether a piece is this sign
abbrev pub is_sign : ℕ → Piece → Bool
is_sign wanted (Sign b) = b == wanted
is_sign wanted piece = false

-- this sign
abbrev pub sign : Kind → ℕ → Piece → Verdict (Unit {0})
sign kind wanted piece = if is_sign wanted piece then Takes tt else Refuses kind

-- one of two signs: whether it is the first of them
abbrev pub either_sign : Kind → ℕ → ℕ → Piece → Verdict Bool
either_sign kind more last piece =
    if is_sign more piece then Takes true else if is_sign last piece then Takes false else Refuses kind

-- the end of a line
abbrev pub ends_line : Kind → Piece → Verdict (Unit {0})
ends_line kind LineEnd = Takes tt
ends_line kind piece = Refuses kind

-- ---- forms

-- such a piece
abbrev pub one : {A : Type 0} → (Piece → Verdict A) → Form A
one look = At Beyond look (Err CutShort)

-- such a piece of the line
abbrev pub here : {A : Type 0} → Kind → (Piece → Verdict A) → Form A
here kind look = At InLine look (Err kind)

-- such a piece, if it stands there
abbrev pub perhaps : Where → (Piece → Bool) → Form Bool
perhaps place test = At place (λ piece. if test piece then Takes true else Leaves false) (Ok false)

-- the end of the line, or of the text
abbrev pub line_end : Kind → Form (Unit {0})
line_end kind = At InLine (ends_line kind) (Ok tt)

-- the end of the text
abbrev pub no_more : Kind → Form (Unit {0})
no_more kind = At Beyond (λ piece. Refuses kind) (Ok tt)

-- one of two
abbrev pub either : {A : Type 0} → Form A → Form A → Bool → Form A
either f g true = f
either f g false = g

-- a step, if the first form says that there is one more
abbrev pub turn : {A : Type 0} → (A → Form Bool) → (A → Form A) → A → Form (Bool × A)
turn one_more step x = one_more x >>= either (step x >>= λ y. Gives (true, y)) (Gives (false, x))

-- steps until one says that it is the last; if none of so many does, the last form follows
unfoldable pub until : {A : Type 0} → (A → Form A) → (A → Form (Bool × A)) → ℕ → A → Form A
until last step zero x = last x
until last step (suc k) x = step x >>= λ r. either (until last step k r.1) (Gives r.1) r.0

-- steps as long as there is one more, at most so many
abbrev pub many : {A : Type 0} → (A → Form A) → (A → Form Bool) → (A → Form A) → ℕ → A → Form A
many last one_more step = until last (turn one_more step)

-- this kind of fault, whatever comes
abbrev pub refused : {A B : Type 0} → Kind → A → Form B
refused kind x = Line >>= λ line. Known (fails kind line)

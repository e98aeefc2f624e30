-- What was read so far of a text, and what the rest of its lines gives.
use Rattle.std.proofs.Common.{◌≡◌, ℕ, suc, ◌+◌, ◌≤◌, ◌<◌, true, List, [], ◌∷◌, ◌++◌, take, drop, length}
use Rattle.std.proofs.Common.{Option, Some, None, IfSome, refl, sym, ap, subst, ◌∙◌, arith, append_assoc}
use Rattle.std.specs.Prelude.{Result, Ok, Err, ◌||◌, nat_lt}
use Rattle.std.proofs.lemmas.List.{append-nil, length-take-le, take-append-le, take_all}
use Rattle.trace_lines.specs.declared.errors.Kind.{Kind}
use Rattle.trace_lines.specs.declared.errors.Kind.TheVariants.{TooLong}
use Rattle.trace_lines.specs.declared.errors.TraceError.{TraceError}
use Rattle.trace_lines.specs.Fields.{fields_of}
use Rattle.trace_reader.specs.declared.limits.TheConstants.{MOST_BYTES, MOST_LINES}
use Rattle.trace_reader.specs.Ahead.{Both}
use Rattle.text_lines.specs.Lines.{lines_of}
use Rattle.trace_reader.specs.Outcomes.{IsFound, BeginTooLong, IsOfLine, WantsMemory}
use Rattle.trace_reader.specs.Reading.{all_told, list_of_option, read_from}
use Rattle.trace_reader.proofs.OnLines.{both-next, both-fault, both-long, both-end, fitted-short}
use Rattle.trace_reader.proofs.ToldLines.{read-all, read-next, read_behind, read_on_at}
use Rattle.trace_reader.proofs.ToldLines.{told-end, told-long, told-refused}

pub long-of-line : (number : ℕ) (fault : TraceError) → fault ≡ record { line = suc number; kind = TooLong } →
    IsOfLine fault
long-of-line number fault e = rw e (omega arith, λ k. cc, λ k. cc)

pub if-some : {A : Type 0} (P Q : A → Type 0) (a : Option A) → ((x : A) → P x → Q x) → IfSome a P → IfSome a Q
if-some P Q None f p = tt
if-some P Q (Some x) f p = f x p

some-more : {X : Type 0} (xs : List X) (x : X) → (y : X) × (ys : List X) × (xs ++ x ∷ [] ≡ y ∷ ys)
some-more [] x = (x, [], refl)
some-more (y ∷ ys) x = (y, ys ++ x ∷ [], refl)

behind-behind : {X : Type 0} (xs ys : List X) (r : Result (List X) TraceError) →
    read_behind xs (read_behind ys r) ≡ read_behind (xs ++ ys) r
behind-behind xs ys (Ok zs) = ap Ok (sym (append_assoc xs ys zs))
behind-behind xs ys (Err e) = refl

module _ {S X : Type 0} (says : S → List (List ℕ) → Result (S × Option X) Kind) where
  -- ---- the next line

  abbrev from : ℕ → S → List (List ℕ) → Result (List X) TraceError
  from number state lines = read_from says number state lines

  pub line-said : (number : ℕ) (state next : S) (line : List ℕ) (later : List (List ℕ)) (said : Option X) →
      length line ≤ MOST_BYTES → number ≤ MOST_LINES → says state (fields_of line) ≡ Ok (next, said) →
      from number state (line ∷ later) ≡ read_behind (list_of_option said) (from (suc number) next later)
  line-said number state next line later said h k e =
      read-next says number state line later
      ∙ ap (λ (r : Result (S × Option X) Kind). read_on_at number r
      (λ said. read_behind (list_of_option said.1) (from (suc number) said.0 later)))
      (fitted-short MOST_LINES number line (says state (fields_of line)) h k ∙ e)

  line-refused : (number : ℕ) (state : S) (line : List ℕ) (later : List (List ℕ)) (kind : Kind) →
      length line ≤ MOST_BYTES → number ≤ MOST_LINES → says state (fields_of line) ≡ Err kind →
      from number state (line ∷ later) ≡ Err (record { line = number; kind = kind })
  line-refused number state line later kind h k e =
      read-all says number state (line ∷ later)
      ∙ ap all_told (told-refused says MOST_LINES number state line later kind h k e)

  line-long : (number : ℕ) (state : S) (line : List ℕ) (later : List (List ℕ)) →
      (nat_lt MOST_BYTES (length line) || nat_lt MOST_LINES number) ≡ true →
      from number state (line ∷ later) ≡ Err (record { line = number; kind = TooLong })
  line-long number state line later e =
      read-all says number state (line ∷ later)
      ∙ ap all_told (told-long says MOST_LINES number state line later e)

  pub lines-end : (number : ℕ) (state : S) → from number state [] ≡ Ok []
  lines-end number state = read-all says number state [] ∙ ap all_told (told-end says MOST_LINES number state)

  -- ---- what was read so far

  -- the text's lines are these and those that are left; these say this, and leave this state
  pub record SoFar (first : S) (told : List X) (number : ℕ) (state : S) (before : List ℕ) (left : List (List ℕ)) :
      Type 0 where
    pub done : List (List ℕ)
    pub split : lines_of before ≡ done ++ left
    pub gives : (later : List (List ℕ)) → from 1 first (done ++ later) ≡ read_behind told (from number state later)

  pub none-done : (first : S) (before : List ℕ) → SoFar first [] 1 first before (lines_of before)
  none-done first before = record { done = []; split = refl; gives = λ later. nothing (from 1 first later) }
    where
      nothing : (r : Result (List X) TraceError) → r ≡ read_behind [] r
      nothing (Ok xs) = refl
      nothing (Err e) = refl

  pub at-start : (first : S) (a : Option (List ℕ)) (old : List ℕ) → old ≡ [] →
      Both a a (λ before after. SoFar first [] 1 first before (lines_of (old ++ after)))
  at-start first None old none = tt
  at-start first (Some before) old none =
      subst (λ o. SoFar first [] 1 first before (lines_of (o ++ before))) (sym none) (none-done first before)

  whole-gives : (first : S) (told : List X) (number : ℕ) (state : S) (before : List ℕ) (left : List (List ℕ)) →
      SoFar first told number state before left →
      from 1 first (lines_of before) ≡ read_behind told (from number state left)
  whole-gives first told number state before left s = ap (from 1 first) s.split ∙ s.gives left

  one-done : (first : S) (told : List X) (said : Option X) (number : ℕ) (state next : S) (before line : List ℕ)
      (left : List (List ℕ)) → length line ≤ MOST_BYTES → number ≤ MOST_LINES →
      says state (fields_of line) ≡ Ok (next, said) → SoFar first told number state before (line ∷ left) →
      SoFar first (told ++ list_of_option said) (suc number) next before left
  one-done first told said number state next before line left short early e s = record {
    done = s.done ++ line ∷ [];
    split = s.split ∙ sym (append_assoc s.done (line ∷ []) left);
    gives = λ later. ap (from 1 first) (append_assoc s.done (line ∷ []) later) ∙ s.gives (line ∷ later)
        ∙ ap (read_behind told) (line-said number state next line later said short early e)
        ∙ behind-behind told (list_of_option said) (from (suc number) next later);
  }

  -- a step or a record that stands behind these lines, and in front of any fault
  one-kept : (first : S) (told : List X) (x : X) (number : ℕ) (state : S) (before : List ℕ) (left : List (List ℕ)) →
      SoFar first (told ++ x ∷ []) number state before left → WantsMemory (from 1 first) (Some before)
  one-kept first told x number state before left s =
      let some = some-more told x in
      let there : take (length s.done) (lines_of before) ≡ s.done ++ [] =
      ap (take (length s.done)) s.split ∙ take-append-le (length s.done) s.done left (omega arith)
      ∙ take_all (length s.done) s.done (omega arith) ∙ sym (append-nil s.done) in (
        length s.done,
        some.0,
        some.1,
        ap (from 1 first) there ∙ s.gives [] ∙ ap (read_behind (told ++ x ∷ [])) (lines-end number state)
            ∙ ap Ok (append-nil (told ++ x ∷ []) ∙ some.2),
      )

  module _ (a b c : Option (List ℕ)) (old : List ℕ) (first state : S) (told : List X) (number : ℕ)
      (p : Both a b (λ before after. SoFar first told (suc number) state before (lines_of (old ++ after)))) where
    abbrev Stands : List ℕ → List (List ℕ) → Type 0
    Stands before left = SoFar first told (suc number) state before left

    pub refused-long : (fault : TraceError) → Both b c (λ before after. BeginTooLong MOST_LINES (suc number)
        (lines_of (old ++ before))) → fault ≡ record { line = suc number; kind = TooLong } →
        IfSome a (λ bytes. from 1 first (lines_of bytes) ≡ Err fault)
    refused-long fault q e =
        both-long Stands (λ bytes. from 1 first (lines_of bytes) ≡ Err fault) a b c old (suc number) p q
        (λ before line later long s. whole-gives first told (suc number) state before (line ∷ later) s
        ∙ ap (read_behind told) (line-long (suc number) state line later long) ∙ ap Err (sym e))

    module _ (new : List ℕ) (found : Option ℕ) (q : Both b c (λ before after. IsFound found (old ++ before) new after))
      where
        pub all-read : found ≡ None → IfSome a (λ bytes. from 1 first (lines_of bytes) ≡ Ok told)
        all-read e =
            both-end Stands (λ bytes. from 1 first (lines_of bytes) ≡ Ok told) a b c old new found p q e
            (λ before s. whole-gives first told (suc number) state before [] s
            ∙ ap (read_behind told) (lines-end (suc number) state) ∙ ap Ok (append-nil told))

        module _ (line : List ℕ) (n : ℕ) (e : found ≡ Some n)
            (h : (n ≤ MOST_BYTES) × (n ≤ length new) × (number < MOST_LINES)) (f : line ≡ take n new) where
          short : length (take n new) ≤ MOST_BYTES
          short = omega (arith, length-take-le n new h.1, h.0)

          pub read-on : (last : List ℕ) (next : S) (said : Option X) → last ≡ drop (n + 1) new →
              says state (fields_of line) ≡ Ok (next, said) → Both a c (λ before after.
              SoFar first (told ++ list_of_option said) (suc (number + 1)) next before (lines_of (last ++ after)))
          read-on last next said g r =
              let now = ap (λ (w : List ℕ). says state (fields_of w)) (sym f) ∙ r in
              let early : suc number ≤ MOST_LINES = h.2 in
              let again : suc (suc number) ≡ suc (number + 1) = omega arith in
              both-next Stands (SoFar first (told ++ list_of_option said) (suc (number + 1)) next) a b c old new found n
              p q e (λ before later s. subst (λ k. SoFar first (told ++ list_of_option said) k next before later) again
              (one-done first told said (suc number) state next before (take n new) later short early now s)) last g

          pub refused-said : (fault : TraceError) → fault.line ≡ number + 1 →
              says state (fields_of line) ≡ Err fault.kind →
              IfSome a (λ bytes. from 1 first (lines_of bytes) ≡ Err fault)
          refused-said fault at r =
              let now = ap (λ (w : List ℕ). says state (fields_of w)) (sym f) ∙ r in
              let early : suc number ≤ MOST_LINES = h.2 in
              let again : suc number ≡ fault.line = omega (arith, at) in
              both-fault Stands (λ bytes. from 1 first (lines_of bytes) ≡ Err fault) a b c old new found n p q e
              (λ before later s. whole-gives first told (suc number) state before (take n new ∷ later) s
              ∙ ap (read_behind told) (line-refused (suc number) state (take n new) later fault.kind short early now)
              ∙ ap (λ k. Err (record { line = k; kind = fault.kind })) again)

          -- what memory was refused for was there
          pub one-wanted : (next : S) (x : X) → says state (fields_of line) ≡ Ok (next, Some x) →
              WantsMemory (from 1 first) a
          one-wanted next x r =
              let now = ap (λ (w : List ℕ). says state (fields_of w)) (sym f) ∙ r in
              let early : suc number ≤ MOST_LINES = h.2 in
              both-fault Stands (λ bytes. WantsMemory (from 1 first) (Some bytes)) a b c old new found n p q e
              (λ before later s. one-kept first told x (suc (suc number)) next before later
              (one-done first told (Some x) (suc number) state next before (take n new) later short early now s))

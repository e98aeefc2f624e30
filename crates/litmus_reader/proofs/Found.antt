-- What is read of a whole text is in the grammar, and each text of the grammar is read.
use Rattle.std.proofs.Common.{◌≡◌, ℕ, ◌≤◌, true, false, eqb, ltb, List, [], length, Result, Ok, Err}
use Rattle.std.proofs.Common.{refl, sym, ap, ◌∙◌, subst, inl, inr}
use Rattle.std.specs.Prelude.{IfOk}
use Rattle.std.specs.List.{list_all, prefix_len}
use Rattle.std.proofs.lemmas.Bool.{cond_both, eq-eqb, ltb-false, le-ltb, both_ways}
use Rattle.litmus_lexer.specs.Pieces.{Piece}
use Rattle.litmus_lexer.specs.Reading.{Read}
use Rattle.litmus_lexer.specs.declared.errors.LitmusError.{LitmusError}
use Rattle.litmus_lexer.proofs.Lemmas.{front-whole}
use Rattle.piece_forms.specs.Reading.{reads}
use Rattle.piece_forms.proofs.Lemmas.{takes, again}
use Rattle.litmus_parser.specs.Extents.{is_allowed, reach}
use Rattle.litmus_parser.specs.Header.{text_pieces}
use Rattle.litmus_reader.specs.Litmus.{Litmus}
use Rattle.litmus_reader.specs.TestViews.{test_of}
use Rattle.litmus_reader.specs.Grammar.{whole_test, IsTest}
use Rattle.litmus_reader.specs.ReadingTest.{is_cut_short, ended_by, test_at, IsReadOrNoMemory}
use Rattle.litmus_reader.specs.declared.contents.Test.{Test}
use Rattle.litmus_reader.proofs.Reaching.{reaches}

pub whole_takes : (text : List ℕ) (x : Litmus × ℕ × List Piece) → length text ≤ 65536 →
    list_all is_allowed text ≡ true → reads whole_test 1 (text_pieces text []) ≡ Ok x → IsTest text x.0
whole_takes text x le allowed e = record {
  length_is = le;
  allowed = allowed;
  last = x.1;
  end = x.2;
  stands = takes whole_test 1 (text_pieces text []) x e;
}

read_takes : (text : List ℕ) (test : Litmus) → test_at text ≡ Ok test → IsTest text test
unfolding test_at
read_takes text test e =
    cond_both (ltb 65536 (length text)) _ _ (λ (r : Result Litmus LitmusError). r ≡ Ok test → IsTest text test)
    (λ _ s. absurd cc)
    (λ few s. ended (ltb-false _ _ few) (reads whole_test 1 (text_pieces (reach text).0 [])) refl s) e
  where
    ended : length text ≤ 65536 → (r : Read Litmus) → reads whole_test 1 (text_pieces (reach text).0 []) ≡ r →
        ended_by (reach text).1 r ≡ Ok test → IsTest text test
    ended le (Err fault) read s =
        cond_both (is_cut_short fault.kind) _ _ (λ (r : Result Litmus LitmusError). r ≡ Ok test → IsTest text test)
        (λ _ t. absurd cc) (λ _ t. absurd cc) s
    ended le (Ok x) read s =
        cond_both (is_cut_short (reach text).1.kind) _ _ (λ (r : Result Litmus LitmusError). r ≡ Ok test →
        IsTest text test) (λ short t. elim (reaches text) [
          | inl h ↦ let same : x.0 ≡ test = cc in
              let whole = subst (λ (good : List ℕ). reads whole_test 1 (text_pieces good []) ≡ Ok x) h.1 read in
              subst (IsTest text) same (whole_takes text x le h.0 whole)
          | inr h ↦ absurd (both_ways (is_cut_short (reach text).1.kind)
              (ap (λ (e : LitmusError). is_cut_short e.kind) h.2) short)
        ]) (λ _ t. absurd cc) s

read_again : (text : List ℕ) (test : Litmus) → IsTest text test → test_at text ≡ Ok test
unfolding test_at
read_again text test h =
    let small : ltb 65536 (length text) ≡ false = le-ltb _ _ h.length_is in
    let whole : eqb (prefix_len is_allowed text) (length text) ≡ true =
    eq-eqb _ _ (front-whole is_allowed text h.allowed) in
    rw (small, whole, again whole_test 1 (text_pieces text []) test h.last h.end h.stands) refl

pub found-told : (text : List ℕ) (r : Result Test LitmusError) → IsReadOrNoMemory test_of r (test_at text) →
    IfOk r (λ test. IsTest text (test_of test))
found-told text (Ok test) h = read_takes text (test_of test) h
found-told text (Err e) h = tt

pub only-told : (text : List ℕ) (r : Result Test LitmusError) → IsReadOrNoMemory test_of r (test_at text) →
    (test : Litmus) → IsTest text test → IsReadOrNoMemory test_of r (Ok test)
only-told text r told test h = subst (IsReadOrNoMemory test_of r) (read_again text test h) told

-- a text is read as one test
pub one-test : (text : List ℕ) (one other : Litmus) → IsTest text one → IsTest text other → one ≡ other
one-test text one other h k =
    let same = sym (read_again text one h) ∙ read_again text other k in cc

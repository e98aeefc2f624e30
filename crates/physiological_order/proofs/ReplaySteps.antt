-- A replay one operation further.
use Rattle.std.proofs.Common.{◌≡◌, ℕ, ◌+◌, ◌<◌, Bool, cond, List, [], ◌∷◌, ◌++◌, length, get_or, take, Option, Some}
use Rattle.std.proofs.Common.{refl, sym, ap, ◌∙◌, arith, eqb, unwrap_or}
use Rattle.std.proofs.lemmas.List.{take_more}
use Rattle.std.proofs.lemmas.Bool.Decides.{nat_tests}
use Rattle.std.specs.Ordering.{nat_cmp, eq_by_cmp}
use Rattle.std.specs.Cmp.{nat_cmp_total}
use Rattle.std.specs.FinMap.{FinMap, insert, get, get-insert}
use Rattle.std.proofs.Math.Path.{fun_ext}
use Rattle.physiological_order.specs.declared.operation.Op.{Op}
use Rattle.physiological_order.specs.declared.operation.Op.TheVariants.{Load, Store, Swap}
use Rattle.physiological_order.specs.Order.{Memory, flat, with_word, flat_received, flat_after, replay, replay_end}
use Rattle.physiological_order.specs.Words.{words_after, words_end}

same_test : (a b : ℕ) → eq_by_cmp nat_cmp a b ≡ eqb a b
same_test a b = grind (arith, nat_tests)

or_zero : (b : Bool) (v : ℕ) (rest : Option ℕ) → unwrap_or (cond b (Some v) rest) 0 ≡ cond b v (unwrap_or rest 0)
or_zero b v rest = grind arith

flat-insert : (words : FinMap nat_cmp ℕ) (a v : ℕ) → flat (insert words a v) ≡ with_word (flat words) a v
flat-insert words a v = fun_ext (λ b.
    ap (λ found. unwrap_or found 0) (get-insert nat_cmp_total words a v b)
    ∙ or_zero (eq_by_cmp nat_cmp b a) v (get words b) ∙ ap (λ t. cond t v (flat words b)) (same_test b a))

pub flat-words_after : (words : FinMap nat_cmp ℕ) (op : Op) → flat (words_after words op) ≡ flat_after (flat words) op
flat-words_after words (Load a) = refl
flat-words_after words (Store a v) = flat-insert words a v
flat-words_after words (Swap a v) = flat-insert words a v

pub flat-words_end : (words : FinMap nat_cmp ℕ) (ops : List Op) → flat (words_end words ops) ≡
    replay_end (flat words) ops
flat-words_end words [] = refl
flat-words_end words (op ∷ ops) =
    flat-words_end (words_after words op) ops ∙ ap (λ m. replay_end m ops) (flat-words_after words op)

pub words_end-push : (words : FinMap nat_cmp ℕ) (ops : List Op) (op : Op) → words_end words (ops ++ op ∷ []) ≡
    words_after (words_end words ops) op
words_end-push words [] op = refl
words_end-push words (o ∷ ops) op = words_end-push (words_after words o) ops op

pub replay_end-push : (m : Memory) (ops : List Op) (op : Op) → replay_end m (ops ++ op ∷ []) ≡ flat_after
    (replay_end m ops) op
replay_end-push m [] op = refl
replay_end-push m (o ∷ ops) op = replay_end-push (flat_after m o) ops op

pub replay-push : (m : Memory) (ops : List Op) (op : Op) → replay m (ops ++ op ∷ []) ≡ replay m ops
    ++ flat_received (replay_end m ops) op ∷ []
replay-push m [] op = refl
replay-push m (o ∷ ops) op = ap (λ rest. flat_received m o ∷ rest) (replay-push (flat_after m o) ops op)

-- one turn of a loop over operations
pub take-next : (ops : List Op) (i : ℕ) (op : Op) → i < length ops → op ≡ get_or ops i op →
    take (i + 1) ops ≡ take i ops ++ op ∷ []
take-next ops i op lt is = take_more ops i op lt ∙ ap (λ o. take i ops ++ o ∷ []) (sym is)

pub words_end-take : (words : FinMap nat_cmp ℕ) (ops : List Op) (i : ℕ) (op : Op) → i < length ops →
    op ≡ get_or ops i op → words_end words (take (i + 1) ops) ≡ words_after (words_end words (take i ops)) op
words_end-take words ops i op lt is =
    ap (words_end words) (take-next ops i op lt is) ∙ words_end-push words (take i ops) op

pub replay-take : (words : FinMap nat_cmp ℕ) (ops : List Op) (i : ℕ) (op : Op) → i < length ops →
    op ≡ get_or ops i op → replay (flat words) (take (i + 1) ops) ≡ replay (flat words) (take i ops)
    ++ flat_received (flat (words_end words (take i ops))) op ∷ []
replay-take words ops i op lt is =
    ap (replay (flat words)) (take-next ops i op lt is) ∙ replay-push (flat words) (take i ops) op
    ∙ ap (λ m. replay (flat words) (take i ops) ++ flat_received m op ∷ []) (sym (flat-words_end words (take i ops)))

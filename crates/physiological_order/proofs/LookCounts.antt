-- How many looks a walk over records takes.
use Rattle.std.proofs.Common.{◌≡◌, ℕ, ◌+◌, ◌*◌, ◌≤◌, List, [], ◌∷◌, ◌++◌, length, take, ap, ◌∙◌, arith, length-take}
use Rattle.physiological_order.specs.declared.operation.Op.{Op}
use Rattle.physiological_order.specs.declared.operation.Record.{Record}
use Rattle.physiological_order.specs.Counting.{after_steps, looks, looks_of}

pub after_more : (made m n : ℕ) → after_steps (after_steps made m) n ≡ after_steps made (m + n)
after_more made m n = omega arith

pub after_none : (made : ℕ) → made ≡ after_steps made 0
after_none made = omega arith

pub after_at_most : (made m n : ℕ) → m ≤ n → after_steps made m ≤ made + n
after_at_most made m n le = omega arith

pub looks-push : (rs : List Record) (r : Record) → looks (rs ++ r ∷ []) ≡ looks rs + looks_of r.op
looks-push [] r = omega arith
looks-push (s ∷ ss) r = let i = looks-push ss r in omega arith

looks_of-le : (op : Op) → looks_of op ≤ 2
looks_of-le op = grind arith

pub looks-le : (rs : List Record) → looks rs ≤ 2 * length rs
looks-le [] = omega arith
looks-le (r ∷ rs) = let i = looks-le rs in let one = looks_of-le r.op in omega arith

pub looks-next : (rs : List Record) (i : ℕ) (r : Record) → take (i + 1) rs ≡ take i rs ++ r ∷ [] →
    looks (take (i + 1) rs) ≡ looks (take i rs) + looks_of r.op
looks-next rs i r e = ap looks e ∙ looks-push (take i rs) r

pub looks-part : (rs : List Record) (i : ℕ) → looks (take i rs) ≤ 2 * length rs
looks-part rs i = let le = looks-le (take i rs) in let l = length-take i rs in omega arith

pub looks-one_more : (rs : List Record) (i : ℕ) (r : Record) → take (i + 1) rs ≡ take i rs ++ r ∷ [] →
    looks (take i rs) + looks_of r.op ≤ 2 * length rs
looks-one_more rs i r e = let next = looks-next rs i r e in let part = looks-part rs (i + 1) in omega arith

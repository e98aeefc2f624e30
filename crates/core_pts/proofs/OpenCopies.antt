-- Whether the open operation's line has a copy: as copies change, and as those that may be evicted are counted.
use Rattle.std.proofs.Common.{◌≡◌, ◌≢◌, ℕ, zero, suc, ◌+◌, ◌<◌, ◌/◌, ◌%◌, cond, length, Bool, true, false, Option, None}
use Rattle.std.proofs.Common.{Some, List, [], ◌∷◌, inl, inr, refl, sym, ap, ◌∙◌, arith, true≢false}
use Rattle.std.specs.Option.{is_some, option_map}
use Rattle.std.specs.Prelude.{Result, Ok, Err}
use Rattle.std.proofs.lemmas.Bool.{cases_eq, eq-eqb, eqb-true}
use Rattle.physiological_order.specs.declared.operation.Op.{Op}
use Rattle.physiological_order.specs.Order.{address}
use Rattle.line_sets.specs.SetTable.{Sets, drop_line, look, put, put_within}
use Rattle.line_sets.proofs.Lemmas.{length-drop_line, length-put, length-put_within, look-drop_line_other}
use Rattle.line_sets.proofs.Lemmas.{look-put_same, look-put_within_other, look-put_within_same}
use Rattle.private_cache.specs.declared.line_copy.LineCopy.{LineCopy}
use Rattle.private_cache.specs.declared.cache.CacheError.{CacheError}
use Rattle.private_cache.specs.declared.cache.CacheError.TheVariants.{NotHere, Pinned}
use Rattle.private_cache.specs.CopyTable.{copy_of, evicted, is_pinned, set_of, with_changed, with_used, without_copy}
use Rattle.private_cache.specs.FreeLines.{free_lines, has_pinned}
use Rattle.core_pts.specs.CoreTable.{CoreState, line_of, pinned_line}
use Rattle.core_pts.specs.OpenCopy.{has_open_copy}
use Rattle.core_pts.specs.FreeCopies.{free_copies}

open-pinned :
    (core : CoreState) (op : Option Op) →
    has_pinned core.cache (option_map (line_of core) op) ≡ has_open_copy core.line_words core.cache op
open-pinned core None = refl
open-pinned core (Some op) = refl

-- all copies are those that may be evicted, and that of the open operation's line, if there is one
pub copies-counted :
    (core : CoreState) (count : ℕ) (here : Bool) → here ≡ has_open_copy core.line_words core.cache core.open_op →
    ((pinned : Option ℕ) → length (free_lines core.cache pinned) + cond (has_pinned core.cache pinned) 1 0 ≡ count) →
    length (free_copies core) + cond here 1 0 ≡ count
copies-counted core count here is counted =
    ap (λ b. length (free_copies core) + cond b 1 0) (is ∙ sym (open-pinned core core.open_op))
    ∙ counted (pinned_line core)

-- a set that has a line is one of the table's
in-table : (sets : List (List (ℕ × LineCopy))) (i line : ℕ) → is_some (look sets i line) ≡ true → i < length sets
in-table [] i line h = cc
in-table (ps ∷ sets) zero line h = omega arith
in-table (ps ∷ sets) (suc i) line h = (let low = in-table sets i line h in omega (arith, low))

-- a line's copy, after the copy of one is changed, put or taken out
module _ (cache : Sets LineCopy) (line : ℕ) (there : is_some (copy_of cache line) ≡ true) where
  home : set_of cache line < length cache.sets
  home = in-table cache.sets (set_of cache line) line there

  changed : (copy : LineCopy) (p : ℕ) →
      is_some (copy_of (with_changed cache line copy) p) ≡ is_some (copy_of cache p)
  changed copy p =
      ap (λ n. is_some (look (put_within cache.sets (set_of cache line) line copy) (p % n) p))
      (length-put_within cache.sets (set_of cache line) line copy)
      ∙ elim (cases_eq p line) [
        | inl e ↦
            ap (λ q. is_some (look (put_within cache.sets (set_of cache line) line copy) (q % length cache.sets) q)) e
            ∙ ap is_some (look-put_within_same cache.sets (set_of cache line) line copy home there) ∙ sym there
            ∙ sym (ap (λ q. is_some (copy_of cache q)) e)
        | inr ne ↦
            ap is_some (look-put_within_other cache.sets (set_of cache line) line (set_of cache p) p copy home ne)
      ]

  used : (copy : LineCopy) → is_some (copy_of (with_used cache line copy) line) ≡ true
  used copy =
      ap (λ n. is_some (look (put cache.sets (set_of cache line) line copy) (line % n) line))
      (length-put cache.sets (set_of cache line) line copy)
      ∙ ap is_some (look-put_same cache.sets (set_of cache line) line copy home)

  gone : (p : ℕ) → p ≢ line → is_some (copy_of (without_copy cache line) p) ≡ is_some (copy_of cache p)
  gone p ne =
      ap (λ n. is_some (look (drop_line cache.sets (set_of cache line) line) (p % n) p))
      (length-drop_line cache.sets (set_of cache line) line)
      ∙ ap is_some (look-drop_line_other cache.sets (set_of cache line) line (set_of cache p) p home ne)

pub open-changed :
    (words : ℕ) (cache : Sets LineCopy) (line : ℕ) (copy : LineCopy) (op : Option Op) →
    is_some (copy_of cache line) ≡ true →
    has_open_copy words (with_changed cache line copy) op ≡ has_open_copy words cache op
open-changed words cache line copy None there = refl
open-changed words cache line copy (Some op) there = changed cache line there copy (address op / words)

pub open-gone :
    (core : CoreState) (line : ℕ) (op : Option Op) → is_some (copy_of core.cache line) ≡ true →
    is_pinned (option_map (line_of core) op) line ≡ false →
    has_open_copy core.line_words (without_copy core.cache line) op ≡ has_open_copy core.line_words core.cache op
open-gone core line None there free = refl
open-gone core line (Some op) there free =
    gone core.cache line there (address op / core.line_words)
    (λ e. true≢false (sym (eq-eqb (address op / core.line_words) line e) ∙ free))

pub open-used :
    (core : CoreState) (line : ℕ) (copy : LineCopy) (op : Option Op) →
    is_pinned (option_map (line_of core) op) line ≡ true →
    has_open_copy core.line_words core.cache op ≡ true →
    has_open_copy core.line_words (with_used core.cache line copy) op ≡ true
open-used core line copy None pinned there = cc
open-used core line copy (Some op) pinned there =
    let same : address op / core.line_words ≡ line = eqb-true (address op / core.line_words) line pinned in
    ap (λ l. is_some (copy_of (with_used core.cache l copy) (address op / core.line_words))) (sym same)
    ∙ used core.cache (address op / core.line_words) there copy

-- a copy that is taken out was there, and wasn't the pinned line's
pub record IsOut (cache : Sets LineCopy) (line : ℕ) (pinned : Option ℕ) (found : Option LineCopy)
    (new : Sets LineCopy) : Type 0 where
  pub free : is_pinned pinned line ≡ false
  pub there : is_some found ≡ true
  pub gone : new ≡ without_copy cache line

out-by :
    (b : Bool) (cache cut new : Sets LineCopy) (copy k : LineCopy) (r : Result LineCopy CacheError) →
    ◌≡◌ {A = Result LineCopy CacheError × Sets LineCopy} (r, new) (cond b (Err Pinned, cache) (Ok copy, cut)) →
    r ≡ Ok k → (b ≡ false) × (new ≡ cut)
out-by true cache cut new copy k r e is =
    absurd (let two : ◌≡◌ {A = Result LineCopy CacheError} (Err Pinned) (Ok k) = sym (ap (λ p. p.0) e) ∙ is in cc)
out-by false cache cut new copy k r e is = (refl, ap (λ p. p.1) e)

pub is-out :
    (cache : Sets LineCopy) (line : ℕ) (pinned : Option ℕ) (found : Option LineCopy) (r : Result LineCopy CacheError)
    (new : Sets LineCopy) (k : LineCopy) → (r, new) ≡ evicted cache line pinned found → r ≡ Ok k →
    IsOut cache line pinned found new
is-out cache line pinned None r new k e is =
    absurd (let two : ◌≡◌ {A = Result LineCopy CacheError} (Err NotHere) (Ok k) = sym (ap (λ p. p.0) e) ∙ is in cc)
is-out cache line pinned (Some copy) r new k e is =
    let out = out-by (is_pinned pinned line) cache (without_copy cache line) new copy k r e is in
    record { free = out.0; there = refl; gone = out.1 }

-- a copy that is there, and whose line nothing pins, is taken out
pub taken-out :
    (cache : Sets LineCopy) (line : ℕ) (found : Option LineCopy) (r : Result LineCopy CacheError)
    (new : Sets LineCopy) →
    (r, new) ≡ evicted cache line None found → is_some found ≡ true → new ≡ without_copy cache line
taken-out cache line None r new e there = cc
taken-out cache line (Some copy) r new e there = ap (λ p. p.1) e

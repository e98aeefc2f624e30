-- The line that makes room is in the same set, and can be evicted.
use Rattle.std.proofs.Common.{◌≡◌, ℕ, ◌||◌, ◌&&◌, ◌==◌, Bool, true, false, not, cond, List, [], ◌∷◌, Option, Some}
use Rattle.std.proofs.Common.{None, refl, sym, ap, ◌∙◌, IfSome, IsOk}
use Rattle.std.specs.Option.{is_some, option_map}
use Rattle.std.specs.List as list
use Rattle.std.proofs.lemmas.Bool.{cond-true, eq-eqb}
use Rattle.line_sets.specs.Order.{find, is_there}
use Rattle.line_sets.specs.SetTable.{has_room, set_at}
use Rattle.llc_bank.specs.declared.entry.Entry.{Entry}
use Rattle.llc_bank.specs.declared.entry.Entry.TheVariants.{Loading, Shared, Exclusive, Recalling, Storing}
use Rattle.llc_bank.specs.Settled.{is_settled, is_shared}
use Rattle.llc_bank.specs.OnEntry.{evicted}
use Rattle.llc_bank.specs.OwnSets.{IsSound}
use Rattle.llc_bank.specs.BankTable.{BankState, after_eviction, all_settled, chosen, entry_of, evict, first_of}
use Rattle.llc_bank.specs.BankTable.{make_room, or_else, set_of}

-- the entry that is found first is there
there-later :
    (here : Bool) (x : Entry) (rest : Option Entry) → is_some rest ≡ true → is_some (cond here (Some x) rest) ≡ true
there-later true x rest h = refl
there-later false x rest h = h

-- whether the first entry passes or not
found-at :
    (passes : Bool) (test : Entry → Bool) (p : ℕ × Entry) (ps : List (ℕ × Entry)) (line : ℕ) →
    (option_map (λ e. e.0) (list.find (λ e. test e.1) ps) ≡ Some line → is_there ps line ≡ true) →
    option_map (λ e. e.0) (cond passes (Some p) (list.find (λ e. test e.1) ps)) ≡ Some line →
    is_there (p ∷ ps) line ≡ true
found-at true test p ps line later e =
    let same : p.0 ≡ line = cc in
    ap is_some (cond-true _ (Some p.1) (find ps line) (eq-eqb p.0 line same))
found-at false test p ps line later e = there-later (p.0 == line) p.1 (find ps line) (later e)

found-there :
    (test : Entry → Bool) (entries : List (ℕ × Entry)) (line : ℕ) → first_of test entries ≡ Some line →
    is_there entries line ≡ true
found-there test [] line e = cc
found-there test (p ∷ ps) line e = found-at (test p.1) test p ps line (found-there test ps line) e

chosen-there :
    (entries : List (ℕ × Entry)) (shared settled : Option ℕ) (line : ℕ) → shared ≡ first_of is_shared entries →
    settled ≡ first_of is_settled entries → or_else shared settled ≡ Some line → is_there entries line ≡ true
chosen-there entries None settled line a b e = found-there is_settled entries line (sym b ∙ e)
chosen-there entries (Some l) settled line a b e = found-there is_shared entries line (sym a ∙ e)

-- nothing is under way for the entry of a line in a settled set
settled-here :
    (here : Bool) (x : Entry) (rest : Option Entry) (entry : Entry) → is_settled x ≡ true →
    (rest ≡ Some entry → is_settled entry ≡ true) → cond here (Some x) rest ≡ Some entry → is_settled entry ≡ true
settled-here true x rest entry s later e = let same : x ≡ entry = cc in ap is_settled (sym same) ∙ s
settled-here false x rest entry s later e = later e

both : (a b : Bool) → (a && b) ≡ true → (a ≡ true) × (b ≡ true)
both true b h = (refl, h)
both false b h = cc

settled-found :
    (entries : List (ℕ × Entry)) (line : ℕ) (entry : Entry) → all_settled entries ≡ true →
    find entries line ≡ Some entry → is_settled entry ≡ true
settled-found [] line entry s e = cc
settled-found (p ∷ ps) line entry s e =
    let parts : (is_settled p.1 ≡ true) × (all_settled ps ≡ true) = both _ _ s in
    settled-here (p.0 == line) p.1 (find ps line) entry parts.0 (settled-found ps line entry parts.1) e

-- a settled entry is evicted
settled-evicted :
    (bank : BankState) (line : ℕ) (entry : Entry) → is_settled entry ≡ true →
    IsOk (after_eviction bank line (evicted (Some entry))).0
settled-evicted bank line (Shared true timed) s = refl
settled-evicted bank line (Shared false timed) s = refl
settled-evicted bank line (Exclusive owner) s = refl
settled-evicted bank line Loading s = cc
settled-evicted bank line (Recalling owner) s = cc
settled-evicted bank line Storing s = cc

there-evicted :
    (bank : BankState) (line : ℕ) (kept : Option Entry) → entry_of bank line ≡ kept → is_some kept ≡ true →
    ((entry : Entry) → kept ≡ Some entry → is_settled entry ≡ true) → IsOk (evict bank line).0
there-evicted bank line None e there s = cc
there-evicted bank line (Some entry) e there s =
    rw (ap (λ o. after_eviction bank line (evicted o)) e) (settled-evicted bank line entry (s entry refl))

-- where a line makes room, its set is settled
not-passed :
    (passed : Bool) (found : Option ℕ) (line : ℕ) → cond passed None found ≡ Some line →
    (passed ≡ false) × (found ≡ Some line)
not-passed true found line e = cc
not-passed false found line e = (refl, e)

last-false : (a b c : Bool) → (a || b || not c) ≡ false → c ≡ true
last-false true b c h = cc
last-false false true c h = cc
last-false false false true h = refl
last-false false false false h = cc

pub record MakesRoom (bank : BankState) (line victim : ℕ) : Type 0 where
  pub same_set : set_of bank victim ≡ set_of bank line
  pub evicted : IsOk (evict bank victim).0

makes-room :
    (bank : BankState) (line victim : ℕ) → IsSound bank.banks bank.table → make_room bank line ≡ Some victim →
    MakesRoom bank line victim
makes-room bank line victim sound e =
    let entries : List (ℕ × Entry) = set_at bank.table.sets (set_of bank line) in
    let parts : ((is_some (entry_of bank line) || has_room bank.table (set_of bank line) || not (all_settled entries))
    ≡ false) × (chosen entries ≡ Some victim) = not-passed _ _ victim e in
    let settled : all_settled entries ≡ true = last-false (is_some (entry_of bank line))
    (has_room bank.table (set_of bank line)) (all_settled entries) parts.0 in
    let there : is_there entries victim ≡ true = chosen-there entries _ _ victim refl refl parts.1 in
    let same : set_of bank victim ≡ set_of bank line = sound.own_sets (set_of bank line) victim there in
    record {
      same_set = same;
      evicted = there-evicted bank victim (entry_of bank victim) refl (rw same there)
          (λ entry h. settled-found entries victim entry settled (rw (← same) h));
    }

pub in-same-set :
    (bank : BankState) (line : ℕ) (result : Option ℕ) → IsSound bank.banks bank.table → result ≡ make_room bank line →
    IfSome result (λ victim. set_of bank victim ≡ set_of bank line)
in-same-set bank line None sound e = tt
in-same-set bank line (Some victim) sound e = (makes-room bank line victim sound (sym e)).same_set

pub can-be-evicted :
    (bank : BankState) (line : ℕ) (result : Option ℕ) → IsSound bank.banks bank.table → result ≡ make_room bank line →
    IfSome result (λ victim. IsOk (evict bank victim).0)
can-be-evicted bank line None sound e = tt
can-be-evicted bank line (Some victim) sound e = (makes-room bank line victim sound (sym e)).evicted

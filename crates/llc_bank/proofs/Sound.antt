-- What a bank keeps when an entry is put, changed or taken out.
use Rattle.std.proofs.Common.{◌≡◌, ◌≢◌, ℕ, zero, suc, ◌<◌, ◌/◌, ◌%◌, true, false, List, [], length, replicate, refl}
use Rattle.std.proofs.Common.{sym, ap, ◌∙◌, arith, ⊎_elim}
use Rattle.std.specs.Option.{is_some}
use Rattle.std.proofs.lemmas.List.{length-replicate}
use Rattle.std.proofs.lemmas.Bool.{cases_eq}
use Rattle.line_sets.specs.Order.{is_there}
use Rattle.line_sets.specs.SetTable.{Sets, set_at, look, put, put_within, drop_line, empty_sets}
use Rattle.line_sets.proofs.Lemmas.{look-put_other, look-put_other_set, look-put_within_other}
use Rattle.line_sets.proofs.Lemmas.{look-put_within_other_set, look-drop_line_other, look-drop_line_other_set}
use Rattle.line_sets.proofs.Lemmas.{length-put, length-put_within, length-drop_line}
use Rattle.llc_bank.specs.declared.entry.Entry.{Entry}
use Rattle.llc_bank.specs.BankTable.{BankState, set_of}
use Rattle.llc_bank.specs.OwnSets.{InOwnSets, IsSound}

-- a change of one line in its own set
own :
    (banks : ℕ) (sets new : List (List (ℕ × Entry))) (line : ℕ) → length new ≡ length sets →
    ((k j : ℕ) → j ≢ line → look new k j ≡ look sets k j) →
    ((k j : ℕ) → k ≢ (line / banks) % length sets → look new k j ≡ look sets k j) → InOwnSets banks sets →
    InOwnSets banks new
own banks sets new line len others other_sets h = λ k j there.
    let as_before : look new k j ≡ look sets k j → (j / banks) % length new ≡ k =
    λ same. rw len (h k j (sym (ap is_some same) ∙ there)) in
    ⊎_elim
    (λ (e : j ≡ line).
    ⊎_elim
    (λ (s : k ≡ (line / banks) % length sets). rw (len, e) (sym s))
    (λ (d : k ≡ (line / banks) % length sets → ⊥). as_before (other_sets k j d))
    (cases_eq k ((line / banks) % length sets)))
    (λ (d : j ≡ line → ⊥). as_before (others k j d))
    (cases_eq j line)

pub below : (line n : ℕ) → 0 < n → line % n < n
below line n h = omega arith

pub sound-put :
    (banks : ℕ) (table new : Sets Entry) (set line : ℕ) (entry : Entry) → IsSound banks table →
    set ≡ (line / banks) % length table.sets → new ≡ record table { sets = put table.sets set line entry } →
    IsSound banks new
sound-put banks table new set line entry sound is e =
    let home : ℕ = (line / banks) % length table.sets in
    let i : home < length table.sets = below (line / banks) (length table.sets) sound.some_sets in
    let len : length (put table.sets home line entry) ≡ length table.sets = length-put table.sets home line entry in
    rw (e, is) (record {
      some_banks = sound.some_banks;
      some_sets = rw len sound.some_sets;
      some_ways = sound.some_ways;
      own_sets = own banks table.sets (put table.sets home line entry) line len
          (λ k j ne. look-put_other table.sets home line k j entry i ne)
          (λ k j ne. look-put_other_set table.sets home line k j entry ne)
          sound.own_sets;
    })

pub sound-put_within :
    (banks : ℕ) (table new : Sets Entry) (set line : ℕ) (entry : Entry) → IsSound banks table →
    set ≡ (line / banks) % length table.sets → new ≡ record table { sets = put_within table.sets set line entry } →
    IsSound banks new
sound-put_within banks table new set line entry sound is e =
    let home : ℕ = (line / banks) % length table.sets in
    let i : home < length table.sets = below (line / banks) (length table.sets) sound.some_sets in
    let len : length (put_within table.sets home line entry) ≡ length table.sets =
    length-put_within table.sets home line entry in
    rw (e, is) (record {
      some_banks = sound.some_banks;
      some_sets = rw len sound.some_sets;
      some_ways = sound.some_ways;
      own_sets = own banks table.sets (put_within table.sets home line entry) line len
          (λ k j ne. look-put_within_other table.sets home line k j entry i ne)
          (λ k j ne. look-put_within_other_set table.sets home line k j entry ne)
          sound.own_sets;
    })

pub sound-drop_line :
    (banks : ℕ) (table new : Sets Entry) (set line : ℕ) → IsSound banks table →
    set ≡ (line / banks) % length table.sets → new ≡ record table { sets = drop_line table.sets set line } →
    IsSound banks new
sound-drop_line banks table new set line sound is e =
    let home : ℕ = (line / banks) % length table.sets in
    let i : home < length table.sets = below (line / banks) (length table.sets) sound.some_sets in
    let len : length (drop_line table.sets home line) ≡ length table.sets = length-drop_line table.sets home line in
    rw (e, is) (record {
      some_banks = sound.some_banks;
      some_sets = rw len sound.some_sets;
      some_ways = sound.some_ways;
      own_sets = own banks table.sets (drop_line table.sets home line) line len
          (λ k j ne. look-drop_line_other table.sets home line k j i ne)
          (λ k j ne. look-drop_line_other_set table.sets home line k j ne)
          sound.own_sets;
    })

-- the set that the code works out
pub home_set :
    (banks : ℕ) (table : Sets Entry) (bank : BankState) (set line number : ℕ) → banks ≡ bank.banks →
    table ≡ bank.table → number ≡ line → set ≡ set_of bank line → set ≡ (number / banks) % length table.sets
home_set banks table bank set line number b t n s = rw (b, t, n) s

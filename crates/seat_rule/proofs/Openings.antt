-- The rule holds of a machine as it opens.
use Rattle.std.proofs.Common.{◌≡◌, ℕ, zero, suc, ◌+◌, ◌<◌, [], length, get_or, map, replicate, Option, None}
use Rattle.std.proofs.Common.{sym, refl, ap, arith}
use Rattle.std.specs.FinMap.{entries}
use mathlib.Core.Option.{some}
use mathlib.Core.Option as maybe
use Rattle.std.proofs.lemmas.List.{length-replicate}
use lib.ListN.{get_elem?}
use Rattle.atomic_table.specs.Table.{opening}
use Rattle.network.specs.declared.message.Message.{Message}
use Rattle.llc_bank.specs.BankTable.{empty_bank}
use Rattle.machine_table.specs.Opening.{bank_config, dram_of}
use Rattle.machine_theorem.specs.Moves.{same}
use Rattle.seat_views.specs.Seated.{over, first_view}
use Rattle.seat_views.proofs.Lemmas.{shown_first}
use Rattle.seat_rule.specs.declared.views.SetUp.{SetUp}
use Rattle.seat_rule.specs.declared.views.Hold.{Hold}
use Rattle.seat_rule.specs.StateLaws.{StateLaws}
use Rattle.seat_rule.specs.Rule.{free, opening_hold, gather, MovesReach, RuleIsKept}
use Rattle.seat_rule.specs.Plays.{Standing}

zeros : (m : ℕ) → over m (λ j. 0) ≡ 0
zeros zero = refl
zeros (suc m) = let a = zeros m in omega arith

nothing : (m : ℕ) → gather m (λ j. []) ≡ []
nothing zero = refl
nothing (suc m) = nothing m

all_home : (m k : ℕ) → k < m → get_elem? (map some (replicate {A = Option Message} m None)) k ≡ some (some None)
all_home zero k l = absurd (omega arith)
all_home (suc m) zero l = refl
all_home (suc m) (suc k) l = all_home m k (omega arith)

zero_words : (m k : ℕ) → ◌≡◌ {A = ℕ} (get_or (replicate m 0) k 0) 0
zero_words zero k = refl
zero_words (suc m) zero = refl
zero_words (suc m) (suc k) = zero_words m k

long_homes : (m : ℕ) →
    length (map {B = maybe.Option (Option Message)} some (replicate {A = Option Message} m None)) ≡ m
long_homes zero = refl
long_homes (suc m) = ap suc (long_homes m)

-- the initial state, as seats hold it
opens_seated : (laws : StateLaws) (z : SetUp) (n : ℕ) → MovesReach z n (opening_hold z) [] []
opens_seated laws z n =
    same (laws.opens z.config z.memory) (record {
      cores = λ c. refl;
      banks = λ b. ap (λ j. empty_bank (bank_config z.config j)) (omega arith);
      drams = λ b. ap (λ j. dram_of z.config j (entries z.memory)) (omega arith);
      bag = λ h. refl;
      issued = λ c. refl;
      records = refl;
      counts = let e : 0 ≡ over n (λ j. 0) = sym (zeros n) in
          λ i. record { renewals = e i; upgrades = e i; flushes = e i; write_backs = e i };
    })

module _ (z : SetUp) (n : ℕ) (from to : ℕ → ℕ) (slots : ℕ) where
  pub opening_kept : StateLaws → 0 < n →
      RuleIsKept z n from to slots
      (opening (replicate (slots + 1) 0) (replicate slots None) (first_view (opening_hold z 0)))
  opening_kept laws pos =
      record {
        seats = opening_hold z;
        phases = λ _. free;
        log = [];
        shown = shown_first Hold (opening_hold z) n pos;
        wide = length-replicate (slots + 1) 0;
        homes = long_homes slots;
        count = zero_words (slots + 1) slots;
        each_slot = λ k l. (zero_words (slots + 1) k, all_home slots k l);
        each_seat = λ j. tt;
        busy = λ j l. tt;
        addressed = λ j l. tt;
        links = λ h. let a = zeros n in let b = zeros slots in omega arith;
        reached = rw (nothing n, nothing slots) (opens_seated laws z n);
        seen = λ j. ([], refl);
        total = sym (zeros n);
        bounded = λ j. omega arith;
        own = λ j. refl;
      }

-- what a seat holds as it opens is a part of it
pub opening_stands : (laws : StateLaws) (z : SetUp) (n id : ℕ) → Standing z n id (opening_hold z id)
unfolding Standing
opening_stands laws z n id = (opening_hold z, [], [], refl, opens_seated laws z n, refl)

-- Looks at the slots of the links of messages, one message after the other, are looks at all slots of these links.
use Rattle.std.proofs.Common.{◌≡◌, ℕ, ◌+◌, ◌-◌, ◌*◌, ◌/◌, ◌%◌, ◌<◌, Bool, true, false, cond, ltb, zero, suc, sym, refl}
use Rattle.std.proofs.Common.{ap, ◌∙◌, arith, le-ltb, List, [], ◌∷◌, ◌++◌, Some}
use Rattle.std.proofs.lemmas.Bool.Decides.{nat_tests}
use Rattle.std.proofs.lemmas.Grind.{common_steps}
use Rattle.std.specs.Prelude.{flat_map, option_map, slice_get}
use Rattle.std.proofs.lemmas.Option.{slice_get-map}
use Rattle.std.proofs.lemmas.Nat.{div-add-mod'}
use Rattle.network.specs.declared.message.Node.{Node}
use Rattle.network.specs.declared.message.Message.{Message}
use Rattle.seat_views.proofs.Lemmas.{some_is}
use Rattle.seat_rule.specs.declared.views.SetUp.{SetUp}
use Rattle.seat_rule.specs.Rule.{source, target, node_of}
use Rattle.seat_rule.specs.Plays.{ones}
use Rattle.mailboxes.specs.Places.{link_to, links_of, once, found_full, AllFoundFull}
use Rattle.mailboxes.proofs.Once.{in_once}

-- A link from a seat to a node is the one of its number.
module _ (z : SetUp) (number l : ℕ) (to : Node) (some_cores : 0 < z.config.cores) where
  one_link : (t : Bool) → ltb l (z.config.cores * z.config.banks) ≡ t →
      cond t (l / z.config.banks) (z.config.cores + (l - z.config.cores * z.config.banks) / z.config.cores) ≡ number →
      node_of z (cond t (z.config.cores + l % z.config.banks)
      ((l - z.config.cores * z.config.banks) % z.config.cores)) ≡ to →
      link_to z.config.cores z.config.banks number to ≡ l
  unfolding node_of
  one_link true is from node = grind (arith, nat_tests, common_steps, div-add-mod', le-ltb)
  one_link false is from node = grind (arith, nat_tests)

linked : (z : SetUp) (number l : ℕ) (to : Node) → 0 < z.config.cores → source z l ≡ number →
    to ≡ node_of z (target z l) → link_to z.config.cores z.config.banks number to ≡ l
unfolding source target
linked z number l to some from node =
    one_link z number l to some (ltb l (z.config.cores * z.config.banks)) refl from (sym node)

-- the looks at one link, and those after them
at_link : (link s : ℕ) (later : List (ℕ × ℕ)) → s < 4 → slice_get (ones link 4 ++ later) s ≡ Some (4 * link + s, 1)
at_link link zero later lt = refl
at_link link (suc zero) later lt = refl
at_link link (suc (suc zero)) later lt = refl
at_link link (suc (suc (suc zero))) later lt = refl
at_link link (suc (suc (suc (suc s)))) later lt = absurd (omega arith)

after_link : (link i : ℕ) (later : List (ℕ × ℕ)) (x : ℕ × ℕ) → slice_get later i ≡ Some x →
    slice_get (ones link 4 ++ later) (suc (suc (suc (suc i)))) ≡ Some x
after_link link i later x is = is

looked_at : (links : List ℕ) (i link s : ℕ) → slice_get links i ≡ Some link → s < 4 →
    (j : ℕ) × (slice_get (flat_map (λ l. ones l 4) links) j ≡ Some (4 * link + s, 1))
looked_at [] i link s is lt = let none = is in cc
looked_at (x ∷ xs) zero link s is lt =
    (s, at_link x s (flat_map (λ l. ones l 4) xs) lt ∙ ap (λ l. Some (4 * l + s, 1)) (some_is is))
looked_at (x ∷ xs) (suc i) link s is lt =
    let later = looked_at xs i link s is lt in
    (suc (suc (suc (suc later.0))), after_link x later.0 (flat_map (λ l. ones l 4) xs) (4 * link + s, 1) later.1)

pub all_full : (z : SetUp) (number : ℕ) (ms : List Message) → 0 < z.config.cores →
    AllFoundFull z number ms (found_full z.config.cores z.config.banks number ms)
all_full z number ms some = record {
  each = λ i m is k few from to.
      let links = links_of z.config.cores z.config.banks number ms in
      let link = link_to z.config.cores z.config.banks number m.to in
      let here = in_once links i link
      (slice_get-map (λ (n : Message). link_to z.config.cores z.config.banks number n.to) ms i
      ∙ ap (option_map (λ (n : Message). link_to z.config.cores z.config.banks number n.to)) is) in
      let found = looked_at (once links) here.0 link (k % 4) here.1 (omega arith) in
      let is_link = linked z number (k / 4) m.to some from to in
      let slot : 4 * link + k % 4 ≡ k = omega (arith, is_link) in
      (found.0, found.1 ∙ ap (λ l. Some (l, 1)) slot);
}

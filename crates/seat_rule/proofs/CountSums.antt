-- What seats count together, when one of them counts a message.
use Rattle.std.proofs.Common.{◌≡◌, ℕ, ◌+◌, ◌<◌, Option, Some, None, sym, refl, ap, ◌∙◌, arith}
use Rattle.std.proofs.lemmas.Bool.Decides.{nat_tests}
use Rattle.std.proofs.lemmas.Grind.{common_steps}
use Rattle.network.specs.declared.message.Body.{Body}
use Rattle.network.specs.declared.message.Body.TheVariants.{RenewRep, UpgradeRep, FlushRep, WbRep}
use Rattle.network.specs.declared.message.Message.{Message}
use Rattle.network.specs.declared.counts.Counts.{Counts}
use Rattle.network.specs.Mail.{counted}
use Rattle.seat_views.specs.Seated.{with_value_at}
use Rattle.seat_views.proofs.Lemmas.{put_here, put_else, at_put, over_put}
use Rattle.seat_rule.specs.declared.views.Hold.{Hold}
use Rattle.seat_rule.specs.Rule.{counts_of}
use Rattle.seat_rule.specs.Serving.{counted_if}

module _ (n : ℕ) (f : ℕ → Counts) (id : ℕ) (l : id < n) where
  -- counts that are those of all seats, but for what the seat counts
  counts_are : (x to : Counts) → to.renewals + (f id).renewals ≡ (counts_of n f).renewals + x.renewals →
      to.upgrades + (f id).upgrades ≡ (counts_of n f).upgrades + x.upgrades →
      to.flushes + (f id).flushes ≡ (counts_of n f).flushes + x.flushes →
      to.write_backs + (f id).write_backs ≡ (counts_of n f).write_backs + x.write_backs →
      to ≡ counts_of n (with_value_at f id x)
  counts_are x to renewals upgrades flushes write_backs =
      let a = over_put n (λ c. c.renewals) f id x l in
      let b = over_put n (λ c. c.upgrades) f id x l in
      let c = over_put n (λ c. c.flushes) f id x l in
      let d = over_put n (λ c. c.write_backs) f id x l in
      let after : Counts = counts_of n (with_value_at f id x) in
      let e : to.renewals ≡ after.renewals = omega arith in
      let g : to.upgrades ≡ after.upgrades = omega arith in
      let h : to.flushes ≡ after.flushes = omega arith in
      let k : to.write_backs ≡ after.write_backs = omega arith in
      λ i. record { renewals = e i; upgrades = g i; flushes = h i; write_backs = k i }

  none : counts_of n f ≡ counts_of n (with_value_at f id (f id))
  none = counts_are (f id) (counts_of n f) refl refl refl refl

  -- a message that one seat counts is counted in the sums
  counted_sum : (body : Body) → counted (counts_of n f) body ≡ counts_of n (with_value_at f id (counted (f id) body))
  counted_sum (RenewRep rts) = counts_are _ _ (omega arith) refl refl refl
  counted_sum (UpgradeRep rts) = counts_are _ _ refl (omega arith) refl refl
  counted_sum (FlushRep line) = counts_are _ _ refl refl (omega arith) refl
  counted_sum (WbRep line) = counts_are _ _ refl refl refl (omega arith)
  counted_sum _ = none

-- seats of which one counted what it sent
module _ (n : ℕ) (seats : ℕ → Hold) (id : ℕ) (h : Hold) (l : id < n) where
  counts_put : with_value_at (λ j. (seats j).counts) id h.counts ≡ (λ j. (with_value_at seats id h j).counts)
  counts_put i j =
      at_put seats id h (λ q y. with_value_at (λ k. (seats k).counts) id h.counts q ≡ y.counts) j
      (put_here (λ k. (seats k).counts) id h.counts) (λ ne. put_else (λ k. (seats k).counts) id h.counts j ne) i

  pub sums_count : (sent : Option Message) → h.counts ≡ counted_if (seats id).counts sent →
      counted_if (counts_of n (λ j. (seats j).counts)) sent ≡ counts_of n (λ j. (with_value_at seats id h j).counts)
  sums_count None e = grind (arith, nat_tests, common_steps, counts_put, none)
  sums_count (Some m) e =
      counted_sum n (λ j. (seats j).counts) id l m.body
      ∙ ap (λ y. counts_of n (with_value_at (λ j. (seats j).counts) id y)) (sym e) ∙ ap (counts_of n) counts_put

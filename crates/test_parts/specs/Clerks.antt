-- What the part of the tests answers to a message.
use Rattle.std.specs.Prelude.{ℕ, ◌-◌, ◌%◌, ◌==◌, cond, nat_lt, Some}
use Rattle.inbox.specs.declared.answer.Answer.{Answer}
use Rattle.inbox.specs.declared.answer.Answer.TheVariants.{Delivered, Held, Refused}
use Rattle.inbox.specs.declared.answer.Refusal.TheVariants.{Full}
use Rattle.test_parts.specs.declared.clerks.Clerk.{Clerk}

-- even messages wait; an odd one is delivered if there is a place for the even one before it, which it sends
abbrev pub clerk_table : Clerk → ℕ → ℕ → Answer ℕ × Clerk
clerk_table c n places =
    cond (n % 2 == 0) (Held, c)
    (cond (nat_lt places 1) (Refused Full, c) (Delivered (Some (n - 1)), record { last = n }))

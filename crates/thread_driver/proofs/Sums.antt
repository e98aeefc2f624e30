-- What turns told together.
use Rattle.std.proofs.Common.{◌≡◌, Bool, true, false, ◌||◌, refl, sym}
use Rattle.thread_driver.specs.declared.told.Told.{Told}
use Rattle.thread_driver.specs.Given.{quiet, told_by_both}

or_none : (a : Bool) → (a || false) ≡ a
or_none true = refl
or_none false = refl

or_assoc : (a b c : Bool) → ((a || b) || c) ≡ (a || (b || c))
or_assoc true b c = refl
or_assoc false b c = refl

pub or_swap : (a b c d : Bool) → ((a || b) || (c || d)) ≡ ((a || c) || (b || d))
or_swap true b c d = refl
or_swap false true true d = refl
or_swap false true false d = refl
or_swap false false c d = refl

pub same_told : (a b : Told) → a.no_memory ≡ b.no_memory → a.is_exhausted ≡ b.is_exhausted →
    a.has_progressed ≡ b.has_progressed → a ≡ b
same_told a b e f g = λ i. record { no_memory = e i; is_exhausted = f i; has_progressed = g i }

pub told_quiet : (a : Told) → told_by_both a quiet ≡ a
told_quiet a =
    same_told (told_by_both a quiet) a (or_none a.no_memory) (or_none a.is_exhausted) (or_none a.has_progressed)

pub told_assoc : (a b c : Told) → told_by_both (told_by_both a b) c ≡ told_by_both a (told_by_both b c)
told_assoc a b c =
    same_told (told_by_both (told_by_both a b) c) (told_by_both a (told_by_both b c))
    (or_assoc a.no_memory b.no_memory c.no_memory) (or_assoc a.is_exhausted b.is_exhausted c.is_exhausted)
    (or_assoc a.has_progressed b.has_progressed c.has_progressed)

pub told_swap : (a b c d : Told) → told_by_both (told_by_both a b) (told_by_both c d)
    ≡ told_by_both (told_by_both a c) (told_by_both b d)
told_swap a b c d =
    same_told (told_by_both (told_by_both a b) (told_by_both c d)) (told_by_both (told_by_both a c) (told_by_both b d))
    (or_swap a.no_memory b.no_memory c.no_memory d.no_memory)
    (or_swap a.is_exhausted b.is_exhausted c.is_exhausted d.is_exhausted)
    (or_swap a.has_progressed b.has_progressed c.has_progressed d.has_progressed)

-- two tests of which each passes where the other does
pub same_bool : (a b : Bool) → (a ≡ true → b ≡ true) → (b ≡ true → a ≡ true) → a ≡ b
same_bool true true f g = refl
same_bool true false f g = sym (f refl)
same_bool false true f g = g refl
same_bool false false f g = refl

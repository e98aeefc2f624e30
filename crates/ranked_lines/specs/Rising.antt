-- Numbers in rising order, and lists without one number.
use Rattle.std.specs.Prelude.{◌≡◌, ℕ, ◌+◌, ◌*◌, ◌<◌, ◌≤◌, ◌==◌, nat_le, nat_lt, length, Bool, false, not, List, [], ◌∷◌}
use Rattle.std.specs.Prelude.{filter, Option, Some, None, if◌then◌else◌}
use Rattle.std.specs.List.{prefix_len}

-- a number put into its place in a rising list
abbrev pub put_in : ℕ → List ℕ → List ℕ
put_in x [] = x ∷ []
put_in x (y ∷ ys) = if nat_lt y x then y ∷ put_in x ys else x ∷ y ∷ ys

-- the numbers of a list, rising
abbrev pub sorted : List ℕ → List ℕ
sorted [] = []
sorted (x ∷ xs) = put_in x (sorted xs)

-- the number is that one, if there is one
abbrev pub is_but : Option ℕ → ℕ → Bool
is_but None x = false
is_but (Some but) x = but == x

-- the numbers of a list but that one
abbrev pub all_but : Option ℕ → List ℕ → List ℕ
all_but but xs = filter (λ x. not (is_but but x)) xs

-- a list without the first number that is not below x
abbrev pub take_out : ℕ → List ℕ → List ℕ
take_out x [] = []
take_out x (y ∷ ys) = if nat_lt y x then y ∷ take_out x ys else ys

-- all numbers from the front on are below x
abbrev pub all_below : ℕ → List ℕ → Bool
all_below x ys = nat_le (length ys) (prefix_len (λ y. nat_lt y x) ys)

-- no number is below x
abbrev pub AllFrom : ℕ → List ℕ → Type 0
AllFrom x [] = Unit {0}
AllFrom x (y ∷ ys) = (x ≤ y) × AllFrom x ys

-- each number is at most those after it
abbrev pub Rises : List ℕ → Type 0
Rises [] = Unit {0}
Rises (x ∷ xs) = AllFrom x xs × Rises xs

-- how often a number is there
abbrev pub tally : ℕ → List ℕ → ℕ
tally c [] = 0
tally c (y ∷ ys) = (if y == c then 1 else 0) + tally c ys

-- the second list has a line so many times where the first one has it so many, and all else as often
abbrev pub IsExchanged : ℕ → ℕ → ℕ → List ℕ → List ℕ → Type 0
IsExchanged line before after xs ys =
    (c : ℕ) → tally c ys + (if line == c then before else 0) ≡ tally c xs + (if line == c then after else 0)

-- what is kept is the lines in rising order and the number of blocks that there is room for, or nothing
abbrev pub IsOrderOf : Option (List ℕ × ℕ) → List ℕ → Type 0
IsOrderOf None xs = Unit {0}
IsOrderOf (Some kept) xs = kept.0 ≡ sorted xs

-- how many blocks there is room for, if lines are kept
abbrev pub room_of : Option (List ℕ × ℕ) → Option ℕ
room_of None = None
room_of (Some kept) = Some kept.1

-- that many blocks, if there are any, have room for n numbers and one more: for 32 in each but one
abbrev pub HasRoom : ℕ → Option ℕ → Type 0
HasRoom n None = Unit {0}
HasRoom n (Some blocks) = n + 32 < blocks * 32

-- What words say: numbers, threads, registers, locations.
use Rattle.std.specs.Prelude.{ℕ, ◌+◌, ◌-◌, ◌*◌, ◌==◌, ◌&&◌, ◌||◌, nat_le, Bool, false, if◌then◌else◌, List, [], ◌∷◌}
use Rattle.std.specs.Prelude.{length, Option, Some, None, not}
use Rattle.std.specs.List.{list_all, fold}
use Rattle.litmus_lexer.specs.declared.limits.TheConstants.{LAST_REGISTER, LONGEST_LOCATION, MOST_THREADS}
use Rattle.litmus_lexer.specs.Pieces.{between}

abbrev pub is_digit : ℕ → Bool
is_digit b = between 48 57 b

-- one or more digits
abbrev pub is_number : List ℕ → Bool
is_number word = not (length word == 0) && list_all is_digit word

-- the value of digits, leading zeros included
abbrev pub value_of_digits : List ℕ → ℕ
value_of_digits word = fold (λ value digit. 10 * value + (digit - 48)) 0 word

-- a number from 0 to most in one or two digits, without a leading zero
abbrev pub small_of : ℕ → List ℕ → Option ℕ
small_of most (a ∷ []) = if is_digit a then Some (a - 48) else None
small_of most (a ∷ b ∷ []) = if between 49 57 a && is_digit b && nat_le (10 * (a - 48) + (b - 48)) most then Some
    (10 * (a - 48) + (b - 48)) else None
small_of most word = None

-- x and a number from 0 to 31
abbrev pub register_of : List ℕ → Option ℕ
register_of [] = None
register_of (first ∷ number) = if first == 120 then small_of LAST_REGISTER number else None

-- letters, digits and _
abbrev pub is_name_byte : ℕ → Bool
is_name_byte b = between 48 57 b || between 65 90 b || between 97 122 b || b == 95

-- x and digits alone
abbrev pub is_like_register : List ℕ → Bool
is_like_register [] = false
is_like_register (first ∷ number) = if first == 120 then is_number number else false

-- a letter or _, then letters, digits and _, 1 to 32 of them, and not x and digits alone
abbrev pub is_location : List ℕ → Bool
is_location [] = false
is_location (first ∷ rest) = not (is_digit first) && list_all is_name_byte (first ∷ rest)
    && nat_le (length (first ∷ rest)) LONGEST_LOCATION && not (is_like_register (first ∷ rest))

-- P and the number of a thread, without a zero in front
abbrev pub thread_named : List ℕ → Option ℕ
thread_named [] = None
thread_named (first ∷ number) = if first == 80 then small_of MOST_THREADS number else None

-- A line as its fields, in order.
use Rattle.std.specs.Prelude.{ℕ, ◌==◌, ◌||◌, ◌&&◌, not, Bool, true, false, if◌then◌else◌, List, [], ◌∷◌, take, drop}
use Rattle.std.specs.List.{prefix_len}

-- space, tab
abbrev pub is_blank : ℕ → Bool
is_blank b = b == 32 || b == 9

-- a line up to its first #, where a comment begins
abbrev pub before_comment : List ℕ → List ℕ
before_comment line = take (prefix_len (λ b. not (b == 35)) line) line

-- whether bytes begin inside a field
unfoldable pub begins_inside_field : List ℕ → Bool
begins_inside_field [] = false
begins_inside_field (b ∷ bytes) = not (is_blank b)

-- the fields with one more byte at the front of the first
abbrev pub first_grown : ℕ → List (List ℕ) → List (List ℕ)
first_grown b [] = []
first_grown b (field ∷ fields) = (b ∷ field) ∷ fields

-- the longest runs of bytes that are no blanks
unfoldable pub parted : List ℕ → List (List ℕ)
parted [] = []
parted (b ∷ bytes) = if is_blank b then parted bytes else if begins_inside_field bytes then first_grown b (parted bytes)
    else (b ∷ []) ∷ parted bytes

-- the fields of a line: what its blanks part, up to a comment
abbrev pub fields_of : List ℕ → List (List ℕ)
fields_of line = parted (before_comment line)

-- a byte of a field: no blank, and not where a comment begins
abbrev pub is_within : ℕ → Bool
is_within b = not (is_blank b) && not (b == 35)

-- the fields of bytes that no blank begins: the bytes up to the first that is none of a field, and what follows
unfoldable pub front_field : List ℕ → List (List ℕ)
front_field bytes = if prefix_len is_within bytes == 0 then []
    else take (prefix_len is_within bytes) bytes ∷ fields_of (drop (prefix_len is_within bytes) bytes)

abbrev pub has_fields : List (List ℕ) → Bool
has_fields [] = false
has_fields (field ∷ fields) = true

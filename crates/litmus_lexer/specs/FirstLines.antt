-- The first line of a text and its header lines, by their bytes.
use Rattle.std.specs.Prelude.{◌≡◌, ℕ, ◌<◌, ◌≤◌, ◌==◌, ◌&&◌, ◌||◌, nat_lt, not, Bool, true, false, if◌then◌else◌, List}
use Rattle.std.specs.Prelude.{[], ◌∷◌, ◌++◌, length, drop, Option, Some, None, codes, option_and_then}
use Rattle.std.specs.List.{list_all, prefix_len, take_while}
use Rattle.litmus_lexer.specs.declared.signs.TheConstants.{EQUALS, OPENING_BRACE}
use Rattle.litmus_lexer.specs.declared.limits.TheConstants.{LONGEST_TITLE}
use Rattle.litmus_lexer.specs.Pieces.{between, is_blank}
use Rattle.litmus_lexer.specs.Spelling.{is_name_byte}

-- letters, digits and _ + . - [ ]
abbrev pub is_title_byte : ℕ → Bool
is_title_byte b = is_name_byte b || b == 43 || b == 46 || b == 45 || b == 91 || b == 93

-- RISCV, blanks, and the name of the test, with blanks around
pub record IsTitle (line name : List ℕ) : Type 0 where
  pub front : List ℕ
  pub gap : List ℕ
  pub back : List ℕ
  pub spelled : line ≡ front ++ (codes "RISCV" ++ (gap ++ (name ++ back)))
  pub front_is : list_all is_blank front ≡ true
  pub gap_is : (list_all is_blank gap ≡ true) × (0 < length gap)
  pub name_is : (list_all is_title_byte name ≡ true) × (0 < length name) × (length name ≤ LONGEST_TITLE)
  pub back_is : list_all is_blank back ≡ true

-- a text after the bytes of this kind that it begins with
abbrev pub text_behind : (ℕ → Bool) → List ℕ → List ℕ
text_behind p text = drop (prefix_len p text) text

abbrev pub are_blanks : List ℕ → Bool
are_blanks text = prefix_len is_blank text == length text

-- a title, read from the front: what follows RISCV
abbrev pub behind_riscv : List ℕ → Option (List ℕ)
behind_riscv (a ∷ b ∷ c ∷ d ∷ e ∷ rest) =
    if a == 82 && b == 73 && c == 83 && d == 67 && e == 86 then Some rest else None
behind_riscv line = None

abbrev pub name_in : List ℕ → Option (List ℕ)
name_in line =
    if prefix_len is_title_byte line == 0 then None
    else if nat_lt LONGEST_TITLE (prefix_len is_title_byte line) then None
    else if are_blanks (text_behind is_title_byte line) then Some (take_while is_title_byte line)
    else None

abbrev pub name_behind : List ℕ → Option (List ℕ)
name_behind line = if prefix_len is_blank line == 0 then None else name_in (text_behind is_blank line)

unfoldable pub title_of : List ℕ → Option (List ℕ)
title_of line = option_and_then name_behind (behind_riscv (text_behind is_blank line))

abbrev pub is_key : List ℕ → Bool
is_key [] = false
is_key (first ∷ rest) = between 65 90 first || between 97 122 first

abbrev pub closes_quote : List ℕ → Bool
closes_quote [] = false
closes_quote (quote ∷ rest) = are_blanks rest

-- a string between two " with no other ", and blanks after it
abbrev pub is_quoted : List ℕ → Bool
is_quoted [] = false
is_quoted (first ∷ text) = if first == 34 then closes_quote (text_behind (λ b. not (b == 34)) text) else false

abbrev pub begins_with : ℕ → List ℕ → Bool
begins_with b [] = false
begins_with b (first ∷ rest) = first == b

-- a letter followed by letters, digits and _, then blanks, then = and anything
abbrev pub is_setting : List ℕ → Bool
is_setting text = is_key text && begins_with EQUALS (text_behind is_blank (text_behind is_name_byte text))

-- blank, a string, or key=value
abbrev pub is_header_line : List ℕ → Bool
is_header_line line = length (text_behind is_blank line) == 0 || is_quoted (text_behind is_blank line)
    || is_setting (text_behind is_blank line)

-- the initial block begins with {
abbrev pub begins_block : List ℕ → Bool
begins_block line = begins_with OPENING_BRACE (text_behind is_blank line)

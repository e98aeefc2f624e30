-- A number that an option has lies in its range, if the default does, and is the one that a text in range writes.
use Rattle.std.proofs.Common.{◌≡◌, ℕ, ◌≤◌, List, Option, Some, None, arith, ap, sym, ◌∙◌, subst}
use Rattle.std.specs.Prelude.{unwrap_or}
use Rattle.std.specs.Str.Parse.{digits_value, without_leading_plus}
use Rattle.clap.specs.Words.{Row, Text}
use Rattle.run_options.specs.declared.options.RunOptions.{RunOptions}
use Rattle.command_line.specs.Options.{IsNumberIn, IsNumberOf, MayBeWithin, RunIsInRange, TellsRun, WritesWithin}

pub some_in_range : (o : Option Text) (least most n : ℕ) → IsNumberIn o least most (Some n) → (least ≤ n) × (n ≤ most)
some_in_range o least most n is = (is.2.1, is.2.2)

pub in_range : (o : Option Text) (least most other value : ℕ) → least ≤ other → other ≤ most →
    IsNumberOf o least most other value → (least ≤ value) × (value ≤ most)
in_range o least most other value low high (Some n, is, same) =
    let within = some_in_range o least most n is in
    (subst (λ (k : ℕ). least ≤ k) (sym same) within.0, subst (λ (k : ℕ). k ≤ most) (sym same) within.1)
in_range o least most other value low high (None, is, same) =
    (subst (λ (k : ℕ). least ≤ k) (sym same) low, subst (λ (k : ℕ). k ≤ most) (sym same) high)

pub may_be_within : (o : Option Text) (least most : ℕ) (value : Option ℕ) → IsNumberIn o least most value →
    MayBeWithin least most value
may_be_within o least most (Some m) is = λ n same.
    let equal : m ≡ n = cc in
    subst (λ (k : ℕ). (least ≤ k) × (k ≤ most)) equal (some_in_range o _ _ m is)
may_be_within o least most None is = λ n same. absurd cc

pub run_in_range : (rows : List Row) (options : RunOptions) → TellsRun rows options → RunIsInRange options
run_in_range rows options t = record {
  workers = in_range _ 1 16 _ options.workers (omega arith) (omega arith) t.2;
  limit = in_range _ 1 4294967295 _ options.limit (omega arith) (omega arith) t.3;
}

pub some_taken : (o : Option Text) (least most : ℕ) (value : Option ℕ) → IsNumberIn o least most value →
    (text : Text) (n : ℕ) → o ≡ Some text → WritesWithin text least most n → value ≡ Some n
some_taken o least most (Some k) is text n same asked =
    let equal : is.0 ≡ text = let given = is.1 in cc in
    ap Some (sym is.2.0.1 ∙ ap (λ t. digits_value 10 (without_leading_plus t)) equal ∙ asked.0.1)
some_taken o least most None is text n same asked = absurd (is text n same asked)

pub taken : (o : Option Text) (least most other value : ℕ) → IsNumberOf o least most other value →
    (text : Text) (n : ℕ) → o ≡ Some text → WritesWithin text least most n → value ≡ n
taken o least most other value is text n same asked =
    is.2 ∙ ap (λ m. unwrap_or m other) (some_taken o least most is.0 is.1 text n same asked)

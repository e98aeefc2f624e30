-- Items that set no location.
use Rattle.std.proofs.Common.{◌≡◌, Bool, true, false, ◌||◌, List, ◌∷◌, refl, subst}
use Rattle.std.specs.List.{list_any}
use Rattle.litmus_parser.specs.declared.syntax.Item.{Item}
use Rattle.litmus_reader.specs.Litmus.{settings_of}
use Rattle.litmus_reader.specs.OpeningMemory.{is_of_location}

no-first : (a b : Bool) → (a || b) ≡ false → a ≡ false
no-first true b e = absurd cc
no-first false b e = refl

-- where none sets a location, the first one doesn't
pub no-location : (items : List Item) (item : Item) (rest : List Item) → items ≡ item ∷ rest →
    list_any (λ x. is_of_location x.0) (settings_of items) ≡ false → is_of_location item.name ≡ false
no-location items item rest e none =
    no-first (is_of_location item.name) (list_any (λ x. is_of_location x.0) (settings_of rest))
    (subst (λ (xs : List Item). list_any (λ x. is_of_location x.0) (settings_of xs) ≡ false) e none)

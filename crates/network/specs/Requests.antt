-- Whether a search looks for a message.
use Rattle.std.specs.Prelude.{Bool}
use Rattle.network.specs.declared.message.Message.{Message}
use Rattle.network.specs.declared.criteria.Wanted.{Wanted}
use Rattle.network.specs.declared.criteria.Wanted.TheVariants.{OwnershipOf, StoreOf}
use Rattle.network.specs.Search.{is_ownership_of, is_store_of}

abbrev pub is_wanted : Wanted → Message → Bool
is_wanted (OwnershipOf line) m = is_ownership_of line m
is_wanted (StoreOf line) m = is_store_of line m

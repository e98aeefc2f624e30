-- What a core was issued: the operations that it completed, in their order, and then the one that is open.
use Rattle.std.specs.Prelude.{◌≡◌, List, [], ◌∷◌, ◌++◌, map, Option, Some, None}
use Rattle.physiological_order.specs.declared.operation.Op.{Op}
use Rattle.physiological_order.specs.declared.operation.Record.{Record}
use Rattle.physiological_order.specs.Order.{Follows}

-- the open operation, if there is one, as a list
abbrev pub listed : Option Op → List Op
listed None = []
listed (Some op) = op ∷ []

-- these are the records of one core, in the order in which they completed
pub record IsIssued (issued : List Op) (records : List Record) (open_op : Option Op) : Type 0 where
  -- each has the next place in what was issued, and the operation there
  pub in_order : Follows 0 issued records
  -- and nothing else was issued but the open operation
  pub all : issued ≡ map (λ r. r.op) records ++ listed open_op

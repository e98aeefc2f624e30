-- What a test of the code stands for.
use Rattle.litmus_parser.specs.TreeViews.{tree_of}
use Rattle.litmus_reader.specs.Litmus.{Litmus, settings_of}
use Rattle.litmus_reader.specs.declared.contents.Test.{Test}

abbrev pub test_of : Test → Litmus
test_of t = record {
  name = t.name.items;
  locations = t.locations;
  items = settings_of t.items.items;
  threads = t.threads;
  cells = t.cells.items;
  quantifier = t.quantifier;
  tree = tree_of t.expr;
  seen = t.seen.items;
}

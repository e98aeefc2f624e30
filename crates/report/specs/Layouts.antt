-- How a report is laid out, as an option says.
use Rattle.std.specs.Prelude.{Bool, true, false}
use Rattle.report_lines.specs.declared.layout.Layout.{Layout}
use Rattle.report_lines.specs.declared.layout.Layout.TheVariants.{Lines, Json}

-- one JSON object if that is asked for, else lines
abbrev pub layout_of : Bool → Layout
layout_of true = Json
layout_of false = Lines

use Rattle.report_lines.proofs.addresses.+write_hex.Given as goal

abbrev pub decreases-write_hex : goal.decreases-write_hex
decreases-write_hex l = l.places

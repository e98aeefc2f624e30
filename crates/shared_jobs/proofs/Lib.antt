mod Placements
mod Claims

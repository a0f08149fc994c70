mod Inclusion
mod ListedNumbers
pub mod SlotDates
mod Numbers
mod Glances
mod LeafLooks
mod LateObjects
mod Damage
mod Indices
mod NextCells
mod HeldLeaves

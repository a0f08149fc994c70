pub mod ReachedRows
pub mod StandingRows
pub mod RowDamage
pub mod WalkedRows
pub mod Unreached
pub mod Held

pub mod Agreement
pub mod Contents
pub mod Damage

pub mod ListBytes
pub mod ListGrowth
pub mod Loops
pub mod OneList
pub mod Sizes
pub mod ReadRefusals
pub mod WrittenLists

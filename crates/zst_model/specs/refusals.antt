pub mod ApplyWords
pub mod Faults
pub mod Subjects
pub mod PlanFault
pub mod Refusal
pub mod StreamFault
pub mod Texts

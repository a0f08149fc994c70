pub mod FieldLaws
pub mod Fronts
pub mod Numbers
pub mod Payload
pub mod SixteenDigits
pub mod Texts

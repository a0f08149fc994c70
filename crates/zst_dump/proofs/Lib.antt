pub mod ListTexts

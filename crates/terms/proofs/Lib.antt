pub mod Alphabet
pub mod Numbers
pub mod PaperNumbers
pub mod Unique
pub mod LetterBytes

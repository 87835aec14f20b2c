pub mod NumberFields
pub mod LineParts
pub mod ReaderUnique
pub mod WordLaws
pub mod WriterUnique
pub mod Placed

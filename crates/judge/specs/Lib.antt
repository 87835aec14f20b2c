pub mod Looked
pub mod Scanned
pub mod Judged

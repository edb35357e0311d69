pub mod Bill
pub mod Billed
pub mod Book

pub mod ChangeList
pub mod Charges
pub mod HandedIn
pub mod Order
pub mod Past
pub mod Pending
pub mod Register
pub mod Rows

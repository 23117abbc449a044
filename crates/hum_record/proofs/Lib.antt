pub mod Long
pub mod Parts
pub mod Ends
pub mod Places
pub mod Plain
pub mod Short
pub mod Cuts
pub mod Laws
pub mod Drafts
pub mod TooLong
pub mod Moved
pub mod Held
pub mod Left
mod Alike
pub mod Rooms
mod Selected
mod Picked
mod Added
mod Words
mod Filled
mod Bytes
mod Rows

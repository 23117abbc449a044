-- What is said of packets, and of reading and writing them.
pub mod Packets
pub mod Lists
pub mod Streams
pub mod Held
pub mod Texts
pub mod Laws

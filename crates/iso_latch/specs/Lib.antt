pub mod Seen
pub mod Rule
pub mod Told
pub mod Dealt
pub mod Sent

pub mod Owned
pub mod Heading

mod Lists
pub mod Laid
mod Cuts

pub mod Voices
pub mod Views
pub mod Events
pub mod Steps
pub mod Deals
pub mod Sents

pub mod Stands
pub mod Changes
pub mod Firsts
pub mod Kinds
pub mod Steps
pub mod Tale
pub mod Judged

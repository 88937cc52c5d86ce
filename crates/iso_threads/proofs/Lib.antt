pub mod Others
pub mod Leading
pub mod Firsts
pub mod Ends
pub mod Returned
pub mod Started
pub mod Sends
pub mod Crossing

pub mod Numbers
pub mod Scan
pub mod Table

pub mod Figures
pub mod Screens
pub mod Table
pub mod Tally

pub mod Again
mod Loop
mod Put
mod Taken

pub mod Owns

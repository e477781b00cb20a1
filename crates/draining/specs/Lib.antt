pub mod Draining

pub mod Capability

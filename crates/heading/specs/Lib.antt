pub mod Pass
pub mod Heading

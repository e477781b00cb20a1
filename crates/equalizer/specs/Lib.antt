pub mod Equalizer

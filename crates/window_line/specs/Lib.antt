pub mod WindowLine

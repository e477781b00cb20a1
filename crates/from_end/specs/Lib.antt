pub mod FromEnd

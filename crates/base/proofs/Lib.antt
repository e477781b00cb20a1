pub mod LawsTests
pub mod LawsSum
pub mod LawsWriting
pub mod LawsDataType

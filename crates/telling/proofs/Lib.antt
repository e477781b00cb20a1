pub mod LawsTold

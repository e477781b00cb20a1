pub mod NoiseSpan

-- What a run of bytes holds. (Scan: what the private functions do; the public promise does not need it.)
pub mod ItemsIn
pub mod Scan

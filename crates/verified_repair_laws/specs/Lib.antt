pub mod VerifiedRepairs

pub mod CoverNorms
pub mod CoverRules
pub mod DecidedParts
pub mod DecidedRules

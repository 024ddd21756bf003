pub mod Chains
pub mod CutTexts
pub mod FittingKeys
pub mod Places

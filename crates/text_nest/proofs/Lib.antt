-- ---- terms that closing marks make
pub mod Closings
pub mod LastBits
-- ---- the innermost term where it changes
pub mod Innermost
-- ---- what is open keeps within the limits of terms
pub mod NestFits
pub mod FitNests
pub mod FitMarks
pub mod FitTokens

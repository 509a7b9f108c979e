-- ---- printing
pub mod Plain
pub mod Elements
pub mod Joined
pub mod PrintedBits
-- ---- what is read keeps within the limits of terms
pub mod FitSequences
pub mod FitLexemes
pub mod FitQuotes
pub mod FitSteps
pub mod QuotedFits
-- ---- tokens that are begun
pub mod EscapeDigits
pub mod SequencesTold
-- ---- the reader and the feed
pub mod ReaderSteps
pub mod FeedSteps

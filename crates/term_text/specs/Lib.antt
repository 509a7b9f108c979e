-- ---- middles: the code's reader as a state of the machine of text_model
pub mod LexemeView
pub mod StateFits
pub mod Sequences
pub mod Quoting
pub mod ReaderView
pub mod FeedReads
pub mod FeedInside

-- Lemmas that the laws and rows of this crate need.
-- ---- the machine that takes tokens takes each text of a term
pub mod TakenSteps
pub mod Refused
pub mod Beginning
pub mod Series
pub mod PartsTaken
pub mod KeysApart
pub mod PairsTaken
pub mod SegmentsTaken
pub mod TextTaken
-- ---- what it takes is a text or the front of one
pub mod ReachedNests
pub mod ReachedParts
pub mod Reaching
pub mod ItemsBefore
pub mod OpenTerms
pub mod InsideTerms
pub mod MarksBehind
pub mod MarksRead
pub mod TokensRead
pub mod NestsRead
pub mod Closing
pub mod MayStand
-- ---- looser rules, and keys that are repeated
pub mod Looser
pub mod LooserTexts
pub mod KeyedNests
pub mod RepeatsDiffer
pub mod RefusedKeys
pub mod RepeatedKeys
-- ---- the last token, by the place that it leaves
pub mod Parted
pub mod LastSteps
pub mod LastTaken
-- ---- the machine that reads bytes: how far it comes, and what it knows of the bytes
pub mod Comes
pub mod Runs
pub mod RunSteps
-- ---- bytes: characters, and which token begins
pub mod Sequences
pub mod CutCharacters
pub mod OneMore
pub mod FirstBytes
pub mod TokenStarts
-- ---- from the machine that reads bytes to what is known of them: one more byte of each lexeme, and its faults
pub mod ComesRows
pub mod ComesTokens
pub mod ComesLeads
pub mod Going
pub mod ComesMarks
pub mod ComesBegins
pub mod ComesComments
pub mod ComesWords
pub mod ComesQuotes
pub mod ComesEscapes
pub mod ComesBadEscapes
pub mod ComesEscapeBytes
pub mod ComesLengths
pub mod ComesSteps
pub mod LongerTokens
pub mod ComesEnds
pub mod ComesLast
pub mod RunsCome
-- ---- what may stand where a token begins, and that tokens are as long as they can be
pub mod Passes
pub mod Verdicts
pub mod StringsStand
pub mod OneReading
pub mod LongestTokens
-- ---- from what is known to the rules that are broken
pub mod RowsWell
pub mod RowsBegin
pub mod RowsQuotes
pub mod RowsBytes
pub mod RowsParts
pub mod RowsRefused
pub mod RowsTokens
pub mod RowsEnds
pub mod RowsStops
pub mod RowsBreak
-- ---- and back: how the machine reads blanks, what stands in quotes, and words
pub mod GapWalks
pub mod BlanksRead
pub mod QuotesSteps
pub mod EscapesRead
pub mod CharactersRead
pub mod CharactersRefused
pub mod BadEscapesRead
pub mod SequencesRead
pub mod QuotesRead
pub mod WordsRead
pub mod NumbersRead
pub mod NamesRead
-- ---- whole tokens, texts, and the rules
pub mod WholeTokensRead
pub mod TextsRead
pub mod WellRead
pub mod RulesRead
pub mod InsideRead
pub mod CommentsRead
pub mod StraysRead
pub mod DeepRead
pub mod GrowthRead
pub mod LastRead
pub mod KeysRead
pub mod SegmentsRead
pub mod Outcomes
-- ---- the limit on length
pub mod Limited
pub mod ReachMore
pub mod BlankFronts
pub mod BegunTexts
pub mod LongNumbers
pub mod Liveness
pub mod TooLong
pub mod LimitCases
-- ---- what stands in front of some bytes, and that nothing else does
pub mod Reaches
pub mod ReachedFaults
pub mod UniqueAnswers
pub mod FinishedAnswers
pub mod OpenAnswers
pub mod Answering
pub mod OneSentence
-- ---- scripts, feeds and streams
pub mod TermLengths
pub mod Scripts
pub mod ScriptFronts
pub mod SteadyTexts
-- ---- the printed form of a term
pub mod PrintedBytes
pub mod PrintedTokens
pub mod PrintedNumbers
pub mod PrintedAtoms
pub mod PrintedLists
pub mod AscendingPairs
pub mod PrintedMaps
pub mod PrintedBits
pub mod PrintedSegments
pub mod PrintedTexts
pub mod FaultOffsets

-- Laws of the definitions. A module's own laws, for the proofs of its functions, are in MODULE/Laws.antt.

-- bytes; tests computed for every byte; runs of bytes and texts that end at a cut; the tokens that are runs; loops that scan a run
pub mod Tests
pub mod EveryByte
pub mod Runs
pub mod TokenRuns
pub mod Scans
-- a parser that succeeds ends inside its text
pub mod Onward
-- the place moves by the shift of the base
pub mod Shift
-- locality under appended text: the chain of a text, certificates of the combinators, certificates of the tokens
pub mod Chain
pub mod Locality
pub mod TokenLocality
-- what is lost, by its variant; what a `?` hands on; what a reader's answer gives its caller; loops of the code against `many0` and `iter`
pub mod Losses
pub mod Slicing
pub mod Repetition
-- sequences whose first step is known; a parser made of parsers; what an answer gives its caller; several steps taken as one; parts that are dropped; words by their offsets
pub mod Sequences
pub mod Composed
pub mod AnswerLaws
pub mod Pairs
pub mod Dropping
pub mod WordBetween
-- the doc comment of a run of blanks is in the run
pub mod DocPlace
-- what a first word rules out
pub mod FirstWord
-- the end of a text
pub mod TextEnd
-- numbers of refusals
pub mod Numbers
-- parsers that never stop; what is read is in the text; where it is refused
pub mod Calm
pub mod Truth
pub mod RefusedPlaces
-- where tokens fail
pub mod TokenPlaces
-- an annotation's value is unescaped without a fault
pub mod Unescapes
pub mod KnownAnswers

-- Laws of the definitions. A module's own laws, for the proofs of its functions, are in MODULE/Laws.antt.

-- the place moves by the shift of the base; the records of what was moved
pub mod Shift
pub mod RecordsMoved
-- locality under appended text
pub mod Locality
-- keywords, and which of them the letters of a first word select
pub mod Keywords
pub mod Letters
pub mod Alternatives
-- tries one after the other, and which of them a first word selects
pub mod Choice
pub mod Tries
-- blanks before a parser that begins with blanks
pub mod Blanks
-- what an answer gives its caller of what a function makes of its value
pub mod Mapped
pub mod Recorded
-- parts between braces, a head and then a list, words by their offsets, and the words of records
pub mod Braces
pub mod Headed
pub mod Deep
pub mod Placed
pub mod WordBetween
pub mod RecordWords
pub mod SetSizes
-- parsers that never stop; what is read is in the text; where it is refused
pub mod Truth
pub mod RefusedPlaces
-- what was packed comes back; a word comes back from its bytes
pub mod Packing
-- every record of what is read fits its words
pub mod RecordsFit
-- records come back from their bytes
pub mod ReadBack
-- moving changes offsets and no other bit
pub mod Moving
-- the records of what is read take at most a word for each byte
pub mod WordsPerByte
pub mod KnownAnswers

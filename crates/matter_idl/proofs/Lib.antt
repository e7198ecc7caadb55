-- Laws of the definitions of reading.

-- known answers, closed by computing
pub mod KnownAnswers
-- all items of a text, without the fuel of their definition
pub mod AllItems
-- the places of records
pub mod Places
-- truth of a part and of its text
pub mod Around
-- cutting a text into sections
pub mod Cutting
-- texts one after the other
pub mod Join
-- a section alone and where it is
pub mod SectionsAlone
-- a text and its sections
pub mod Whole
-- the records that the survey hands out
pub mod HandedOut
-- a section replaced
pub mod Replacing
-- demand 3
pub mod Demand3
-- demand 3 once more, field by field
pub mod Demand3Stated
-- what the survey writes fits its bits
pub mod ReportFits
-- what is written splits into its records
pub mod Splitting
-- moving changes offsets and no other bit
pub mod Moving
-- buffers that are always long enough
pub mod EnoughRoom
pub mod Demand3Examples

-- streams that hand out ranges
pub mod Measures
pub mod Ranges
pub mod TextRanges
pub mod TextWindows

-- streams that count their positions
pub mod CountedPositions
pub mod IndexedSlices
pub mod Lines
pub mod PlacedViews

pub mod ChainNodes
pub mod NodePlaces
pub mod SegmentMarks

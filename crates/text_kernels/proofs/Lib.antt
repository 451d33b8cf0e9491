pub mod TextLemmas
pub mod PartLemmas
pub mod CodeLemmas
pub mod MeasureLemmas

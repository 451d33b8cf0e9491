mod RowLemmas
pub mod KeptLemmas
pub mod SelectedLemmas
mod OrderedLemmas
pub mod FrontLemmas
pub mod CutLemmas
mod PieceLemmas

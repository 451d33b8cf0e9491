mod RangeLemmas
mod ShowLemmas
mod SheetLemmas
mod LineLemmas

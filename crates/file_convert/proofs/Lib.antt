mod FrontLemmas
mod RecordLemmas
mod RowLemmas
mod SourceLemmas
mod StageLemmas
mod TableLemmas
mod WindowLemmas

mod RowLemmas
mod QueryLemmas
mod OptionLemmas
mod KeyLemmas

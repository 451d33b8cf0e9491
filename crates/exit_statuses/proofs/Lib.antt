mod StatusLemmas
mod LineLemmas

mod TextLemmas
mod LineLemmas
mod NumberLemmas
mod WordLemmas

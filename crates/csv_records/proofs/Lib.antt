mod DoubledLemmas
mod FrontLemmas
mod ReadLemmas
mod WrittenLemmas

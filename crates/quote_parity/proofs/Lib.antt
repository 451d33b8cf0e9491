pub mod NumberLaws
mod WordLemmas
mod BitLemmas
mod KindLemmas
mod MaskLemmas
mod StepWords
mod StepLemmas

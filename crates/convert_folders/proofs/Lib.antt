pub mod ConversionLemmas

mod DecodeLemmas
mod Utf16Lemmas

use Rattle.std.proofs.Common.{◌≡◌, ◌∙◌, ℕ, List, [], ◌∷◌, false, refl, sym}
use Rattle.std.proofs.Math.Utf8.{encode, scalar}
use Rattle.std.proofs.lemmas.Bool.{false≢true}
use Rattle.std.proofs.lemmas.Str.{is_utf8-from_IsUtf8}
use Rattle.std.specs.Char.Utf16.{utf16_chars}
use Rattle.std.specs.Str.{IsUtf8, chars, is_utf8}
use Rattle.text_encodings.specs.Encodings.{no_unit, one_unit}
use Rattle.text_encodings.specs.Worked.{windows_cologne}
use Rattle.text_encodings.proofs.laws.worked_encodings.Goals as goal

no_utf8 : (bytes : List ℕ) → is_utf8 bytes ≡ false → IsUtf8 bytes → ⊥
no_utf8 bytes e h = false≢true (sym e ∙ is_utf8-from_IsUtf8 bytes h)

pub returns : goal.returns
unfolding encode scalar utf16_chars is_utf8 chars
returns c = record {
  plain = ((75 ∷ 0xF6 ∷ 108 ∷ 110 ∷ [], (refl, refl)), refl);
  marked = ((75 ∷ 0xF6 ∷ 108 ∷ 110 ∷ [], (refl, refl)), refl);
  windows = (no_utf8 windows_cologne refl, refl);
  windows_euro = (no_utf8 (0x80 ∷ []) refl, refl);
  windows_quotes = (no_utf8 (0x93 ∷ 0x94 ∷ []) refl, refl);
  little = record {
    after = 75 ∷ 0 ∷ 0xF6 ∷ 0 ∷ 108 ∷ 0 ∷ 110 ∷ 0 ∷ [];
    units = 75 ∷ 0xF6 ∷ 108 ∷ 110 ∷ [];
    marked = refl;
    are = one_unit 75 0 _ _ (one_unit 0xF6 0 _ _ (one_unit 108 0 _ _ (one_unit 110 0 _ _ no_unit)));
    paired = refl;
    text_is = refl;
  };
  big = record {
    after = 0 ∷ 75 ∷ 0 ∷ 0xF6 ∷ 0 ∷ 108 ∷ 0 ∷ 110 ∷ [];
    units = 75 ∷ 0xF6 ∷ 108 ∷ 110 ∷ [];
    marked = refl;
    are = one_unit 0 75 _ _ (one_unit 0 0xF6 _ _ (one_unit 0 108 _ _ (one_unit 0 110 _ _ no_unit)));
    paired = refl;
    text_is = refl;
  };
  pair = record {
    after = 0xD8 ∷ 0x3D ∷ 0xDE ∷ 0x00 ∷ [];
    units = 0xD83D ∷ 0xDE00 ∷ [];
    marked = refl;
    are = one_unit 0xD8 0x3D _ _ (one_unit 0xDE 0x00 _ _ no_unit);
    paired = refl;
    text_is = refl;
  };
}

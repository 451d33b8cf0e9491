-- The test of texts is false at any two names, and no name has a control character.
use Rattle.std.proofs.Common.{codes, ◌≡◌, ℕ, Bool, true, false, ◌||◌, List, [], ◌∷◌, refl, sym, string_bytes}
use Rattle.std.specs.List.{list_any}
use Rattle.std.specs.Str.{NoCharPasses, NonePass, bytes_eq, encode_utf8_all}
use Rattle.std.proofs.lemmas.Bool.{false≢true}
use Rattle.std.proofs.lemmas.Slice.Eq.{bytes_eq-Decides}
use Rattle.std.proofs.lemmas.Str.{IsUtf8-string_bytes, NoCharPasses-append}
use Rattle.text_escapes.specs.Escapes.{is_control, escaped}
use Rattle.text_escapes.specs.Laws.{EscapedTextsAreOneLine, TextsStayApart}
use Rattle.csvw_meta.specs.declared.fault.MetaFault.{MetaFault}
use Rattle.csvw_meta.specs.declared.fault.MetaFault.TheVariants.{Unsupported}
use Rattle.csvw_meta.specs.Fault.{fault_cause, meta_fault_text, meta_fault_name}
use Rattle.csvw_meta.specs.Laws.{HasPlainKey, IsSameFault, IsWrittenAlike}
use Rattle.csvw_meta.proofs.laws.texts_tell_faults_apart.Goals as goal

-- by the test of the causes; the second equation splits `b`, so the third is of each fault beside each
cause_apart : (a b : MetaFault) → fault_cause a ≡ fault_cause b → bytes_eq (fault_cause a) (fault_cause b) ≡ true → IsSameFault a b
cause_apart (Unsupported key) (Unsupported other) h _ = cc
cause_apart a (Unsupported other) _ e = cc
cause_apart a b _ e = cc

-- and so of the texts
text_apart : (a b : MetaFault) → meta_fault_text a ≡ meta_fault_text b → bytes_eq (meta_fault_text a) (meta_fault_text b) ≡ true → IsWrittenAlike a b
text_apart (Unsupported key) (Unsupported other) h _ = cc
text_apart a (Unsupported other) _ e = cc
text_apart a b _ e = cc

plain_same : TextsStayApart → (a b : MetaFault) → HasPlainKey a → HasPlainKey b → IsWrittenAlike a b → IsSameFault a b
plain_same stay (Unsupported key) (Unsupported other) h k alike = stay _ _ (IsUtf8-string_bytes key) (IsUtf8-string_bytes other) h k alike
plain_same stay a (Unsupported other) h k alike = alike
plain_same stay a b h k alike = alike

written_alike : (a b : MetaFault) → meta_fault_text a ≡ meta_fault_text b → IsWrittenAlike a b
written_alike a b h = text_apart a b h ((bytes_eq-Decides (meta_fault_text a) (meta_fault_text b)).1 h)

none_pass : (cs : List ℕ) → list_any is_control cs ≡ false → NonePass is_control cs
none_pass [] h = tt
none_pass (c ∷ cs) h = go (is_control c) refl h (none_pass cs)
  where
    go : (b : Bool) → is_control c ≡ b → (b || list_any is_control cs) ≡ false → (list_any is_control cs ≡ false → NonePass is_control cs) → NonePass is_control (c ∷ cs)
    go true e k rest = absurd (false≢true (sym k))
    go false e k rest = (e, rest k)

plain : (cs : List ℕ) → list_any is_control cs ≡ false → encode_utf8_all cs ≡ cs → NoCharPasses is_control cs
plain cs h e = (cs, e, none_pass cs h)

none_control : EscapedTextsAreOneLine → (fault : MetaFault) → NoCharPasses is_control (meta_fault_text fault)
unfolding lib.Utf8.encode
none_control lines (Unsupported key) =
    NoCharPasses-append is_control (codes "Unsupported ") (escaped (string_bytes key)) (plain (codes "Unsupported ") refl refl) (lines (string_bytes key)).controls
none_control lines fault = plain (meta_fault_name fault) refl refl

pub returns : goal.returns
returns c = record {
  causes = λ a b h. cause_apart a b h ((bytes_eq-Decides (fault_cause a) (fault_cause b)).1 h);
  alike = written_alike;
  same = λ a b h k e. plain_same c.texts_stay_apart.ensures a b h k (written_alike a b e);
  lines = λ fault. c.plain_texts_are_one_line.ensures (meta_fault_text fault) (none_control c.escaped_texts_are_one_line.ensures fault);
}

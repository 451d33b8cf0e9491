-- Offsets that were written into a vector.
use Rattle.std.proofs.Common.{◌≡◌, ℕ, ◌++◌, Bool, List, length, take, sym, ap, ◌∙◌, subst, w64, FitsSigned}
use Rattle.std.proofs.Common.{to_z, of_z}
use Rattle.std.specs.Prelude.{ℤ}
use Rattle.std.proofs.Math.Seq.{take-append_seam}
use Rattle.std.proofs.lemmas.Int.{to_z-of_z}
use Rattle.frame_of_reference.specs.Offsets.{AreOffsets}

pub offsets_written : (least greatest : ℤ) → FitsSigned w64 least → FitsSigned w64 greatest → (nulls : List Bool) (values : List ℤ) (n : ℕ) (out rest : List ℕ) → length out ≡ n
    → AreOffsets (to_z w64 (of_z w64 least)) (to_z w64 (of_z w64 greatest)) nulls values out → AreOffsets least greatest nulls values (take n (out ++ rest))
offsets_written least greatest low high nulls values n out rest long are =
    subst (AreOffsets least greatest nulls values) (sym (ap (λ k. take k (out ++ rest)) (sym long) ∙ take-append_seam out rest))
    (subst (λ l. AreOffsets l greatest nulls values out) (to_z-of_z w64 least low)
    (subst (λ g. AreOffsets (to_z w64 (of_z w64 least)) g nulls values out) (to_z-of_z w64 greatest high) are))

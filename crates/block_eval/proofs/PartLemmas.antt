-- The years, months and days of the dates of a column.
use Rattle.std.proofs.Common.{◌≡◌, ◌<◌, ℕ, Bool, true, false, None, Some, List, length, get_or, refl, sym, ap, ◌∙◌, arith}
use Rattle.std.specs.Prelude.{ℤ, pos, Vec, option_and_then, option_map}
use Rattle.std.specs.Global.{Global}
use Rattle.cell_types.specs.declared.kind.NumberKind.TheVariants.{Date}
use Rattle.cell_types.specs.Kind.{cell_of}
use Rattle.typed_trees.specs.declared.tree.DatePart.{DatePart}
use Rattle.typed_trees.specs.declared.tree.DatePart.TheVariants.{Year, Month, Day}
use Rattle.row_eval.specs.Outcome.{part_in}
use Rattle.row_eval.specs.Row.{cell, day_in}
use Rattle.number_kernels.specs.declared.numbers.Numbers.TheVariants.{Computed}
use Rattle.block_eval.specs.declared.columns.BlockColumn.{BlockColumn}
use Rattle.block_eval.specs.declared.packed.Unpacked.{Unpacked}
use Rattle.block_eval.specs.Bounded.{GivesBounded}
use Rattle.block_eval.specs.Columns.{unless_null}
use Rattle.block_eval.specs.Packed.{IsUnpackedAt}
use Rattle.block_eval.specs.Parts.{day_part}
use Rattle.block_eval.proofs.LogicLemmas.{wanted_within}

part-cell : (part : DatePart) (null : Bool) (n : ℤ) → option_map (part_in part) (day_in (cell_of Date (unless_null null n))) ≡ unless_null null (day_part part n)
part-cell Year true n = refl
part-cell Month true n = refl
part-cell Day true n = refl
part-cell Year false n = refl
part-cell Month false n = refl
part-cell Day false n = refl

-- a part of each date of a column
pub parts-give : (part : DatePart) (columns : List BlockColumn) (place : ℕ) (wanted : List Bool) (made : Unpacked) (parts : Vec ℤ Global) → IsUnpackedAt columns place Date (length wanted) made
    → length parts.items ≡ length made.values.items → ((i : ℕ) → i < length made.values.items → get_or parts.items i (pos 0) ≡ day_part part (get_or made.values.items i (pos 0)))
    → GivesBounded (λ cells. Some (option_map (part_in part) (cell day_in cells place))) columns wanted (record { numbers = Computed parts made.nulls; bounds = None })
parts-give part columns place wanted made parts is long each =
    let n = λ (row : ℕ). get_or made.values.items row (pos 0) in
    let null = λ (row : ℕ). get_or made.nulls.items row true in
    record {
      numbers = record {
        each = λ row cells h at.
            let within : row < length wanted = wanted_within wanted row h in
            ap (λ v. Some (option_map (part_in part) (option_and_then day_in v))) (is.stand row cells within at)
            ∙ ap (λ x. Some x) (part-cell part (null row) (n row))
            ∙ ap (λ m. Some (unless_null (null row) m)) (sym (each row (omega (arith, within, is.values_long))));
        long = (long ∙ is.values_long, is.nulls_long);
      };
      within = λ row cells h at. tt;
    }

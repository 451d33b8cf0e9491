use Rattle.std.proofs.Common.{string_bytes, None, subst}
use Rattle.text_columns.specs.Bounds.{AreTextBounds}
use Rattle.text_columns.specs.Places.{place_list}
use Rattle.text_columns.specs.PlainParts.{HavePlainParts}
use Rattle.text_columns.proofs.CodeLemmas.{coded-texts}
use Rattle.text_columns.proofs.block.TextBlock.of_texts.Goals as goal

pub invariant_of-result : goal.invariant_of-result
invariant_of-result c =
    let t = c.args.texts in (
      coded-texts t.nulls.items (place_list t.ends) (string_bytes t.bytes) None c.in_ok-codes.codes c.column_of-column.result c.requires c.column_of-column.ensures c.in_ok-codes.ensures,
      subst (λ cells. AreTextBounds cells c.bounds_of-bounds.result) c.column_of-column.ensures c.bounds_of-bounds.ensures,
      subst (λ cells. HavePlainParts cells c.of-plain.result) c.column_of-column.ensures c.of-plain.ensures,
    )

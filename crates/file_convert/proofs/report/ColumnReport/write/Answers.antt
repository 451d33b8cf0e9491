use Rattle.std.proofs.Common.{Bool, refl, subst, ap}
use Rattle.std.specs.Prelude.{option_map}
use Rattle.value_forms.specs.Forms.{cell_made}
use Rattle.file_convert.specs.Rows.{IsMadeIn, Plan, out_cells}
use Rattle.file_convert.proofs.RowLemmas.{if_ok}
use Rattle.file_convert.proofs.report.ColumnReport.write.Goals as goal

pub returns-clause-cells : goal.returns-clause-cells
returns-clause-cells c =
    let made = c.in_ok-made.made in
    let kind = c.args.self.now.kind in
    let R : Bool → Type 0 = λ rounds. IsMadeIn kind rounds c.args.cell.now (option_map cell_made made) in
    if_ok c.push_made.result c.push_made.ensures (λ e. record {
      outs = out_cells kind c.args.cell.now (option_map cell_made made);
      written = record {
        made = option_map cell_made made;
        is = subst R (ap (λ (p : Plan). p.rounds) c.note_null.ensures) c.in_ok-made.ensures;
        outs_are = refl;
      };
      after_is = e;
    })

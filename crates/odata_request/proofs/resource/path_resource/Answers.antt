use Rattle.std.proofs.Common.{sym, ◌∙◌}
use Rattle.odata_request.proofs.PathLemmas.{path_one, path_other, path_uncounted}
use Rattle.odata_request.proofs.resource.path_resource.Goals as goal
use Rattle.odata_request.proofs.resource.path_resource.Goals.{else-count-eq2-via-then-count-eq2+else-is_count_path, else-count-eq2-via-else-count-eq2}

pub returns-then-count-eq1 : goal.returns-then-count-eq1
returns-then-count-eq1 c =
    rw c.as_str.ensures.value at c.one_resource.ensures
    ∙ sym (path_one c.args.catalog.now.tables c.args.segments.now c.index-segments-0.result c.if-count-eq1.true c.index-segments-0.is)

pub returns : goal.returns
returns c =
    let tables = c.args.catalog.now.tables in
    let segments = c.args.segments.now in
    c.other_resource.ensures ∙ sym (elim c.else-count-eq2.branch [
      | else-count-eq2-via-then-count-eq2+else-is_count_path w ↦ path_uncounted tables segments w.index-segments-0-then-count-eq2.result w.index-segments-1.result
          w.if-count-eq2.true w.index-segments-0-then-count-eq2.is w.index-segments-1.is
          (sym (rw (w.as_str-then-count-eq2.ensures.value, w.as_str-then-count-eq2-2.ensures.value) at w.is_count_path.ensures) ∙ w.if-is_count_path.false)
      | else-count-eq2-via-else-count-eq2 w ↦ path_other tables segments c.if-count-eq1.false w.if-count-eq2.false
    ])

use Rattle.std.proofs.Common.{◌≡◌, ◌≤◌, List, ℕ, length, sym, ap, ◌∙◌, subst, arith}
use Rattle.std.specs.List.{AllByRecursion, concat}
use Rattle.result_rows.specs.Rows.{OrderedOf, RowsOf}
use Rattle.reply_text.specs.Pieces.{AreHeads}
use Rattle.reply_text.specs.Pieces.{body_pieces, opening_text}
use Rattle.reply_text.specs.contracts.cursor.of_rows.{JSON-type}
use denote.Param.{number}
use Rattle.reply_text.proofs.BoundLemmas.{pieces_few, pieces_within}
use Rattle.reply_text.proofs.PieceLemmas.{body_is_pieces, opening_same, some_body}
use Rattle.reply_text.proofs.cursor.of_rows.Goals as goal

pub invariant_of-result : goal.invariant_of-result
invariant_of-result g c =
    let json = JSON-type (number g.row.JSON) in
    let rows = c.args.rows.rows in
    let pieces = body_pieces json rows in
    let same : pieces ≡ body_pieces json c.of.result.rows = ap (λ (o : OrderedOf). body_pieces json o.rows) (sym c.of.ensures) in
    let sum : c.of_body-sizes.result.all ≡ length (concat pieces) = omega (arith, c.of_body-sizes.ensures.all, c.if-sizes.false) in
    let near = c.of_body-sizes.ensures.longest (omega (arith, c.of_body-sizes.ensures.all, c.if-sizes.false)) in
    let least = near.least in
    let moved = c.table.ensures.moved in
    let named = c.names.ensures ∙ ap (λ (r : RowsOf). r.names) c.table.ensures.rows ∙ sym moved.names ∙ ap (λ (o : OrderedOf). o.rows.names) (sym c.of.ensures) in
    let again = c.table-2.ensures.moved in
    let opened = opening_same json c.table-2.result.now rows (ap (λ (r : RowsOf). r.names) c.table-2.ensures.rows ∙ sym again.names) (ap (λ (r : RowsOf). r.count) c.table-2.ensures.rows ∙ sym c.table-2.ensures.count) in
    record {
      at = record {
        heads = subst (λ (ns : List (List ℕ)). AreHeads json ns c.in_ok-heads.heads.items) named c.in_ok-heads.ensures;
        opening = rw c.new-opening.ensures.items at c.in_ok-push_opening.ensures ∙ opened ∙ ap (λ (o : OrderedOf). opening_text json o.rows) (sym c.of.ensures);
        taken = omega (arith, ap (λ (o : OrderedOf). o.taken) c.of.ensures, c.requires.untaken);
      };
      size = sum ∙ ap (λ l. length (concat l)) same;
      longest = subst (λ l. AllByRecursion (λ piece. length piece ≤ c.of_body-sizes.result.longest) l) same (pieces_within pieces c.of_body-sizes.result.longest least);
      few = omega (arith, sum, pieces_few pieces (some_body json rows), ap length same, c.of_body-sizes.ensures.all);
    }

pub returns-clause-bytes : goal.returns-clause-bytes
returns-clause-bytes g c =
    let json = JSON-type (number g.row.JSON) in
    ap (λ (o : OrderedOf). concat (body_pieces json o.rows)) c.of.ensures ∙ body_is_pieces json c.args.rows.rows

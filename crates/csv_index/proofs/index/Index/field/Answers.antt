-- What is between two places is the field's text.
use Rattle.std.proofs.Common.{◌≡◌, Some, length, ap, ◌∙◌, sym}
use Rattle.std.specs.List.{slice_get, slice_range}
use Rattle.std.specs.Option.{option_map}
use Rattle.std.proofs.lemmas.Option.{slice_get-map}
use Rattle.csv_fields.specs.Between.{cut, raw_between}
use Rattle.csv_index.proofs.Boundaries.{start_boundary, end_boundary}
use Rattle.csv_index.proofs.CellLemmas.{raw_is_text, cut_at, start_before}
use Rattle.csv_index.proofs.index.Index.field.Goals as goal

pub piece-requires-clause-order : goal.piece-requires-clause-order
piece-requires-clause-order c =
    rw c.start_of.ensures ((start_before c.args.self.now.start (length c.args.bytes.now) c.args.self.now.ends c.args.n c.end_of.result c.requires.bytes.rise c.end_of.ensures).0)

pub piece-requires-clause-start : goal.piece-requires-clause-start
piece-requires-clause-start c =
    rw c.start_of.ensures
    (start_boundary c.args.self.now.start c.args.self.now.ends c.args.bytes.now c.args.n c.end_of.result c.utf8.bytes c.requires.bytes.boundary c.requires.bytes.rise
    c.requires.bytes.ascii c.end_of.ensures)

pub piece-requires-clause-end : goal.piece-requires-clause-end
piece-requires-clause-end c =
    end_boundary c.args.self.now.start c.args.self.now.ends c.args.bytes.now c.args.n c.end_of.result c.requires.bytes.rise c.requires.bytes.ascii c.end_of.ensures

pub between-requires : goal.between-requires
between-requires c =
    raw_is_text c.args.self.now c.args.bytes.now c.args.n c.piece.result.now c.requires.bytes
    (cut_at c.args.self.now.start c.args.self.now.ends c.args.bytes.now c.args.n c.end_of.result c.end_of.ensures
    ∙ ap (λ k. Some (slice_range c.args.bytes.now k c.end_of.result)) (sym c.start_of.ensures) ∙ ap Some (sym c.piece.ensures))

pub returns : goal.returns
returns c =
    let places = c.args.self.now in
    let piece : slice_get (cut c.args.self.now.start c.args.self.now.ends c.args.bytes.now) c.args.n ≡ Some c.piece.result.now =
    cut_at c.args.self.now.start c.args.self.now.ends c.args.bytes.now c.args.n c.end_of.result c.end_of.ensures
    ∙ ap (λ k. Some (slice_range c.args.bytes.now k c.end_of.result)) (sym c.start_of.ensures) ∙ ap Some (sym c.piece.ensures) in
    slice_get-map raw_between (cut c.args.self.now.start c.args.self.now.ends c.args.bytes.now) c.args.n ∙ ap (option_map raw_between) piece ∙ ap Some c.between.ensures

use Rattle.std.proofs.Common.{ℕ, Bool, List, ◌++◌, ◌&&◌, ◌==◌, take, sym, ap, ◌∙◌}
use Rattle.std.specs.List.{list_any}
use Rattle.csv_grammar.specs.Bytes.{double_quote}
use Rattle.csv_grammar.specs.Raw.{halved}
use Rattle.text_columns.proofs.ContentLemmas.{content-halved, content-plain}
use Rattle.text_columns.proofs.QuoteLemmas.{IsUtf8-content}
use Rattle.text_columns.proofs.content.copy_content.Goals as goal

pub returns-then-has-clause-utf8 : goal.returns-then-has-clause-utf8
returns-then-has-clause-utf8 c = IsUtf8-content c.args.text.now c.args.quoted c.utf8.text

pub returns-then-has-clause-copied : goal.returns-then-has-clause-copied
returns-then-has-clause-copied c =
    c.copy_halves.ensures.copied
    ∙ ap (λ xs. take c.args.at c.args.out.now ++ xs)
    (ap halved c.as_bytes-piece.ensures.value ∙ content-halved c.args.text.now c.args.quoted _ (sym c.has_inner_quote-has.ensures ∙ c.if-has.true))

pub returns-clause-utf8 : goal.returns-clause-utf8
returns-clause-utf8 c = IsUtf8-content c.args.text.now c.args.quoted c.utf8.text

pub returns-clause-copied : goal.returns-clause-copied
returns-clause-copied c =
    let any : List ℕ → Bool = λ bytes. c.args.quoted && list_any (λ byte. byte == double_quote) bytes in
    c.copy_piece.ensures.copied
    ∙ ap (λ xs. take c.args.at c.args.out.now ++ xs)
    (c.as_bytes-piece.ensures.value ∙ content-plain c.args.text.now c.args.quoted (sym (ap any c.as_bytes-piece.ensures.value) ∙ sym c.has_inner_quote-has.ensures ∙ c.if-has.false))

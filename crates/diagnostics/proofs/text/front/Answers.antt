-- What the chain over the characters gives.
use Rattle.std.proofs.Common.{◌∙◌, ap}
use Rattle.std.proofs.lemmas.Iterator.{YieldsList-from_chars, YieldsList-from_take, text_from_collect}
use Rattle.std.specs.Str.Iter.{chars_rest}
use Rattle.diagnostics.specs.declared.text.TheConstants.{MOST_CHARACTERS}
use Rattle.diagnostics.proofs.text.front.Goals as goal

pub returns : goal.returns
returns c =
    let rest = ap chars_rest c.take.ensures.source ∙ c.chars.ensures.rest in
    text_from_collect c.collect.result c.collect.ensures.ran
    (YieldsList-from_take MOST_CHARACTERS (YieldsList-from_chars c.args.text.now c.utf8.text rest) c.take.ensures.count)

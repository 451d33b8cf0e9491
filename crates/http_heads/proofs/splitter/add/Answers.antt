use Rattle.std.proofs.Common.{◌≡◌, ◌∙◌, sym, ap, length, take, arith}
use Rattle.http_heads.specs.declared.head.TheConstants.{MAX_HEAD}
use Rattle.http_heads.proofs.RestLemmas.{full_adds, none_ends}
use Rattle.http_heads.proofs.splitter.add.Goals as goal

pub returns-then-before-eq-MAX_HEAD-clause-ok : goal.returns-then-before-eq-MAX_HEAD-clause-ok
returns-then-before-eq-MAX_HEAD-clause-ok c =
    let full : length c.args.rest.now.items ≡ MAX_HEAD = omega (arith, c.args.rest.now.ok.0) in
    full_adds c.args.rest.now.items c.args.piece.now c.requires full

pub returns-then-not-contains-clause-ok : goal.returns-then-not-contains-clause-ok
returns-then-not-contains-clause-ok c =
    let without = sym c.contains.ensures.value ∙ c.if-not-contains.true in (
      c.truncate.ensures.items ∙ ap (take MAX_HEAD) c.in_ok-extend_from_slice.ensures.items,
      none_ends c.args.rest.now.items c.args.piece.now c.requires.none without,
    )

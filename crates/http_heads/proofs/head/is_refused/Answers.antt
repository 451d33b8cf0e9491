use Rattle.std.proofs.Common.{◌≡◌, length, rules}
use Rattle.http_heads.specs.declared.head.TheConstants.{MAX_FIELDS}
use Rattle.http_heads.proofs.HopelessLemmas.{full_hopeless, complete_none}
use Rattle.http_heads.proofs.head.is_refused.Goals as goal

pub returns-then-rest-eq-MAX_HEAD : goal.returns-then-rest-eq-MAX_HEAD
returns-then-rest-eq-MAX_HEAD c = full_hopeless c.args.rest.now c.requires c.if-rest-eq-MAX_HEAD.true

pub returns-in-Ok-Complete : goal.returns-in-Ok-Complete
returns-in-Ok-Complete c =
    let within = rw c.in-Ok-Complete.field-0-is at c.in-Ok-Complete.ensures.within in
    let found = rw c.in-Ok-Complete.field-0-is at c.in-Ok-Complete.ensures.complete in
    let room : length c.parse_request.new.headers ≡ MAX_FIELDS = search rules in
    absurd (complete_none c.args.rest.now c.parse_request.new.headers c.in-Ok-Complete.field-0-0 c.requires room within found)

use Rattle.std.proofs.Common.{length, arith, sym}
use Rattle.std.proofs.lemmas.List.{take_rest, drop_all}
use Rattle.odata_url.specs.Target.{ends_authority}
use Rattle.odata_url.proofs.CutLemmas.{first_at, nowhere}
use Rattle.odata_url.proofs.target.behind_authority.Goals as goal

pub returns-in-Some : goal.returns-in-Some
returns-in-Some c =
    rw (first_at ends_authority c.args.text.now c.in-Some.place c.in-Some.ensures.0 c.in-Some.ensures.1)
    (take_rest c.args.text.now c.in-Some.place)

pub returns-in-None : goal.returns-in-None
returns-in-None c =
    rw (nowhere ends_authority c.args.text.now c.in-None.ensures) (sym (drop_all (length c.args.text.now) c.args.text.now (omega arith)))

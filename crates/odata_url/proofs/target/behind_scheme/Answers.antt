use Rattle.std.proofs.Common.{◌≡◌, ◌∙◌, map, take, refl, sym, ap}
use Rattle.std.specs.Prelude.{codes}
use Rattle.std.specs.Char.{to_ascii_lowercase}
use Rattle.std.proofs.lemmas.List.{take_rest}
use Rattle.std.proofs.lemmas.Slice.Eq.{bytes_eq-Decides}
use Rattle.odata_url.proofs.target.behind_scheme.Goals as goal

pub returns-then-eq_ignore_ascii_case : goal.returns-then-eq_ignore_ascii_case
returns-then-eq_ignore_ascii_case c =
    let same : map to_ascii_lowercase (take 7 c.args.bytes.now) ≡ codes "http://" =
    ap (map to_ascii_lowercase) (sym c.in_ok-scheme.ensures.lookup.0.2) ∙ c.if-eq_ignore_ascii_case.ensures.test.0 refl in
    ((bytes_eq-Decides _ _).1 same, take_rest c.args.bytes.now 7)

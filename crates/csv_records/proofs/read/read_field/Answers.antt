use Rattle.std.proofs.Common.{map}
use Rattle.std.specs.Cow.{cow_slice_items}
use Rattle.csv_records.specs.Exchange.{exchanged}
use Rattle.csv_records.proofs.ReadLemmas.{plain_field, quoted_field}
use Rattle.csv_records.proofs.read.read_field.Goals as goal

pub returns-in-None : goal.returns-in-None
returns-in-None c =
    plain_field c.args.separator (map (exchanged c.args.separator) c.args.text.now) (cow_slice_items c.read_plain.result.cell)
    (map (exchanged c.args.separator) c.read_plain.result.rest.now) c.read_plain.ensures

pub returns-in_ok-read_quoted-in-Some : goal.returns-in_ok-read_quoted-in-Some
returns-in_ok-read_quoted-in-Some c =
    quoted_field c.args.separator (map (exchanged c.args.separator) c.args.text.now) (map (exchanged c.args.separator) c.in-Some.inside.now)
    (cow_slice_items c.in_ok-read_quoted-in-Some.field-0.cell) (map (exchanged c.args.separator) c.in_ok-read_quoted-in-Some.field-0.rest.now) c.in-Some.ensures
    c.in_ok-read_quoted-in-Some.ensures

use Rattle.std.proofs.Common.{◌++◌, length-append, ap, sym, subst, arith}
use Rattle.csvw_meta.specs.Schema.{SchemaOf}
use Rattle.file_cells.proofs.ReadingLemmas.{given_is}
use Rattle.table_store.specs.File.{with_more}
use Rattle.table_store.specs.Steps.{IsAtStage}
use Rattle.table_store.proofs.table_loading.TableLoading.feed.Goals as goal

pub returns-then-given-bytes-clause-fault : goal.returns-then-given-bytes-clause-fault
returns-then-given-bytes-clause-fault c = λ file schema loads.
    let bytes = c.args.bytes.now in
    let at = subst (IsAtStage c.args.limit file schema) c.in-File.is loads.reads in (
      sym (ap (λ (s : SchemaOf). s.url) loads.of_schema),
      (
        at.0 ++ bytes,
        ap (with_more bytes) at.1.0,
        omega (arith, c.if-given-bytes.true, c.given.ensures, given_is schema.columns at.0 c.in-File.reading at.2, length-append at.0 bytes),
      ),
    )

pub returns-clause-loads : goal.returns-clause-loads
returns-clause-loads c = λ file schema loads.
    let bytes = c.args.bytes.now in
    let at = subst (IsAtStage c.args.limit file schema) c.in-File.is loads.reads in (
      record {
        of_schema = loads.of_schema;
        keys = loads.keys;
        defaults = loads.defaults;
        reads = (
          at.0 ++ bytes,
          (ap (with_more bytes) at.1.0, omega (arith, c.if-given-bytes.false, c.given.ensures, given_is schema.columns at.0 c.in-File.reading at.2, length-append at.0 bytes)),
          c.in_ok-feed-in-File.ensures.reads schema.columns at.0 at.2,
        );
      },
      rw c.in-File.is (omega (arith, c.in_ok-feed-in-File.ensures.left)),
    )

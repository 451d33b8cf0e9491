-- The keys of annotated tables are different, have no null, and find their rows.
use Rattle.std.proofs.Common.{ℕ, zero, suc, List, [], ◌∷◌, All, arith}
use Rattle.csvw_meta.specs.Schema.{SchemaOf}
use Rattle.key_index.specs.Laws.{AreKeys, KeysFindRows}
use Rattle.table_store.specs.Catalog.{HaveTables}
use Rattle.table_store.specs.File.{FileOf}
use Rattle.table_store.specs.Table.{TableOf, keys_of}

pub HaveTables-keys : KeysFindRows → (limit : ℕ) (files : List FileOf) (schemas : List SchemaOf) (tables : List TableOf)
    → HaveTables limit files schemas tables → All (λ (table : TableOf). AreKeys (keys_of table)) tables
HaveTables-keys law limit files schemas [] have k d within = absurd (omega arith)
HaveTables-keys law limit files [] (t ∷ tables) have k d within = absurd have
HaveTables-keys law limit files (s ∷ schemas) (t ∷ tables) have zero d within = law (keys_of t) have.0.is.whole have.0.is.distinct
HaveTables-keys law limit files (s ∷ schemas) (t ∷ tables) have (suc k) d within = HaveTables-keys law limit files schemas tables have.1 k d (omega arith)

-- What a piece adds to the heads that wait.
use Rattle.std.specs.Prelude.{◌≡◌, ◌++◌, ℕ, Bool, List}
use Rattle.table_store.specs.Catalog.{CatalogOf}
use Rattle.http_heads.specs.Head.{HeadOf}
use Rattle.http_heads.specs.Cut.{IsCut}
use Rattle.odata_hub.specs.Streams.{Asked, asked}

-- the heads that are cut off the stream wait after the others, each with these tables, and the rest is kept
pub record IsCutInto (catalog : CatalogOf) (stream : List ℕ) (old new : List Asked) (rest : List ℕ) (closed : Bool) : Type 0 where
  pub heads : List HeadOf
  pub cut : IsCut stream heads rest closed
  pub waits : new ≡ old ++ asked catalog heads

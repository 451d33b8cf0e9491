-- A stream whose pieces came while different tables were current, and its heads, each with its tables.
use Rattle.std.specs.Prelude.{◌≡◌, ℕ, Bool, List, [], ◌∷◌, ◌++◌, map}
use Rattle.std.specs.List.{flat_map}
use Rattle.table_store.specs.Catalog.{CatalogOf}
use Rattle.http_heads.specs.Head.{HeadOf}
use Rattle.http_heads.specs.Cut.{IsCut}

-- a piece of a stream, and the tables that were current as it came
pub record Came : Type 0 where
  pub catalog : CatalogOf
  pub bytes : List ℕ

-- the stream: its pieces joined
abbrev pub bytes_of : List Came → List ℕ
bytes_of stream = flat_map (λ piece. piece.bytes) stream

-- a head, and the tables that it is answered from
pub record Asked : Type 0 where
  pub catalog : CatalogOf
  pub head : HeadOf

-- these heads, all of these tables
abbrev pub asked : CatalogOf → List HeadOf → List Asked
asked catalog heads = map (λ head. record { catalog = catalog; head = head }) heads

abbrev pub heads_of : List Asked → List HeadOf
heads_of heads = map (λ a. a.head) heads

-- The heads that are whole with a piece and were not before it: after `before`, of which the heads `cut` are cut off, it brings the last byte
-- of each of these.
pub record Brings (before : List ℕ) (cut : List HeadOf) (piece : List ℕ) (heads : List HeadOf) : Type 0 where
  pub rest : List ℕ
  pub closed : Bool
  pub whole : IsCut (before ++ piece) (cut ++ heads) rest closed

-- Each head that these pieces bring has the tables that were current as the piece with its last byte came.
abbrev pub AreAskedBehind : List ℕ → List HeadOf → List Came → List Asked → Type 0
AreAskedBehind before cut [] all = all ≡ []
AreAskedBehind before cut (piece ∷ pieces) all = (heads : List HeadOf) × (later : List Asked) × (all ≡ asked piece.catalog heads ++ later)
    × Brings before cut piece.bytes heads × AreAskedBehind (before ++ piece.bytes) (cut ++ heads) pieces later

-- the heads that are cut off a stream, each with its tables; what is left; and whether the last of them closes the connection
pub record IsCutUnder (stream : List Came) (heads : List Asked) (rest : List ℕ) (closed : Bool) : Type 0 where
  pub cut : IsCut (bytes_of stream) (heads_of heads) rest closed
  pub asked : AreAskedBehind [] [] stream heads

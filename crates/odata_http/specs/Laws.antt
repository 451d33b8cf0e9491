-- What holds of the heads and the replies of every stream, and of the calls that each takes.
use Rattle.std.specs.Prelude.{◌≡◌, ◌<◌, ◌≤◌, ℕ, Bool, true, false, List, ◌++◌, Some, length, max, slice_get}
use Rattle.table_store.specs.Block.{block_count}
use Rattle.table_store.specs.Catalog.{CatalogOf}
use Rattle.table_store.specs.Table.{TableOf}
use Rattle.http_heads.specs.Checks.{head_fault}
use Rattle.http_heads.specs.Cut.{IsCut}
use Rattle.http_heads.specs.Head.{HeadOf}
use Rattle.http_heads.specs.Hopeless.{IsHopeless}
use Rattle.odata_request.specs.Request.{AsksFor, RequestOf, refused, rows, service}
use Rattle.odata_http.specs.Answer.{AreSmall}
use Rattle.odata_http.specs.Exchange.{HeadTakes}
use Rattle.odata_http.specs.Reply.{IsReply, rest_reply}
use Rattle.odata_http.specs.Replies.{IsCertain, AreReplies}

-- no head that is cut off a stream has a target longer than a head may be
abbrev pub CutsAreSmall : Type 0
CutsAreSmall = (stream : List ℕ) (heads : List HeadOf) (rest : List ℕ) (closed : Bool) → IsCut stream heads rest closed → AreSmall heads

-- no head has two
abbrev pub OneReply : (HeadOf → List ℕ → Type 0) → Type 0
OneReply R = (head : HeadOf) (reply other : List ℕ) → R head reply → R head other → reply ≡ other

-- no stream has two lists of them
pub record OneReading (R : HeadOf → List ℕ → Type 0) : Type 0 where
  pub certain : (s c d r q : List ℕ) (a b : Bool) → IsCertain R s c r a → IsCertain R s d q b → (c ≡ d) × (r ≡ q) × (a ≡ b)
  pub replies : (s c d : List ℕ) (a b : Bool) → AreReplies R s c a → AreReplies R s d b → (c ≡ d) × (a ≡ b)

-- Unless s closed, the replies of s and p are those that are certain after s, and then those of its rest and p; where it closed, they are
-- those of s.
pub record Joins (R : HeadOf → List ℕ → Type 0) : Type 0 where
  pub certain : (s p c d r q : List ℕ) (b : Bool) → IsCertain R s c r false → IsCertain R (r ++ p) d q b → IsCertain R (s ++ p) (c ++ d) q b
  pub replies : (s p c d r : List ℕ) (b : Bool) → IsCertain R s c r false → AreReplies R (r ++ p) d b → AreReplies R (s ++ p) (c ++ d) b
  pub certain_closed : (s p c r : List ℕ) → IsCertain R s c r true → IsCertain R (s ++ p) c r true
  pub replies_closed : (s p c : List ℕ) → AreReplies R s c true → AreReplies R (s ++ p) c true

-- Where the rest of a stream is hopeless its replies are those that are certain, and one to the rest, whatever follows the stream.
abbrev pub HopelessEnds : (HeadOf → List ℕ → Type 0) → Type 0
HopelessEnds R = (s p c r : List ℕ) → IsCertain R s c r false → IsHopeless r → AreReplies R (s ++ p) (c ++ rest_reply) false

-- of the replies to heads under the tables of some folder
abbrev pub UnderTables : ((HeadOf → List ℕ → Type 0) → Type 0) → Type 0
UnderTables law = (catalog : CatalogOf) → law (IsReply catalog)

-- one call for each block of the table at most, and one where it has none, or where no table is asked for
abbrev pub TakesCalls : CatalogOf → RequestOf → ℕ → Type 0
TakesCalls catalog (refused code) calls = calls ≡ 1
TakesCalls catalog service calls = calls ≡ 1
TakesCalls catalog (rows asked) calls =
    (table : TableOf) → slice_get catalog.tables asked.table ≡ Some table → calls ≤ max 1 (block_count (length table.rows))

-- A head takes one number of calls: one at least, and no more than its table has blocks.
pub record OneLength : Type 0 where
  pub one : (catalog : CatalogOf) (head : HeadOf) (calls others : ℕ) → HeadTakes catalog head calls → HeadTakes catalog head others → calls ≡ others
  pub some : (catalog : CatalogOf) (head : HeadOf) (calls : ℕ) → HeadTakes catalog head calls → 0 < calls
  pub within : (catalog : CatalogOf) (head : HeadOf) (calls : ℕ) (request : RequestOf) → HeadTakes catalog head calls
      → AsksFor catalog (head_fault head) head.target request → TakesCalls catalog request calls

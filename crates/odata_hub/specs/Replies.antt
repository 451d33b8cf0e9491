-- The replies of a stream (RFC 9112, section 9.3) whose heads have tables of their own: those to its heads, one after another.
use Rattle.std.specs.Prelude.{◌≡◌, ◌⊎◌, ℕ, Bool, true, List, [], ◌++◌, if◌then◌else◌}
use Rattle.std.specs.List.{AllZip, concat}
use Rattle.odata_http.specs.Reply.{IsReply}
use Rattle.odata_http.specs.Replies.{last_reply}
use Rattle.odata_hub.specs.Streams.{Came, Asked, IsCutUnder}

-- the reply to a head, from its own tables
abbrev pub IsReplyTo : Asked → List ℕ → Type 0
IsReplyTo a reply = IsReply a.catalog a.head reply

-- the replies that are certain after a stream, whatever follows; after its end all, with that to a rest
pub record AreHubReplies (stream : List Came) (ended : Bool) (replies : List ℕ) : Type 0 where
  pub heads : List Asked
  pub rest : List ℕ
  pub closed : Bool
  pub cut : IsCutUnder stream heads rest closed
  pub each : List (List ℕ)
  pub are : AllZip IsReplyTo heads each
  pub replies_are : replies ≡ concat each ++ (if ended then last_reply rest else [])

-- what stands after the replies to some first heads: nothing, or after the last head of a stream that ended the reply to its rest
abbrev pub IsBehind : Bool → List Asked → List ℕ → List ℕ → Type 0
IsBehind ended others rest bytes = (bytes ≡ []) ⊎ ((ended ≡ true) × (others ≡ []) × (bytes ≡ last_reply rest))

-- some of the first of these replies, each of them whole
pub record AreFirstHubReplies (stream : List Came) (ended : Bool) (some : List ℕ) : Type 0 where
  pub answered : List Asked
  pub others : List Asked
  pub rest : List ℕ
  pub closed : Bool
  pub cut : IsCutUnder stream (answered ++ others) rest closed
  pub each : List (List ℕ)
  pub are : AllZip IsReplyTo answered each
  pub behind : List ℕ
  pub behind_is : IsBehind ended others rest behind
  pub some_are : some ≡ concat each ++ behind

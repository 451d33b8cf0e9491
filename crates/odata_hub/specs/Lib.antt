pub mod Streams
pub mod Replies
pub mod Connections
pub mod Schedules
pub mod Laws
pub mod Held
pub mod Pieces
pub mod Work
pub mod Stands
pub use Rattle.odata_http.specs.Reply
pub use Rattle.odata_http.specs.Replies as ReplyLists
pub use Rattle.odata_http.specs.Exchange
pub use Rattle.odata_http.specs.Lazy
pub use Rattle.odata_http.specs.Request
pub use Rattle.http_heads.specs.Hopeless

-- Replies put together from their parts.
use Rattle.std.proofs.Common.{◌≡◌, ℕ, Bool, true, Option, Some, None, if◌then◌else◌, List, ◌++◌, Result, Ok, Err, OnOk, IfOk, is_ok, length, append_assoc, refl, sym, ap, ◌∙◌}
use Rattle.table_store.specs.Catalog.{CatalogOf}
use Rattle.table_store.specs.Table.{TableOf}
use Rattle.odata_http.specs.declared.media.Media.{Media}
use Rattle.http_heads.specs.declared.method.Method.{Method}
use Rattle.http_heads.specs.Checks.{head_fault, closes}
use Rattle.http_heads.specs.Method.{method_of}
use Rattle.query_meaning.specs.Meaning.{query_meaning}
use Rattle.odata_request.specs.Laws.{OneRequest}
use Rattle.odata_request.specs.Request.{RequestOf, refused, rows, service}
use Rattle.odata_http.specs.Reply.{IsReply, ResponseOf, RespondsWith, body_for, reply_lines, reply_of, reply_with, rows_response}
use Rattle.odata_http.specs.Laws.{OneReply}

-- five pieces, written one after another; the last may have failed
pub five_written : {T E : Type 0} (r : Result T E) (start a b d e f p q s t u : List ℕ) → a ≡ start ++ p → b ≡ a ++ q → d ≡ b ++ s → e ≡ d ++ t → f ≡ (if is_ok r then e ++ u else e) → OnOk r (f ≡ start ++ (p ++ q ++ s ++ t ++ u))
five_written (Ok x) start a b d e f p q s t u one two three four five = rw (five, four, three, two, one) (simp append_assoc)
five_written (Err x) start a b d e f p q s t u one two three four five = tt

-- three pieces; the last may have failed
pub three_written : {T E : Type 0} (r : Result T E) (start a b d p q s : List ℕ) → a ≡ start ++ p → b ≡ a ++ q → OnOk r (d ≡ b ++ s)
    → OnOk r (d ≡ start ++ (p ++ q ++ s))
three_written (Ok x) start a b d p q s one two three = rw (three, two, one) (simp append_assoc)
three_written (Err x) start a b d p q s one two three = tt

-- a reply laid together from two parts
pub two_parts : {X E : Type 0} (view : X → List ℕ) (r : Result X E) (head body : List ℕ) (method : Option Method) (content : List ℕ) (status size : ℕ) (media : Media) (closing : Bool)
    → IfOk r (λ x. view x ≡ head ++ body) → head ≡ reply_lines status media size closing → size ≡ length content → body ≡ body_for method content
    → IfOk r (λ x. view x ≡ reply_with method status media content closing)
two_parts view (Ok x) head body method content status size media closing all first counted second = rw (all, first, counted, second) refl
two_parts view (Err e) head body method content status size media closing all first counted second = tt

-- and one to no method, which has its body, and closes
pub rest_written : (head slice content : List ℕ) (status size : ℕ) (media : Media) → head ≡ reply_lines status media size true → size ≡ length content → slice ≡ content
    → head ++ slice ≡ reply_with None status media content true
rest_written head slice content status size media lines counted is = rw (lines, counted, is) refl

response_one : (catalog : CatalogOf) (request : RequestOf) (r s : ResponseOf) → RespondsWith catalog request r → RespondsWith catalog request s → r ≡ s
response_one catalog (refused code) r s h k = h ∙ sym k
response_one catalog service r s h k = h ∙ sym k
response_one catalog (rows asked) r s h k =
    let table : h.table ≡ k.table = ap some_table (sym h.table_is ∙ k.table_is) in
    h.response_is ∙ ap (λ t. rows_response asked.format (query_meaning t.schema asked.query t.rows)) table ∙ sym k.response_is
  where
    some_table : Option TableOf → TableOf
    some_table (Some t) = t
    some_table None = h.table

-- a head has one reply at most
pub one_reply : OneRequest → (catalog : CatalogOf) → OneReply (IsReply catalog)
one_reply law catalog head reply other x y =
    let request = law catalog (head_fault head) head.target x.request y.request x.asks y.asks in
    let response = response_one catalog y.request x.response y.response (rw request at x.responds) y.responds in
    x.reply_is ∙ ap (λ r. reply_of (method_of head.method) r (closes head)) response ∙ sym y.reply_is

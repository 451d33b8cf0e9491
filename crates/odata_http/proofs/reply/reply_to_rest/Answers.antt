use Rattle.std.proofs.Common.{◌≡◌, ℕ, List, true, length, ap, ◌∙◌, arith}
use Rattle.odata_errors.specs.Code.{status_of}
use Rattle.odata_errors.specs.declared.code.Code.TheVariants.{BadRequest}
use Rattle.reply_text.specs.Body.{error_text}
use Rattle.odata_http.specs.declared.media.Media.TheVariants as media
use Rattle.odata_http.specs.Reply.{reply_lines, rest_reply}
use Rattle.odata_http.proofs.ReplyLemmas.{rest_written}
use Rattle.odata_http.proofs.reply.reply_to_rest.Goals as goal

pub returns : goal.returns
unfolding rest_reply
returns c =
    let long : c.len.result ≡ length c.in_ok-body.body.items = omega (arith, c.len.ensures, c.in_ok-body.body.ok.0) in
    c.in_ok-extend_from_slice.ensures.items
    ∙ rest_written c.in_ok-reply.reply.items c.deref.result.now (error_text BadRequest) (status_of BadRequest) c.len.result media.Json
    (c.in_ok-reply.ensures ∙ ap (λ (status : ℕ). reply_lines status media.Json c.len.result true) c.status-status.ensures)
    (long ∙ ap (λ (l : List ℕ). length l) c.in_ok-body.ensures)
    (c.deref.ensures.value ∙ c.in_ok-body.ensures)

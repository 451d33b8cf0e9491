use Rattle.std.proofs.Common.{rules, ◌≡◌, ◌∙◌, drop, subst, sym, take}
use Rattle.http_heads.specs.Head.{BeginsWith, HeadOf, head_at}
use Rattle.http_heads.proofs.PlaceLemmas.{head-front}
use Rattle.http_heads.proofs.checked.first_checked.Goals as goal

pub returns-clause-head : goal.returns-clause-head
returns-clause-head c =
    let bytes = c.args.bytes.now in
    let spans = c.in-Some.spans in
    let headers = c.first_spans.new.headers in
    let own : c.in_ok-own.own.items ≡ take spans.len bytes = search rules in
    let fields : c.in_ok-fields.fields.items ≡ take spans.headers headers = search rules in
    let within = c.in-Some.ensures.within in
    let same : c.at.result ≡ head_at bytes spans.method spans.path spans.version (take spans.headers headers) =
    c.at.ensures ∙ rw (own, fields) (head-front spans.len bytes spans.method spans.path spans.version (take spans.headers headers) within.method within.path within.section.headers_fit) in
    subst (λ (h : HeadOf). BeginsWith bytes h (drop spans.len bytes)) (sym same) c.in-Some.ensures.head

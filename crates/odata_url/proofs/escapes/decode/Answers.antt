use Rattle.std.proofs.Common.{rules, ◌≡◌, inr, sym, ap, subst, ◌∙◌, true, false, is_none, Ok, IsUtf8, string_bytes}
use Rattle.percent_encoding.specs.Percent.{percent_decode}
use Rattle.odata_url.specs.Escapes.{octets_of}
use Rattle.odata_url.proofs.EscapeLemmas.{decoded_text-broken, decoded_text-utf8, decoded_text-not_utf8}
use Rattle.odata_url.proofs.escapes.decode.Goals as goal

pub returns-then-has_broken_escape : goal.returns-then-has_broken_escape
returns-then-has_broken_escape c =
    let broken : is_none (octets_of c.args.text.now) ≡ true = cc in
    inr (decoded_text-broken _ broken)

pub returns-in-Ok : goal.returns-in-Ok
returns-in-Ok c =
    let whole : is_none (octets_of c.args.text.now) ≡ false = cc in
    let octets : c.in_ok-octets.octets.items ≡ percent_decode c.args.text.now = search rules in
    let utf8 : IsUtf8 c.in_ok-octets.octets.items = search rules in
    let text : string_bytes c.from_utf8_unchecked.result ≡ c.in_ok-octets.octets.items = search rules in
    decoded_text-utf8 c.args.text.now whole (subst IsUtf8 octets utf8) ∙ ap Ok (sym (text ∙ octets))

pub returns-in-Err : goal.returns-in-Err
returns-in-Err c =
    let whole : is_none (octets_of c.args.text.now) ≡ false = cc in
    let octets : c.in_ok-octets.octets.items ≡ percent_decode c.args.text.now = search rules in
    let none : ¬ (IsUtf8 c.in_ok-octets.octets.items) = search rules in
    inr (decoded_text-not_utf8 c.args.text.now whole (λ utf8. none (subst IsUtf8 (sym octets) utf8)))

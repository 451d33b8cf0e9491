use Rattle.std.proofs.Common.{◌≡◌, ◌∙◌, ℕ, List, inr, subst, take}
use Rattle.std.specs.Io.KnownBytes.{Appends}
use Rattle.odata_serve.specs.Serving.{port_line}
use Rattle.odata_serve.proofs.serving.write_port.Goals as goal

pub returns : goal.returns
returns g c =
    let is : c.as_bytes.result.now ≡ port_line c.in-Ok.port = c.as_bytes.ensures.value ∙ c.in_ok-line.ensures.ok in
    let front = c.in-Err.ensures.err in
    let Front : List ℕ → Type 0 = λ line. Appends (g.W.Sink.sink c.args.out.now).taken (g.W.Sink.sink c.send.new.out).taken (take front.0 line) in
    inr (
      (c.in-Ok.port, c.in-Ok.ensures.port, front.0, record { gained = subst Front is front.2; failed = c.in-Err.ensures.failed }),
      (c.in-Ok.ensures.answered, c.in-Ok.ensures.failed),
    )

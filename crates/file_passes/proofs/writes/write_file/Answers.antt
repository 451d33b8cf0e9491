use Rattle.std.proofs.Common.{◌++◌, subst, sym}
use Rattle.csvw_meta.specs.Schema.{schema_view}
use Rattle.folder_checks.specs.Checks.{IsChecking}
use Rattle.file_passes.specs.Passes.{IsMaking, MakesMore}
use Rattle.file_passes.proofs.writes.write_file.Goals.{else-loop-piece-test, then-loop-piece-test+in_ok-next+then-not-branch}
use Rattle.file_passes.proofs.writes.write_file.Goals as goal

pub loop-piece-preserved : goal.loop-piece-preserved
loop-piece-preserved c =
    let inv = c.loop-piece.invariant in
    let made = inv.0 ++ c.next.new.self.out.items in
    let more = subst (λ b. MakesMore c.loop-piece.pass c.next.new.self b) c.if-not-branch.false c.in_ok-next.ensures in (
      made,
      more c.args.source.now.asked inv.0 inv.1,
      subst (λ l. IsChecking (schema_view c.args.schema.now) (inv.0 ++ l) c.in-Ok.on) c.as_slice-in-loop-piece.ensures.value (c.in-Ok.ensures inv.0 inv.2),
    )

pub returns-in-Ok-check_on : goal.returns-in-Ok-check_on
returns-in-Ok-check_on c =
    let asked = c.args.source.now.asked in
    let inv = c.loop-piece.invariant in
    let making : IsMaking asked inv.0 c.loop-piece-test.pass =
    elim c.loop-piece-test.branch [
      | else-loop-piece-test w ↦ subst (λ p. IsMaking asked inv.0 p) (sym w.pass-is) inv.1
      | then-loop-piece-test+in_ok-next+then-not-branch w ↦ subst (λ p. IsMaking asked inv.0 p) (sym w.pass-is)
          ((subst (λ b. MakesMore c.loop-piece.pass w.next.new.self b) w.if-not-branch.true w.in_ok-next.ensures) asked inv.0 inv.1)
    ] in
    let ended = c.in_ok-converted.ensures asked inv.0 making in
    let made = inv.0 ++ c.in_ok-converted.rest.items in (
      ended.0,
      made,
      c.in_ok-converted.converted,
      ended.1,
      subst (λ l. IsChecking (schema_view c.args.schema.now) (inv.0 ++ l) c.in-Ok-check_on.check) c.as_slice-3.ensures.value (c.in-Ok-check_on.ensures inv.0 inv.2),
    )

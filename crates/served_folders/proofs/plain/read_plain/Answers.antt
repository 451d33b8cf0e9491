use Rattle.std.proofs.Common.{◌≤◌, ℕ, sym, subst}
use Rattle.std.specs.Io.KnownBytes.{Consumes}
use Rattle.served_folders.proofs.DiskLemmas.{consumed_more, front_read}
use Rattle.served_folders.proofs.plain.read_plain.Goals as goal

pub returns-clause-bytes : goal.returns-clause-bytes
returns-clause-bytes g c =
    let remaining = g.R.File.Read.remaining in
    let told = remaining c.in_ok-file.file in
    let left = remaining c.read_piece.new.file in
    let bytes = c.read_piece.new.bytes in
    let on = c.in_ok-read_piece.ensures.bytes in
    let consumed = consumed_more told (remaining c.loop-bytes.file) left c.loop-bytes.bytes.items on.piece c.loop-bytes.invariant.1 on.consumed in
    record {
      file = c.in_ok-file.file;
      front =
          front_read told left bytes.items 1073741825 (subst (Consumes told left) (sym on.appended) consumed)
          (subst (λ (n : ℕ). n ≤ 1073741825) bytes.ok.0 c.in_ok-read_piece.ensures.most) (on.over c.if-branch.false);
    }

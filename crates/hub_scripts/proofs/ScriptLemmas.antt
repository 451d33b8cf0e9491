-- A source that is read to its end.
use Rattle.std.proofs.Common.{◌≡◌, ◌∙◌, ◌+◌, ◌++◌, ◌-◌, ◌^◌, ◌<◌, ℕ, List, [], Option, None, Some, refl, sym, ap, subst, append-nil, arith}
use Rattle.std.specs.Prelude.{IfSome}
use Rattle.std.specs.Io.KnownBytes.{Consumes, IsAtEnd}
use Rattle.std.proofs.KnownBytes.{Consumes-nil, Consumes-trans}
use Rattle.odata_http.specs.Device.{Counts, SourceOf}

-- these bytes were read, in `reads` reads, of which none failed and none reported the end
pub record IsReadTo (old now : SourceOf) (script : List ℕ) (reads : ℕ) : Type 0 where
  pub consumed : Consumes old.left now.left script
  pub reads_are : now.reads ≡ old.reads + reads
  pub ends : now.ends ≡ old.ends
  pub failed : now.failed_reads ≡ old.failed_reads

consumed_all : (a d : Option (List ℕ)) (xs : List ℕ) → Consumes a d xs → IsAtEnd d → IfSome a (λ all. xs ≡ all)
consumed_all None d xs h end = tt
consumed_all (Some all) None xs h end = absurd h
consumed_all (Some all) (Some left) xs h end = sym (h ∙ ap (λ (r : List ℕ). xs ++ r) end ∙ append-nil xs)

pub read_none : (s : SourceOf) → IsReadTo s s [] 0
read_none s = record { consumed = Consumes-nil s.left; reads_are = omega arith; ends = refl; failed = refl }

pub read_more : {old now next : SourceOf} {script : List ℕ} {reads : ℕ} (piece : List ℕ) → IsReadTo old now script reads
    → old.reads < 2 ^ 63 → reads < 2 ^ 32 → Consumes now.left next.left piece → Counts now.reads next.reads → next.ends ≡ now.ends
    → next.failed_reads ≡ now.failed_reads → IsReadTo old next (script ++ piece) (reads + 1)
read_more {old} {now} {next} {script} {reads} piece to few small more counts ends failed =
    let before = to.reads_are in
    let fits : now.reads < 2 ^ 64 - 1 = omega arith in
    let one : next.reads ≡ now.reads + 1 = counts fits in
    record {
      consumed = Consumes-trans old.left now.left next.left script piece to.consumed more;
      reads_are = omega arith;
      ends = ends ∙ to.ends;
      failed = failed ∙ to.failed;
    }

pub read_all : {old now : SourceOf} {script : List ℕ} {reads : ℕ} (next : SourceOf) → IsReadTo old now script reads → Consumes now.left next.left []
    → IsAtEnd next.left → IfSome old.left (λ all. script ≡ all)
read_all {old} {now} {script} next to last end =
    consumed_all old.left next.left script
    (subst (λ (xs : List ℕ). Consumes old.left next.left xs) (append-nil script) (Consumes-trans old.left now.left next.left script [] to.consumed last)) end

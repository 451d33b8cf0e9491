use Rattle.std.specs.Fmt.{decimal}
use Rattle.exit_statuses.proofs.LineLemmas.{fault_plain, plain_append, plain_decimal, printable_plain}
use Rattle.exit_statuses.proofs.laws.faults_are_one_line.Goals as goal

pub returns : goal.returns
returns c =
    let line = c.plain_texts_are_one_line.ensures in record {
      texts = λ taken fault met.
          line _ (fault_plain c.accepted_schemas.ensures (λ meta. (c.texts_tell_faults_apart.ensures.lines meta).controls) taken fault met);
      printable = λ text h. line text (printable_plain text h);
      numbers = λ n. line (decimal n) (plain_decimal n);
      joined = λ front text a b. line _ (plain_append front text a.controls b.controls);
    }

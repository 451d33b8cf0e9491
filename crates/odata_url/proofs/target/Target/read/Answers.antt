use Rattle.std.proofs.Common.{inr, sym}
use Rattle.std.proofs.lemmas.Result.{err_from_is_err_and}
use Rattle.odata_url.proofs.FaultLemmas.{fault_of_part}
use Rattle.odata_url.proofs.TargetLemmas.{target_of-form, target_of-path, target_of-query, target_of-all, options_of-nothing}
use Rattle.odata_url.proofs.target.Target.read.Goals as goal
use Rattle.odata_url.proofs.target.Target.read.Goals.{in-Some+in_ok-options-in-Some, in-None}

pub returns-in_err-behind_slash : goal.returns-in_err-behind_slash
returns-in_err-behind_slash c =
    let error = err_from_is_err_and c.from_residual.result c.from_residual.ensures.1 in
    rw (error.1, error.2) (inr (target_of-form c.args.bytes.now _ c.in_err-behind_slash.ensures))

pub returns-in_err-segments : goal.returns-in_err-segments
returns-in_err-segments c =
    let error = err_from_is_err_and c.from_residual-in_err-segments.result c.from_residual-in_err-segments.ensures.1 in
    rw (error.1, error.2)
    (fault_of_part _ _ _ (target_of-path c.args.bytes.now _ _ _ c.in_ok-behind_slash.ensures c.cut.ensures.in_front) c.in_err-segments.ensures)

pub returns-in_err-options-in-Some : goal.returns-in_err-options-in-Some
returns-in_err-options-in-Some c =
    let error = err_from_is_err_and c.from_residual-in_err-options-in-Some.result c.from_residual-in_err-options-in-Some.ensures.1 in
    let query = rw c.in-Some.is at c.cut.ensures.behind in
    rw (error.1, error.2)
    (fault_of_part _ _ _ (target_of-query c.args.bytes.now _ _ _ _ _ c.in_ok-behind_slash.ensures c.cut.ensures.in_front c.in_ok-segments.ensures query) c.in_err-options-in-Some.ensures)

pub returns : goal.returns
returns c =
    elim c.match-query.branch [
      | in-Some+in_ok-options-in-Some w ↦
          let query = rw w.in-Some.is at c.cut.ensures.behind in
          rw w.options-is (target_of-all c.args.bytes.now _ _ _ _ _ c.in_ok-behind_slash.ensures c.cut.ensures.in_front c.in_ok-segments.ensures query w.in_ok-options-in-Some.ensures)
      | in-None w ↦
          let query = rw w.in-None.is at c.cut.ensures.behind in
          rw (w.options-is, w.new-options.ensures.items) (target_of-all c.args.bytes.now _ _ _ _ _ c.in_ok-behind_slash.ensures c.cut.ensures.in_front c.in_ok-segments.ensures (sym query) options_of-nothing)
    ]
